use Rattle.std.proofs.Common.{◌∙◌, arith}
use Rattle.std.proofs.lemmas.List.{take_rest}
use Rattle.records.proofs.Sinks.{fails_at-something}
use Rattle.recorders.proofs.Counts.{Gets-last, Gets-next}
use Rattle.recorders.proofs.record_file.put_count.Goals as goal

pub returns-then-taken-eq0-clause-gets : goal.returns-then-taken-eq0-clause-gets
returns-then-taken-eq0-clause-gets g c =
    let (within, well, gets) = c.text.invariant in
    let put = rw (take_rest c.args.text.now c.text.done) at c.put-taken.ensures.adds in
    Gets-last g.S.Sink.adds c.args.sink.now c.text.sink c.put-taken.new.self c.args.text.now
    c.text.done c.put-taken.result c.if-taken-eq0.true gets put

pub text-preserved : goal.text-preserved
text-preserved g c =
    let (within, well, gets) = c.text.invariant in
    let put = c.put-taken.ensures in
    let adds = rw (take_rest c.args.text.now c.text.done) at put.adds in (
      omega (arith, put.within),
      put.fails ∙ fails_at-something _ _ c.put-taken.result well c.if-taken-eq0.false,
      Gets-next g.S.Sink.adds c.args.sink.now c.text.sink c.put-taken.new.self c.args.text.now
          c.text.done c.put-taken.result gets adds,
    )
