use Rattle.std.proofs.Common.{◌++◌, take, drop, sym, ap, ◌∙◌}
use Rattle.std.proofs.lemmas.List.{take_rest}
use Rattle.lines.proofs.Cuts.{some_left}
use Rattle.records.proofs.Sinks.{Gets-more, Takes-part, fails_at-nothing, fails_at-something, left_over, moved}
use Rattle.records.proofs.sink.put_all.Goals as goal

pub returns-then-taken-eq0 : goal.returns-then-taken-eq0
returns-then-taken-eq0 g c =
    let (well, done, gets, split) = c.text.invariant in
    let rest = c.text.rest.now in
    let n = c.put-taken.result in
    let put = c.put-taken.ensures in
    let some = some_left rest (sym c.is_empty.ensures ∙ c.text-test.true) in
    let none = c.if-taken-eq0.true in
    Takes-part g.S.Sink.adds g.S.Sink.has_failed c.args.sink.now c.put-taken.new.self
    c.args.text.now (done ++ take n rest) (drop n rest) (sym c.failed.ensures
    ∙ c.if-failed.false)
    (put.fails ∙ fails_at-nothing _ rest n none some) (Gets-more _ _ _ _ done _ gets put.adds)
    (moved _ done rest n split)
    (left_over rest n none some)

pub text-preserved : goal.text-preserved
text-preserved g c =
    let (well, done, gets, split) = c.text.invariant in
    let rest = c.text.rest.now in
    let n = c.put-taken.result in
    let put = c.put-taken.ensures in (
      put.fails ∙ fails_at-something _ rest n well c.if-taken-eq0.false,
      done ++ take n rest,
      Gets-more _ _ _ _ done _ gets put.adds,
      moved _ done rest n split ∙ ap (λ bytes. (done ++ take n rest) ++ bytes)
          (sym (take_rest rest n)),
    )
