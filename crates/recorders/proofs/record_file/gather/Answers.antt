use Rattle.std.proofs.Common.{[], take}
use Rattle.recorders.proofs.Counts.{Gathers-then}
use Rattle.recorders.proofs.record_file.gather.Goals as goal
use Rattle.recorders.proofs.record_file.gather.Goals.{else-bytes-text-via-then-bytes-text+else-not-hand_on, else-bytes-text-via-else-bytes-text}

pub returns-clause-gathers : goal.returns-clause-gathers
returns-clause-gathers g c =
    let adds = g.S.Sink.adds in
    let first = c.args.file.now in
    let gathered = c.args.gathered.now.bytes.items in
    let text = take c.gather_in.result c.args.text.now in
    elim c.else-bytes-text.branch [
      | else-bytes-text-via-then-bytes-text+else-not-hand_on w ↦
          Gathers-then adds first w.hand_on.new.file c.gather_in.new.file gathered []
          w.hand_on.new.gathered.bytes.items text c.gather_in.new.gathered.bytes.items
          w.hand_on.ensures.gathers (rw (← w.file-is, ← w.gathered-is) c.gather_in.ensures.gathers)
      | else-bytes-text-via-else-bytes-text w ↦
          rw (← w.file-is, ← w.gathered-is) c.gather_in.ensures.gathers
    ]
