use Rattle.std.proofs.Common.{◌≡◌, ◌≤◌, ◌-◌, false, length, take}
use Rattle.records.specs.Sink.{Gets}
use Rattle.recorders.proofs.record_file.put_count.Given as goal

abbrev pub invariant-text : goal.invariant-text
invariant-text g l =
    (l.done ≤ length l.text) × (g.S.Sink.has_failed l.sink ≡ false)
    × Gets g.S.Sink.adds l.fn.sink (take l.done l.text) l.sink

abbrev pub decreases-text : goal.decreases-text
decreases-text g l = length l.text - l.done
