use Rattle.std.proofs.Common.{◌≡◌, drop}
use Rattle.readings.specs.Reads.{first_shut}
use Rattle.readings.proofs.id_list.first_shut.Given as goal

-- none of the ids so far is shut
abbrev pub invariant-loop-id : goal.invariant-loop-id
invariant-loop-id g l = first_shut l.table.lines (drop l.id-index l.ids)
    ≡ first_shut l.table.lines l.ids
