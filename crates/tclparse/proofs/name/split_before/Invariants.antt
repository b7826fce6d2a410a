use Rattle.std.proofs.Common.{◌≡◌, ◌≤◌, ◌++◌, ◌-◌, length, take, drop}
use Rattle.tclparse.specs.Variable.{until, from}
use Rattle.tclparse.proofs.name.split_before.Given as goal

abbrev pub invariant-loop-len : goal.invariant-loop-len
invariant-loop-len l = (l.len ≤ length l.text)
    × (take l.len l.text ++ until l.byte (drop l.len l.text) ≡ until l.byte l.text)
    × (from l.byte (drop l.len l.text) ≡ from l.byte l.text)

abbrev pub decreases-loop-len : goal.decreases-loop-len
decreases-loop-len l = length l.text - l.len
