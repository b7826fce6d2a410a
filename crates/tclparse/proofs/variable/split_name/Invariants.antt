use Rattle.std.proofs.Common.{◌≡◌, ◌≤◌, ◌++◌, ◌-◌, length, take, drop}
use Rattle.tclparse.specs.Variable.{name_at, after_name}
use Rattle.tclparse.proofs.variable.split_name.Given as goal

abbrev pub invariant-loop-len : goal.invariant-loop-len
invariant-loop-len l = (l.len ≤ length l.text)
    × (take l.len l.text ++ name_at (drop l.len l.text) ≡ name_at l.text)
    × (after_name (drop l.len l.text) ≡ after_name l.text)

abbrev pub decreases-loop-len : goal.decreases-loop-len
decreases-loop-len l = length l.text - l.len
