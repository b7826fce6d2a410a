use Rattle.std.proofs.Common.{◌≡◌, drop}
use Rattle.procedures.specs.Formals.{all_whole}
use Rattle.procedures.proofs.formals.all_whole.Given as goal

abbrev pub invariant-loop-formal : goal.invariant-loop-formal
invariant-loop-formal g l =
    all_whole l.text l.formals ≡ all_whole l.text (drop l.formal-index l.formals)
