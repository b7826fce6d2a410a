use Rattle.std.proofs.Common.{◌≡◌, [], drop}
use Rattle.nesting.proofs.Calling.{all_given}
use Rattle.nesting.specs.Calls.{values_of}
use Rattle.tclstate.specs.Formals.{single, takes_rest}
use Rattle.nesting.proofs.calls.bind_all.Given as goal

abbrev pub invariant-loop-formal : goal.invariant-loop-formal
invariant-loop-formal g l =
    all_given (values_of (takes_rest l.fn.formals) (single l.fn.formals) l.fn.words) []
    ≡ all_given (values_of l.takes_rest (drop l.formal-index l.single) l.rest) l.frame
