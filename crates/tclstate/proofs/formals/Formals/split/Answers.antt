use Rattle.std.proofs.Common.{◌∙◌}
use Rattle.tclstate.proofs.Reading.{rest_split, all_single}
use Rattle.tclstate.proofs.formals.Formals.split.Goals as goal

pub returns-then-ends_in_args-clause-single : goal.returns-then-ends_in_args-clause-single
returns-then-ends_in_args-clause-single g c =
    rest_split c.as_slice-all.result.now c.args.self.now c.ends_in_args.result
    (c.as_slice-all.ensures.value ∙ c.self.view_is) c.ends_in_args.ensures
    c.if-ends_in_args.true

pub returns-else-ends_in_args-clause-single : goal.returns-else-ends_in_args-clause-single
returns-else-ends_in_args-clause-single g c =
    all_single c.as_slice-all.result.now c.args.self.now c.ends_in_args.result
    (c.as_slice-all.ensures.value ∙ c.self.view_is) c.ends_in_args.ensures
    c.if-ends_in_args.false
