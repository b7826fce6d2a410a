use Rattle.std.proofs.Common.{ap, ◌∙◌, ◌++◌, []}
use Rattle.story.specs.Line.{line}
use Rattle.teller.proofs.vain.push_over.Goals as goal

pub returns : goal.returns
returns g c = (
  c.branch_of.result.now,
  c.in_ok-push_line.ensures ∙ ap (λ what. c.args.out.now.items ++ line [] what
      c.branch_of.result.now) (c.deref.ensures.value ∙ c.in_ok-what.ensures),
)
