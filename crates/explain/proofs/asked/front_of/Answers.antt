use Rattle.std.proofs.Common.{◌∷◌, None, Some, refl, ap, inl, inr, ◌∙◌}
use Rattle.std.specs.Prelude.{codes}
use Rattle.arguments.specs.Arguments.{texts}
use Rattle.teller.specs.declared.telling.Detail.TheVariants.{Brief, Whole}
use Rattle.explain.proofs.Fronts.{bare_left, both_left, brief_left, named_left, says, turned_left}
use Rattle.explain.proofs.asked.front_of.Goals as goal

pub returns-in-Some-brief_at : goal.returns-in-Some-brief_at
returns-in-Some-brief_at c =
    let words = texts c.args.words.now in
    let rest = texts c.in-Some-brief_at.rest.now in
    let is = c.in-Some.ensures.found
    ∙ ap (λ after. codes "--story" ∷ c.in-Some.file.now ∷ after) c.in-Some-brief_at.ensures.found in
    says words rest (Some c.in-Some.file.now) Brief (inl is)
    (both_left words rest c.in-Some.file.now is)

pub returns-in-None : goal.returns-in-None
returns-in-None c =
    let words = texts c.args.words.now in
    let rest = texts c.in-Some.rest.now in
    let is = c.in-Some.ensures.found in
    says words rest (Some c.in-Some.file.now) Whole (inl is)
    (named_left words rest c.in-Some.file.now is c.in-None.ensures.none)

pub returns-in_default-brief_at : goal.returns-in_default-brief_at
returns-in_default-brief_at c =
    let words = texts c.args.words.now in
    says words words None Whole (inl refl)
    (bare_left words words refl c.in_default.ensures.none c.in_default-brief_at.ensures.none)

pub returns-in-Some-story_at : goal.returns-in-Some-story_at
returns-in-Some-story_at c =
    let words = texts c.args.words.now in
    let rest = texts c.in-Some-story_at.rest.now in
    let is = c.in-Some-brief_at-2.ensures.found
    ∙ ap (λ after. codes "--brief" ∷ after) c.in-Some-story_at.ensures.found in
    says words rest (Some c.in-Some-story_at.file.now) Brief (inr is)
    (turned_left words rest c.in-Some-story_at.file.now is)

pub returns-in-None-story_at : goal.returns-in-None-story_at
returns-in-None-story_at c =
    let words = texts c.args.words.now in
    let rest = texts c.in-Some-brief_at-2.rest.now in
    let is = c.in-Some-brief_at-2.ensures.found in
    says words rest None Brief (inl is)
    (brief_left words rest is c.in-None-story_at.ensures.none)
