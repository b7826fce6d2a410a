use Rattle.std.proofs.Common.{◌∷◌, ◌++◌, [], ap, sym, subst, flat_map, ◌∙◌}
use Rattle.arguments.specs.Arguments.{setting_of, spelled, texts}
use Rattle.arguments.specs.Options.{AreOnce}
use Rattle.arguments.proofs.Readings.{begins_with, front_texts, none_of, one_more}
use Rattle.arguments.proofs.arguments.options_of.Goals as goal

pub returns-in_err-options-clause-none : goal.returns-in_err-options-clause-none
returns-in_err-options-clause-none g c =
    let (done, words, held) = c.options.invariant in
    none_of c.from_residual.result (λ settings rest replay made limit begin once.
    let (behind, is) = begins_with done settings (setting_of c.in-Some.setting)
    (texts c.in-Some.behind.now) rest
    (sym begin.spells ∙ words
    ∙ ap (λ more. flat_map spelled done ++ more) c.in-Some.ensures.found) begin.behind in
    c.in_err-options.ensures.twice done behind replay made limit held
    (subst (λ all. AreOnce all replay made limit) is once))

pub options-preserved : goal.options-preserved
options-preserved g c =
    let (done, words, held) = c.options.invariant in (
      done ++ setting_of c.in-Some.setting ∷ [],
      one_more done (setting_of c.in-Some.setting) (texts c.args.words.now) (texts c.options.rest.now)
          (texts c.in-Some.behind.now) words c.in-Some.ensures.found,
      c.in_ok-options.ensures.more done held,
    )

pub returns-clause-found : goal.returns-clause-found
returns-clause-found g c =
    let (done, words, held) = c.options.invariant in (
      done,
      record { spells = words; behind = c.in_default.ensures.none },
      front_texts c.args.words.now c.options.rest.now done words,
      held,
    )
