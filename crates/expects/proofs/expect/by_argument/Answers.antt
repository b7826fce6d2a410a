use Rattle.std.proofs.Common.{◌≡◌, ◌∙◌, [], None, Some, ap, refl, rules, subst, sym}
use Rattle.state.specs.Prelude.{text_of, Leaves, Error}
use Rattle.expects.proofs.Answering.{argument_reaches}
use Rattle.expects.proofs.Comings.{comes_after, comes_reading, opening_comes, over_is}
use Rattle.expects.specs.Expect.{by_words}
use Rattle.expects.specs.View.{course_of_begun, form_of}
use Rattle.kept.specs.Argument.{IsRead}
use Rattle.state.proofs.Reaches.{same_reaches, then_reaches}
use Rattle.state.proofs.Words.{literal_words}
use Rattle.state.specs.Faults.{flaw_of_fault}
use Rattle.tclparse.specs.Grammar.{IsArgument}
use Rattle.tclparse.specs.Seen.{fault_of}
use Rattle.expects.proofs.expect.by_argument.Goals as goal
use Rattle.tclparse.specs.Tree.{literals}

pub returns-in_ok-by_words-in-Texts-clause-comes : goal.returns-in_ok-by_words-in-Texts-clause-comes
returns-in_ok-by_words-in-Texts-clause-comes g c = λ s fits.
    let form = form_of c.args.form in
    let levels = c.args.levels in
    let text = c.args.text.now in
    let texts = c.deref-in-Texts.result.now in
    let same : texts ≡ c.in-Texts.words.value.items = search rules in
    let read = subst (λ ts. IsArgument (literals ts) None text) (sym same)
    (subst (λ it. IsRead it text) c.in-Texts.is c.in_ok-words.ensures) in
    comes_after (course_of_begun levels) _ _ _ _
    (then_reaches (argument_reaches form levels text s (literals texts) None read)
    (same_reaches (literal_words levels texts [] s (by_words form levels))))
    (opening_comes levels _ _ _ (c.in_ok-by_words-in-Texts.ensures.comes s fits))

pub returns-in-Words-clause-comes : goal.returns-in-Words-clause-comes
returns-in-Words-clause-comes g c = λ s fits.
    let text = c.args.text.now in
    comes_reading (course_of_begun c.args.levels) _ _ s _ fits
    (argument_reaches (form_of c.args.form) c.args.levels text s c.in-Words.words None
    (subst (λ it. IsRead it text) c.in-Words.is c.in_ok-words.ensures))

pub returns-in_ok-raised-in-Faulty-clause-comes : goal.returns-in_ok-raised-in-Faulty-clause-comes
returns-in_ok-raised-in-Faulty-clause-comes g c = λ s fits.
    let text = c.args.text.now in
    let fault = fault_of c.in-Faulty.fault in
    let told = flaw_of_fault fault in
    let is = subst (λ it. IsRead it text) c.in-Faulty.is c.in_ok-words.ensures in
    comes_reading (course_of_begun c.args.levels) _ _ s _ fits
    (then_reaches
    (argument_reaches (form_of c.args.form) c.args.levels text s is.0 (Some fault) is.1)
    (same_reaches (over_is c.in_ok-raised-in-Faulty.field-0 (Leaves Error (text_of told)) s _
    (c.in_ok-raised-in-Faulty.ensures ∙ ap (λ f. Leaves Error (text_of f)) c.no_script.ensures)
    refl)))
