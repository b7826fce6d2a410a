use Rattle.std.proofs.Common.{◌≡◌, ◌∙◌, drop, length, None, Some, sym, ap, rules, arith}
use Rattle.commands.proofs.Words.{first_word, no_word}
use Rattle.expects.specs.Expect.{by_name, of_form}
use Rattle.expects.specs.View.{form_of}
use Rattle.expects.specs.Words.{named}
use Rattle.machine.proofs.Machines.{leads_from, nothing_leads}
use Rattle.machine.proofs.Silent.{same_left}
use Rattle.machine.proofs.starting.give.Goals as goal

pub returns-in_default-clause-begins : goal.returns-in_default-clause-begins
returns-in_default-clause-begins g c = λ frames state last s fits.
    let words = c.as_slice.result.now in
    let zero : length words ≡ 0 = search (rules, arith) in
    leads_from last frames state
    (same_left last frames (ap (λ ws. by_name c.args.levels s ws)
    (sym c.as_slice.ensures.value ∙ no_word words zero)))
    (nothing_leads last frames c.empty.result s state c.empty.ensures fits)

pub returns-in-Some-clause-begins : goal.returns-in-Some-clause-begins
returns-in-Some-clause-begins g c = λ frames state last s fits.
    let words = c.as_slice.result.now in
    let levels = c.args.levels in
    let first = c.name-item.result in
    let form = form_of c.in-Some.form in
    let split = first_word words first c.in-len1-up.len_at_least c.name-item.is in
    let formed : named first ≡ Some form = rw c.as_slice-2.ensures at (sym c.in-Some.ensures) in
    record {
      status = s;
      fits = fits;
      goes = same_left last frames
          (ap (λ ws. by_name levels s ws) (sym c.as_slice.ensures.value ∙ split)
          ∙ ap (λ f. of_form f levels s (drop 1 words)) formed
          ∙ ap (λ ws. of_form (Some form) levels s (drop 1 ws)) c.as_slice.ensures.value);
    }

pub returns-in-None-clause-begins : goal.returns-in-None-clause-begins
returns-in-None-clause-begins g c = λ frames state last s fits.
    let words = c.as_slice.result.now in
    let levels = c.args.levels in
    let first = c.name-item.result in
    let split = first_word words first c.in-len1-up.len_at_least c.name-item.is in
    let none : named first ≡ None = rw c.as_slice-2.ensures at (sym c.in-None.ensures) in
    leads_from last frames state
    (same_left last frames (ap (λ ws. by_name levels s ws) (sym c.as_slice.ensures.value ∙ split)
    ∙ ap (λ f. of_form f levels s (drop 1 words)) none))
    (nothing_leads last frames c.empty-in-None.result s state c.empty-in-None.ensures fits)
