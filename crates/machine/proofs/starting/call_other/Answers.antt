use Rattle.std.proofs.Common.{◌≡◌, ◌∙◌, drop, length, None, Some, sym, ap, rules, arith}
use Rattle.commands.proofs.Words.{first_word, no_word}
use Rattle.commands.specs.Commands as plain
use Rattle.expects.specs.Words.{named as form_of}
use Rattle.expects.specs.View as expects
use Rattle.steps.proofs.Named.{other_none, other_plain, other_waits}
use Rattle.machine.proofs.Machines.{begun_from, leads_from, nothing_leads, on_ok}
use Rattle.machine.proofs.Silent.{same_left}
use Rattle.runs.specs.Commands.{other_command}
use Rattle.expects.specs.Expect.{expect}
use Rattle.machine.proofs.starting.call_other.Goals as goal

pub returns-in_default-clause-begins : goal.returns-in_default-clause-begins
returns-in_default-clause-begins g c = λ frames last s fits.
    let words = c.as_slice.result.now in
    let zero : length words ≡ 0 = search (rules, arith) in
    leads_from last frames c.args.state.now
    (same_left last frames (ap (λ ws. other_command c.args.levels s ws)
    (sym c.as_slice.ensures.value)
    ∙ other_none c.args.levels words s (no_word words zero)))
    (nothing_leads last frames c.empty.result s c.args.state.now c.empty.ensures fits)

pub returns-in-Some-clause-begins : goal.returns-in-Some-clause-begins
returns-in-Some-clause-begins g c = λ frames last s fits.
    let words = c.as_slice.result.now in
    let levels = c.args.levels in
    let first = c.name-item.result in
    let form = expects.form_of c.in-Some.form in
    let split = first_word words first c.in-len1-up.len_at_least c.name-item.is in
    let formed : form_of first ≡ Some form = rw c.as_slice-2.ensures at (sym c.in-Some.ensures) in
    record {
      status = s;
      fits = fits;
      goes = same_left last frames
          (ap (λ ws. other_command levels s ws) (sym c.as_slice.ensures.value)
          ∙ other_waits levels words s first (drop 1 words) split form formed
          ∙ ap (λ ws. expect form levels (drop 1 ws) s) c.as_slice.ensures.value);
    }

pub returns-in-None-clause-begins : goal.returns-in-None-clause-begins
returns-in-None-clause-begins g c = λ frames last s fits.
    let words = c.as_slice.result.now in
    let levels = c.args.levels in
    let first = c.name-item.result in
    let split = first_word words first c.in-len1-up.len_at_least c.name-item.is in
    let none : form_of first ≡ None = rw c.as_slice-2.ensures at (sym c.in-None.ensures) in
    on_ok c.call_plain.result (λ begun has. begun_from last frames c.call_plain.new.state
    (same_left last frames
    (ap (λ ws. other_command levels s ws) (sym c.as_slice.ensures.value)
    ∙ other_plain levels words s first (drop 1 words) split none
    ∙ ap (λ ws. plain.command s ws) c.as_slice.ensures.value))
    begun has)
    (c.call_plain.ensures.begins frames last s fits)
