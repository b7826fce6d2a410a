use Rattle.std.proofs.Common.{◌≡◌, ◌∙◌, length, MatchOption, subst, sym, ap, rules, arith}
use Rattle.machine.specs.Frames.{left_of, stack}
use Rattle.machine.specs.Phases.{Leads}
use Rattle.commands.proofs.Words.{no_word}
use Rattle.steps.proofs.Named.{command_none}
use Rattle.machine.proofs.Machines.{begun_from, leads_from, nothing_leads, on_ok}
use Rattle.machine.proofs.Silent.{same_left}
use Rattle.steps.proofs.Leads.Silent.{same_goes, then_goes}
use Rattle.runs.specs.Commands.{command, other_command}
use Rattle.state.specs.Prelude.{FitsState}
use Rattle.state.specs.declared.leaf.Leaf.TheVariants as leaf
use Rattle.machine.proofs.starting.call.Goals as goal

pub returns-then-is_empty-clause-begins : goal.returns-then-is_empty-clause-begins
returns-then-is_empty-clause-begins g c = λ last s fits.
    let frames = stack c.args.frames.now in
    let words = c.args.words.items in
    let zero : length words ≡ 0 = search (rules, arith) in
    leads_from last frames c.args.state.now
    (same_left last frames (command_none c.args.levels words s (no_word words zero)))
    (nothing_leads last frames c.empty.result s c.args.state.now c.empty.ensures fits)

pub returns-in-Some-clause-begins : goal.returns-in-Some-clause-begins
returns-in-Some-clause-begins g c = λ last s fits.
    let old = stack c.args.frames.now in
    let new = stack c.call_control.new.frames in
    let state = c.call_control.new.state in
    let levels = c.args.levels in
    let words = c.as_slice-2.result.now in
    let leads = subst (λ r. MatchOption r
    ((command levels s words ≡ other_command levels s words) × FitsState state s × (new ≡ old))
    (λ outcome. Leads last (leaf.Has outcome) new state (left_of last
    (command levels s words) old)))
    c.in-Some.is (c.in_ok-outcome.ensures.leads last s fits) in
    leads_from last new state
    (same_left last old (ap (λ ws. command levels s ws) (sym c.as_slice-2.ensures.value))) leads

pub returns-in-None-clause-begins : goal.returns-in-None-clause-begins
returns-in-None-clause-begins g c = λ last s fits.
    let old = stack c.args.frames.now in
    let new = stack c.call_control.new.frames in
    let state = c.call_control.new.state in
    let levels = c.args.levels in
    let words = c.as_slice-2.result.now in
    let kept = subst (λ r. MatchOption r
    ((command levels s words ≡ other_command levels s words) × FitsState state s × (new ≡ old))
    (λ outcome. Leads last (leaf.Has outcome) new state (left_of last
    (command levels s words) old)))
    c.in-None.is (c.in_ok-outcome.ensures.leads last s fits) in
    let same = ap (λ ws. command levels s ws) (sym c.as_slice-2.ensures.value) ∙ kept.0
    ∙ ap (λ ws. other_command levels s ws) c.as_slice-2.ensures.value in
    on_ok c.call_other.result (λ begun has. begun_from last new c.call_other.new.state
    (then_goes (same_left last old same)
    (same_goes (ap (λ fs. left_of last (other_command levels s c.args.words.items) fs)
    (sym kept.2))))
    begun has)
    (c.call_other.ensures.begins new last s kept.1)
