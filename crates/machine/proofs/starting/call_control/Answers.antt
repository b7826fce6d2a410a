use Rattle.std.proofs.Common.{◌≡◌, ◌∙◌, ◌-◌, ◌∷◌, drop, length, take, None, Some, MatchOption, refl, subst, sym, ap, rules, arith}
use Rattle.commands.proofs.Words.{no_word}
use Rattle.nesting.specs.Commands.{does, named}
use Rattle.nesting.specs.View.{control_of}
use Rattle.machine.specs.Frames.{left_of, stack}
use Rattle.machine.specs.Phases.{Leads}
use Rattle.steps.proofs.Named.{command_none, command_other, command_runs, other_none, taken_apart}
use Rattle.machine.proofs.Machines.{leads_from}
use Rattle.machine.proofs.Silent.{same_left}
use Rattle.steps.proofs.Leads.Silent.{same_goes, then_goes}
use Rattle.runs.specs.Commands.{command}
use Rattle.state.specs.Prelude.{FitsState}
use Rattle.state.specs.declared.leaf.Leaf.TheVariants as leaf
use Rattle.tclstate.specs.Pairs.{found}
use Rattle.machine.proofs.starting.call_control.Goals as goal

pub returns-in_default-clause-leads : goal.returns-in_default-clause-leads
returns-in_default-clause-leads g c = λ last s fits.
    let words = c.args.words.now in
    let zero : length words ≡ 0 = search (rules, arith) in
    let none = no_word words zero in (
      command_none c.args.levels words s none ∙ sym
          (other_none c.args.levels words s none),
      fits,
      refl,
    )

pub returns-in-Some-clause-leads : goal.returns-in-Some-clause-leads
returns-in-Some-clause-leads g c = λ last s fits.
    let old = stack c.args.frames.now in
    let new = stack c.call_procedure.new.frames in
    let state = c.call_procedure.new.state in
    let levels = c.args.levels in
    let words = c.args.words.now in
    let name = c.as_slice-name.result.now in
    let args = take (length words - 1) (drop 1 words) in
    let split : words ≡ name ∷ args =
    taken_apart words c.name-item.result name c.in-len1-up.len_at_least c.name-item.is
    c.as_slice-name.ensures in
    let leads = subst (λ r. MatchOption r
    ((found s.procedures name ≡ None) × FitsState state s × (new ≡ old))
    (λ outcome. Leads last (leaf.Has outcome) new state (left_of last (command levels s
    (name ∷ args)) old)))
    c.in-Some.is (c.in_ok-outcome.ensures.leads last s fits) in
    leads_from last new state (same_left last old (ap (λ ws. command levels s ws) split)) leads

pub returns-in-None-clause-leads : goal.returns-in-None-clause-leads
returns-in-None-clause-leads g c = λ last s fits.
    let old = stack c.args.frames.now in
    let new = stack c.call_procedure.new.frames in
    let state = c.call_procedure.new.state in
    let levels = c.args.levels in
    let words = c.args.words.now in
    let name = c.as_slice-name.result.now in
    let args = take (length words - 1) (drop 1 words) in
    let split : words ≡ name ∷ args =
    taken_apart words c.name-item.result name c.in-len1-up.len_at_least c.name-item.is
    c.as_slice-name.ensures in
    let kept = subst (λ r. MatchOption r
    ((found s.procedures name ≡ None) × FitsState state s × (new ≡ old))
    (λ outcome. Leads last (leaf.Has outcome) new state (left_of last (command levels s
    (name ∷ args)) old)))
    c.in_default-2.is (c.in_ok-outcome.ensures.leads last s fits) in
    let none : named name ≡ None = sym c.in-None.ensures in
    (command_other levels words s name args split kept.0 none, kept.1, kept.2)

pub returns-in_ok-outcome-in-Some-read-clause-leads :
    goal.returns-in_ok-outcome-in-Some-read-clause-leads
returns-in_ok-outcome-in-Some-read-clause-leads g c = λ last s fits.
    let old = stack c.args.frames.now in
    let new = stack c.call_procedure.new.frames in
    let state = c.call_procedure.new.state in
    let levels = c.args.levels in
    let words = c.args.words.now in
    let name = c.as_slice-name.result.now in
    let args = take (length words - 1) (drop 1 words) in
    let control = control_of c.in-Some-read.control in
    let split : words ≡ name ∷ args =
    taken_apart words c.name-item.result name c.in-len1-up.len_at_least c.name-item.is
    c.as_slice-name.ensures in
    let kept = subst (λ r. MatchOption r
    ((found s.procedures name ≡ None) × FitsState state s × (new ≡ old))
    (λ outcome. Leads last (leaf.Has outcome) new state (left_of last (command levels s
    (name ∷ args)) old)))
    c.in_default-2.is (c.in_ok-outcome.ensures.leads last s fits) in
    let known : named name ≡ Some control = sym c.in-Some-read.ensures in
    leads_from last _ _
    (then_goes (same_left last old
    (command_runs levels words s name args split kept.0 control known))
    (same_goes (ap (λ fs. left_of last (does control levels args s) fs) (sym kept.2))))
    (c.in_ok-outcome-in-Some-read.ensures.leads last s kept.1)
