-- Which command words are: a procedure, one that runs scripts, one that takes branches, or another.
use Rattle.std.proofs.Common.{◌≡◌, ◌∙◌, ◌-◌, ℕ, ◌≤◌, List, [], ◌∷◌, drop, get_or, length, take, Some, None, refl, sym, ap}
use Rattle.commands.proofs.Words.{first_word, rest_words}
use Rattle.commands.specs.Commands as leaf
use Rattle.nesting.specs.Calls.{call}
use Rattle.nesting.specs.Commands.{does, named}
use Rattle.nesting.specs.Control.{Control}
use Rattle.expects.specs.Expect.{expect}
use Rattle.expects.specs.Words.{Form, named as form_of}
use Rattle.runs.specs.Commands.{command, other_command}
use Rattle.state.specs.Prelude.{gives, Status}
use Rattle.tclstate.specs.Pairs.{found}
use Rattle.tclstate.specs.Procs.{Procedure}

module _ (levels : ℕ) (words : List (List ℕ)) (s : Status) where
  pub command_none : words ≡ [] → command levels s words ≡ gives [] s
  command_none is = rw is refl

  module _ (name : List ℕ) (args : List (List ℕ)) (is : words ≡ name ∷ args) where
    pub command_calls : (p : Procedure) → found s.procedures name ≡ Some p →
        command levels s words ≡ call levels name p args s
    command_calls p defined = rw (is, defined) refl

    module _ (undefined : found s.procedures name ≡ None) where
      pub command_runs : (c : Control) → named name ≡ Some c →
          command levels s words ≡ does c levels args s
      command_runs c known = rw (is, undefined, known) refl

      pub command_other : named name ≡ None →
          command levels s words ≡ other_command levels s words
      command_other unknown = rw (is, undefined, unknown) refl

    pub other_waits : (f : Form) → form_of name ≡ Some f →
        other_command levels s words ≡ expect f levels args s
    other_waits f formed = rw (is, formed) refl

    pub other_plain : form_of name ≡ None → other_command levels s words ≡ leaf.command s words
    other_plain unformed = rw (is, unformed) refl

  pub other_none : words ≡ [] → other_command levels s words ≡ gives [] s
  other_none is = rw is refl

-- words as their first one, by the name that is read of it, and those after it, as the code takes
-- them apart
pub taken_apart : (words : List (List ℕ)) (first name : List ℕ) → 1 ≤ length words →
    first ≡ get_or words 0 first → name ≡ first →
    words ≡ name ∷ take (length words - 1) (drop 1 words)
taken_apart words first name some is named_so =
    first_word words first some is
    ∙ ap (λ it. it ∷ drop 1 words) (sym named_so)
    ∙ ap (λ rest. name ∷ rest) (rest_words words)
