-- A whole text is the spelling of its tree, or of the commands before its fault.
use Rattle.std.proofs.Common.{◌≡◌, ℕ, List, [], ◌++◌, false, Some, None, Ok, Err, refl, ap, subst, inl, inr, ◌∙◌, append-nil, ◌⊎◌}
use Rattle.tclparse.specs.Fault.{Fault}
use Rattle.tclparse.specs.Piece.{Place}
use Rattle.tclparse.specs.Context.{Context, whole_script, argument}
use Rattle.tclparse.specs.Tree.{Words, Commands, no_commands, command, with_last}
use Rattle.tclparse.specs.Gap.{skip_white, skip_gap, between}
use Rattle.tclparse.specs.Grammar.{Outcome, Then, IsWords, IsCommands, IsScript, IsArgument}
use Rattle.tclparse.specs.Spelling.{IsWhiteText, no_gap, IsLastComment, IsTail, SpellsParts, SpellsWords, SpellsCommands, Begins, BeginsWhole}
use Rattle.tclparse.specs.Tree.{Parts}
use Rattle.tclparse.specs.Grammar.{IsParts}
use Rattle.tclparse.proofs.Spelling.{white_spelled, gap_spelled}
use Rattle.tclparse.proofs.SpelledTrees.{parts_spelled, words_spelled, commands_spelled, commands_join, gap_whole}

pub parts_begin : (place : Place) (d : ℕ) (ps : Parts) (x z : List ℕ) → IsParts place d ps x (Ok z)
    → Begins (λ t. SpellsParts place ps t) x z
parts_begin place d ps x z h = (parts_spelled ps place d x z h).0

pub words_begin : (context : Context) (d : ℕ) (ws : Words) (x z : List ℕ) →
    IsWords context d ws x (Ok z) → Begins (λ t. SpellsWords context ws t) x z
words_begin context d ws x z h = (words_spelled ws context d x z h).0

pub commands_begin : (context : Context) (d : ℕ) (cs : Commands) (x z : List ℕ) →
    IsCommands context d cs x (Ok z) → BeginsWhole (λ t. SpellsCommands context cs t) x z
commands_begin context d cs x z h = (commands_spelled cs context d x z h).0

script_tail : (t : List ℕ) → IsTail t [] → (t ≡ []) ⊎ IsLastComment t
script_tail t (inl e) = inl e
script_tail t (inr h) = inr h.1

pub script_is : (cs : Commands) (x : List ℕ) → IsScript cs None x → (s t : List ℕ) × (x ≡ s ++ t)
    × SpellsCommands whole_script cs s × ((t ≡ []) ⊎ IsLastComment t)
script_is cs x h =
    let all = commands_begin whole_script 100 cs x [] h in
    (all.0, all.1, all.2 ∙ ap (λ l. all.0 ++ l) (append-nil all.1), all.3, script_tail all.1 all.4)

pub argument_is : (ws : Words) (x : List ℕ) → IsArgument ws None x → (g s : List ℕ) × (x ≡ g ++ s)
    × IsWhiteText argument g × SpellsWords argument ws s
argument_is ws x h =
    let gap = white_spelled argument x in
    let all = words_begin argument 100 ws (skip_white argument false x) [] h in
    (gap.0, all.0, gap.1 ∙ ap (λ l. gap.0 ++ l) (all.1 ∙ append-nil all.0), gap.2, all.2)

-- where a command has the fault, those before it were read
last_stays : (cs : Commands) (ws : Words) → with_last cs ws ≡ no_commands → ⊥
last_stays no_commands ws h = absurd (cc)
last_stays (command vs cs) ws h = absurd (cc)

went_on : (r o : Outcome) (T : Type 0) (M : List ℕ → Type 0) → (T → ⊥) → Then r T M o → (w : List ℕ)
    × (r ≡ Ok w) × M w
went_on (Ok w) o T M not h = (w, refl, h)
went_on (Err f) o T M not h = absurd (not h.0)

pub before_fault : (cs : Commands) (ws : Words) (context : Context) (d : ℕ) (x : List ℕ) (f : Fault)
    → IsCommands context d (with_last cs ws) x (Err f)
    → (z : List ℕ) × Begins (λ t. SpellsCommands context cs t) x z
    × IsCommands context d (command ws no_commands) z (Err f)
before_fault no_commands ws context d x f h = (x, ([], refl, no_gap context), h)
before_fault (command vs cs) ws context d x f h =
    let start = skip_gap context between x in
    let more = went_on h.1 (Err f) (with_last cs ws ≡ no_commands)
    (λ w. IsCommands context d (with_last cs ws) w (Err f)) (last_stays cs ws) h.3 in
    let first = words_spelled vs context d start more.0
    (subst (λ r. IsWords context d vs start r) more.1 h.2) in
    let rest = before_fault cs ws context d more.0 f more.2 in
    let gap = gap_whole context x start h.0 (gap_spelled context x) in
    (rest.0, commands_join context vs cs x start more.0 rest.0 gap first.0 first.1 rest.1, rest.2)

pub faulty_script_is : (cs : Commands) (f : Fault) (x : List ℕ) → IsScript cs (Some f) x
    → (s z : List ℕ) × (x ≡ s ++ z) × SpellsCommands whole_script cs s × (ws : Words)
    × IsCommands whole_script 100 (command ws no_commands) z (Err f)
faulty_script_is cs f x h =
    let all = before_fault cs h.0 whole_script 100 x f h.1 in
    (all.1.0, all.0, all.1.1, all.1.2, h.0, all.2)

pub ruleset spelled = (
  white_spelled,
  gap_spelled,
  parts_begin,
  words_begin,
  commands_begin,
  script_is,
  faulty_script_is,
  argument_is,
)
