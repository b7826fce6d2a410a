-- A command whose words are above the other operands: it is a function of them, or it begins.
use Rattle.std.proofs.Common.{◌≡◌, ◌∙◌, ℕ, ◌+◌, ◌≤◌, Bool, true, false, List, [], ◌∷◌, codes, Option, Some, None, refl, sym, ap, subst, arith, if◌then◌else◌}
use Rattle.std.proofs.lemmas.Slice.Eq.{bytes_eq-Decides}
use Rattle.std.specs.Str.{bytes_eq}
use Rattle.code.specs.declared.instruction.Instruction.{Instruction}
use Rattle.nesting.specs.Commands as control
use Rattle.plan.specs.Plan.{and_then, onward}
use Rattle.pure.specs.Pure.{named, says}
use Rattle.pure.specs.declared.command.Pure.{Pure}
use Rattle.pure.specs.declared.command.Pure.TheVariants as pure
use Rattle.runs.specs.Commands.{chosen, command}
use Rattle.state.specs.Meant.{meant}
use Rattle.state.specs.Prelude.{Dialogue, gives, Outcome, Status}
use Rattle.steps.specs.Follows.{Follows}
use Rattle.steps.specs.Formulas.{gives as given}
use Rattle.steps.specs.Layout.{FramesAt}
use Rattle.steps.specs.Machine.{beginning, function_in, performing, unless_hidden}
use Rattle.steps.specs.Moves.{lowest}
use Rattle.steps.specs.Places.{Has, Frame, beneath, brackets, handlers_beneath, marks_beneath, onward_of}
use Rattle.steps.specs.Spot.{Spot}
use Rattle.steps.proofs.Leads.Above.{those}
use Rattle.steps.proofs.Leads.Meanings.{meaning_leads}
use Rattle.steps.proofs.Leads.Resumed.{amid_operands}
use Rattle.steps.proofs.Leads.Standing.{stands}
use Rattle.tclstate.specs.Pairs.{found}
use Rattle.tclstate.specs.Procs.{Procedure}

-- the name of a function of words
abbrev name_of : Pure → List ℕ
name_of pure.Concat = codes "concat"
name_of pure.Join = codes "join"
name_of pure.Lindex = codes "lindex"
name_of pure.List = codes "list"
name_of pure.Llength = codes "llength"
name_of pure.Lrange = codes "lrange"
name_of pure.Split = codes "split"
name_of pure.String = codes "string"

-- a name is this one, or is looked up among those after it
this_or : (name known : List ℕ) (function f : Pure) (rest : Option Pure) (same : Bool) →
    bytes_eq name known ≡ same → name_of function ≡ known →
    (rest ≡ Some f → name ≡ name_of f) →
    (if same then Some function else rest) ≡ Some f → name ≡ name_of f
this_or name known function f rest true is known_is more found_is =
    let same_function : function ≡ f = cc in
    (bytes_eq-Decides name known).0 is ∙ sym known_is ∙ ap name_of same_function
this_or name known function f rest false is known_is more found_is = more found_is

-- the name of such a command is that of the function
named_so : (name : List ℕ) (f : Pure) → named name ≡ Some f → name ≡ name_of f
named_so name f is =
    this_or name (codes "concat") pure.Concat f _ (bytes_eq name (codes "concat")) refl refl
    (this_or name (codes "join") pure.Join f _ (bytes_eq name (codes "join")) refl refl
    (this_or name (codes "lindex") pure.Lindex f _ (bytes_eq name (codes "lindex")) refl refl
    (this_or name (codes "list") pure.List f _ (bytes_eq name (codes "list")) refl refl
    (this_or name (codes "llength") pure.Llength f _ (bytes_eq name (codes "llength")) refl refl
    (this_or name (codes "lrange") pure.Lrange f _ (bytes_eq name (codes "lrange")) refl refl
    (this_or name (codes "split") pure.Split f _ (bytes_eq name (codes "split")) refl refl
    (this_or name (codes "string") pure.String f None (bytes_eq name (codes "string")) refl refl
    (λ none. absurd cc)))))))) is

-- a command of such a name is the function
function_is : (levels : ℕ) (args : List (List ℕ)) (s : Status) (f : Pure) →
    chosen (control.named (name_of f)) levels (name_of f) args s ≡ meant (says f args) s
function_is levels args s pure.Concat = refl
function_is levels args s pure.Join = refl
function_is levels args s pure.Lindex = refl
function_is levels args s pure.List = refl
function_is levels args s pure.Llength = refl
function_is levels args s pure.Lrange = refl
function_is levels args s pure.Split = refl
function_is levels args s pure.String = refl

-- where no procedure hides it
command_is : (levels : ℕ) (name : List ℕ) (args : List (List ℕ)) (s : Status) (f : Pure) →
    found s.procedures name ≡ None → named name ≡ Some f →
    command levels s (name ∷ args) ≡ meant (says f args) s
command_is levels name args s f undefined is =
    rw undefined
    (ap (λ n. chosen (control.named n) levels n args s) (named_so name f is)
    ∙ function_is levels args s f)

module _ {A X : Type 0} (code : List (Instruction A)) (last : Status → Outcome → Dialogue X)
    (levels place : ℕ) (fs : List Frame) (s : Status) (behind : FramesAt code place fs)
    (fits : levels + brackets fs ≤ 255) where
  -- where these are the operands
  abbrev pub with_all : List (List ℕ) → Spot
  with_all operands = record {
    place = place;
    operands = operands;
    marks = marks_beneath fs;
    levels = levels;
    handlers = handlers_beneath levels fs;
  }

  -- what follows a command by these words
  abbrev pub after_command : List (List ℕ) → Dialogue X
  after_command words = and_then (command levels s words) (onward (onward_of last levels fs))

  -- the value of a function of the words
  value_leads : (f : Pure) (args operands : List (List ℕ)) → operands ≡ beneath fs →
      Follows code last (given (says f args) (with_all operands) s)
      (and_then (meant (says f args) s) (onward (onward_of last levels fs)))
  value_leads f args operands is =
      subst (λ os. Follows code last (given (says f args) (with_all os) s)
      (and_then (meant (says f args) s) (onward (onward_of last levels fs)))) (sym is)
      (meaning_leads code last (says f args) (with_all (beneath fs)) levels fs s
      (amid_operands code last place levels place (beneath fs) fs (those [] (beneath fs))
      (omega arith) behind fits)
      _ (λ v. gives v s)
      (λ v. stands code last place levels (Has v) fs place s refl behind fits))

  module _ (operands : List (List ℕ)) (below : ℕ) (lies : lowest below operands ≡ beneath fs)
    where
      -- a function of its words, or a command that begins
      named_leads : (name : List ℕ) (args : List (List ℕ)) (function : Option Pure)
          (procedure : Option Procedure) → named name ≡ function →
          found s.procedures name ≡ procedure →
          Follows code last (beginning below (with_all operands) s) (after_command (name ∷ args)) →
          Follows code last
          (performing (unless_hidden procedure function) (name ∷ args) below (with_all operands) s)
          (after_command (name ∷ args))
      named_leads name args (Some f) None is undefined begins =
          subst (λ c. Follows code last
          (performing (Some f) (name ∷ args) below (with_all operands) s)
          (and_then c (onward (onward_of last levels fs))))
          (sym (command_is levels name args s f undefined is))
          (value_leads f args (lowest below operands) lies)
      named_leads name args (Some f) (Some procedure) is hidden begins = begins
      named_leads name args None None is undefined begins = begins
      named_leads name args None (Some procedure) is hidden begins = begins

      -- by its words
      pub performed_leads : (words : List (List ℕ)) →
          Follows code last (beginning below (with_all operands) s) (after_command words) →
          Follows code last
          (performing (function_in words s.procedures) words below (with_all operands) s)
          (after_command words)
      performed_leads [] begins = begins
      performed_leads (name ∷ args) begins =
          named_leads name args (named name) (found s.procedures name) refl refl begins
