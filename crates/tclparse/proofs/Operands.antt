-- Substitutions that stand alone, as the code takes them.
use Rattle.std.proofs.Common.{◌≡◌, ℕ, ◌-◌, List, Ok, Err, refl, sym, ap, subst}
use Rattle.std.specs.Borrow.{Bor}
use Rattle.tclparse.specs.Fault.{Fault}
use Rattle.tclparse.specs.Tree.{Parts, no_parts, variable, element, script, Commands, bytes_then}
use Rattle.tclparse.specs.Piece.{fault, a_name, an_index, an_element, a_bracket, next_part}
use Rattle.tclparse.specs.FormulaFault.{of_words}
use Rattle.tclparse.specs.FormulaGrammar.{from_words, IsSubstitution}
use Rattle.tclparse.specs.FormulaReads.{ReadSome, ReadsSubstitution}
use Rattle.tclparse.specs.Reads.{IsBracket, IsIndex, ReadsElement, ReadsBracket}
use Rattle.tclparse.specs.Seen.{fault_of}
use Rattle.tclparse.specs.View.{part_view}
use Rattle.tclparse.specs.declared.tree.Part.{Part}
use Rattle.tclparse.specs.declared.error.ReadError.{ReadError}
use Rattle.tclparse.specs.declared.error.ReadError.TheVariants as error

pub fault_alone : (d : ℕ) (x : List ℕ) (f : Fault) → fault f ≡ next_part d x → (ps : Parts)
    × IsSubstitution d ps (next_part d x) (Err (of_words f))
fault_alone d x f e =
    (no_parts, subst (λ n. IsSubstitution d no_parts n (Err (of_words f))) e (refl, refl))

pub name_alone : (d : ℕ) (x n z : List ℕ) → a_name n z ≡ next_part d x →
    IsSubstitution d (variable n no_parts) (next_part d x) (Ok z)
name_alone d x n z e = subst (λ m. IsSubstitution d (variable n no_parts) m (Ok z)) e (refl, refl)

pub element_alone : (d : ℕ) (x n i z : List ℕ) → an_element n i z ≡ next_part d x →
    IsSubstitution d (element n (bytes_then i no_parts) no_parts) (next_part d x) (Ok z)
element_alone d x n i z e =
    subst (λ m. IsSubstitution d (element n (bytes_then i no_parts) no_parts) m (Ok z)) e (
      refl,
      refl,
    )

pub index_alone : (d : ℕ) (x n w z : List ℕ) (is : Parts) → an_index n w ≡ next_part d x →
    IsIndex (d - 1) is w (Ok z) → IsSubstitution d (element n is no_parts) (next_part d x) (Ok z)
index_alone d x n w z is e h = subst (λ m. IsSubstitution d (element n is no_parts) m (Ok z)) e (
  is,
  h.0,
  h.1,
  refl,
  sym (ap from_words h.2),
)

pub script_alone : (d : ℕ) (x w z : List ℕ) (cs : Commands) → a_bracket w ≡ next_part d x →
    IsBracket (d - 1) cs w (Ok z) → IsSubstitution d (script cs no_parts) (next_part d x) (Ok z)
script_alone d x w z cs e h = subst (λ m. IsSubstitution d (script cs no_parts) m (Ok z)) e (
  cs,
  h.0,
  h.1,
  refl,
  sym (ap from_words h.2),
)

-- an error that is passed on
pub index_alone_error : {A : Type 0} (d : ℕ) (x n w : List ℕ) (e : ReadError) (r : ReadSome A)
    → an_index n w ≡ next_part d x → ReadsElement {A = A} n (d - 1) w (Err e) → r ≡ Err e →
    ReadsSubstitution d x r
index_alone_error d x n w (error.Memory refusal) r at h is =
    subst (ReadsSubstitution d x) (sym is) tt
index_alone_error d x n w (error.Fault f) r at h is =
    subst (ReadsSubstitution d x) (sym is) (
      element n h.0 no_parts,
      subst (λ m. IsSubstitution d (element n h.0 no_parts) m
          (Err (of_words (fault_of f)))) at (h.0, h.1.0, h.1.1, refl, sym (ap from_words h.1.2)),
    )

pub script_alone_error : {A : Type 0} (d : ℕ) (x w : List ℕ) (e : ReadError) (r : ReadSome A)
    → a_bracket w ≡ next_part d x → ReadsBracket {A = A} (d - 1) w (Err e) → r ≡ Err e →
    ReadsSubstitution d x r
script_alone_error d x w (error.Memory refusal) r at h is =
    subst (ReadsSubstitution d x) (sym is) tt
script_alone_error d x w (error.Fault f) r at h is =
    subst (ReadsSubstitution d x) (sym is) (
      script h.0 no_parts,
      subst (λ m. IsSubstitution d (script h.0 no_parts) m (Err (of_words (fault_of f)))) at (
        h.0,
        h.1.0,
        h.1.1,
        refl,
        sym (ap from_words h.1.2),
      ),
    )

-- the part p alone stands at the front of the text x and leaves z
abbrev pub StandsAlone : {A : Type 0} → ℕ → List ℕ → Part A × Bor (List ℕ) → Type 0
StandsAlone d x r = IsSubstitution d (part_view r.0 no_parts) (next_part d x) (Ok r.1.now)

pub seen_alone : {A : Type 0} (d : ℕ) (x : List ℕ) (p : Part A) (z : List ℕ) (ps : Parts)
    → part_view p no_parts ≡ ps → IsSubstitution d ps (next_part d x) (Ok z) →
    IsSubstitution d (part_view p no_parts) (next_part d x) (Ok z)
seen_alone d x p z ps e h = subst (λ q. IsSubstitution d q (next_part d x) (Ok z)) (sym e) h
