-- Leaves and their errors, as the code takes them.
use Rattle.std.proofs.Common.{◌≡◌, ℕ, List, Result, Ok, Err, IsErrAnd, Vec, rules, refl, sym, subst}
use Rattle.std.specs.declared.rc.Rc.{Rc}
use Rattle.tclparse.specs.Tree.{no_parts}
use Rattle.tclparse.specs.Seen as words_seen
use Rattle.tclparse.specs.View.{parts_then, parts_of}
use Rattle.tclparse.specs.declared.tree.Part.{Part}
use Rattle.tclparse.specs.declared.error.ReadError as words_error
use Rattle.tclparse.specs.declared.error.ReadError.TheVariants as words
use Rattle.tclparse.specs.Formula as tree
use Rattle.tclparse.specs.FormulaPiece.{in_quotes, in_braces, a_substitution}
use Rattle.tclparse.specs.FormulaGrammar.{IsQuoted, IsLeaf}
use Rattle.tclparse.specs.FormulaReads.{ReadsQuoted, ReadsInBraces, ReadsSubstitution}
use Rattle.formulas.specs.Error.{IsSame}
use Rattle.formulas.specs.View.{formula_of}
use Rattle.formulas.specs.Reads.{Read, ReadsLeaf}
use Rattle.formulas.specs.declared.tree.Formula.{Formula, Text, the_lemmas}
use Rattle.formulas.specs.declared.error.ReadError.{ReadError}
use Rattle.formulas.specs.declared.error.ReadError.TheVariants as error

view_Text : {A : Type 0} → (ps : Rc (Vec (Part A) A) A) → formula_of (Text ps)
    ≡ tree.text (parts_of ps)
view_Text ps = search (rules, the_lemmas)

pub quotes_leaf : {A : Type 0} → (d : ℕ) (z y : List ℕ) (ps : Rc (Vec (Part A) A) A)
    → IsQuoted d (parts_then ps.value.items no_parts) z (Ok y) →
    IsLeaf d (formula_of (Text ps)) (in_quotes z) (Ok y)
quotes_leaf d z y ps h = (parts_then ps.value.items no_parts, view_Text ps, Ok y, h, refl)

pub quotes_error : {A : Type 0} → (d : ℕ) (z : List ℕ) (e : words_error.ReadError) (r : Read A)
    → ReadsQuoted {A = A} d z (Err e) → IsErrAnd r (λ y. IsSame e y) → ReadsLeaf d (in_quotes z) r
quotes_error d z e (Ok x) read h = absurd h
quotes_error d z (words.Memory m) (Err (error.Memory n)) read h = tt
quotes_error d z (words.Memory m) (Err (error.Fault f)) read h = absurd h
quotes_error {A} d z (words.Fault f) (Err y) read h =
    subst (λ v. ReadsLeaf {A = A} d (in_quotes z) (Err v)) (sym h) (
      tree.text read.0,
      (read.0, refl, Err (words_seen.fault_of f), read.1, refl),
    )

pub braces_error : {A : Type 0} → (d : ℕ) (z : List ℕ) (e : words_error.ReadError) (r : Read A)
    → ReadsInBraces {A = A} z (Err e) → IsErrAnd r (λ y. IsSame e y) → ReadsLeaf d (in_braces z) r
braces_error d z e (Ok x) read h = absurd h
braces_error d z (words.Memory m) (Err (error.Memory n)) read h = tt
braces_error d z (words.Memory m) (Err (error.Fault f)) read h = absurd h
braces_error {A} d z (words.Fault f) (Err y) read h =
    subst (λ v. ReadsLeaf {A = A} d (in_braces z) (Err v)) (sym h) (
      tree.text read.0,
      (read.0, refl, Err (words_seen.fault_of f), read.1, refl),
    )

pub substitution_error : {A : Type 0} → (d : ℕ) (z : List ℕ) (e : words_error.ReadError)
    (r : Read A)
    → ReadsSubstitution {A = A} d z (Err e) → IsErrAnd r (λ y. IsSame e y) →
    ReadsLeaf d (a_substitution z) r
substitution_error d z e (Ok x) read h = absurd h
substitution_error d z (words.Memory m) (Err (error.Memory n)) read h = tt
substitution_error d z (words.Memory m) (Err (error.Fault f)) read h = absurd h
substitution_error {A} d z (words.Fault f) (Err y) read h =
    subst (λ v. ReadsLeaf {A = A} d (a_substitution z) (Err v)) (sym h) (
      tree.text read.0,
      (read.0, refl, read.1),
    )
