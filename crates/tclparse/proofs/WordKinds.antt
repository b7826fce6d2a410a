-- The kinds of a word, as the code takes them.
use Rattle.std.proofs.Common.{◌≡◌, ℕ, List, Bool, true, false, Ok, Err, Vec, inl, inr, refl, ap, subst, ◌∙◌}
use Rattle.std.specs.declared.rc.Rc.{Rc}
use Rattle.tclparse.specs.Fault.{open_brace, after_brace}
use Rattle.tclparse.specs.Piece.{in_word, within_quotes}
use Rattle.tclparse.specs.Tree.{Parts, no_parts, Words, word, bytes_then}
use Rattle.tclparse.specs.Context.{Context, ends_word}
use Rattle.tcltext.specs.Balanced.{IsPaired}
use Rattle.tclparse.specs.Braces.{IsValue}
use Rattle.tclparse.specs.Grammar.{Outcome, in_quotes, in_braces, bare, kind, expands, unprefixed, quotes_closed, IsBraced, IsParts, IsWord}
use Rattle.tclparse.specs.Reads.{IsBody, IsOneWord}
use Rattle.tclparse.specs.View.{word_view, parts_then}
use Rattle.tclparse.specs.declared.tree.Part.{Part}
use Rattle.tclparse.specs.declared.tree.Part.TheViews.{roll-Word}
use Rattle.tclparse.proofs.Braced.{each_value}
use Rattle.tclparse.proofs.Trees.{view_of_word}

pub unpaired_brace : (n : Context) (x : List ℕ) →
    ((content rest : List ℕ) → IsPaired x content rest → ⊥) → (ps : Parts)
    × IsBraced n ps x (Err open_brace)
unpaired_brace n x none = (no_parts, inr (none, refl, refl))

pub goes_on : (n : Context) (x content z : List ℕ) → IsPaired x content z → ends_word n z ≡ false →
    (ps : Parts) × IsBraced n ps x (Err after_brace)
goes_on n x content z pair h =
    let value = each_value content in
    (bytes_then value.0 no_parts, inl (content, z, value.0, pair, value.1, refl, rw h refl))

pub braced_word : (n : Context) (x content z v : List ℕ) (ps : Parts) → IsPaired x content z →
    ends_word n z ≡ true → IsValue v content → ps ≡ bytes_then v no_parts
    → IsBraced n ps x (Ok z)
braced_word n x content z v ps pair h value made = inl (content, z, v, pair, value, made, rw h refl)

pub braces_word : (n : Context) (d : ℕ) (x z : List ℕ) (ps : Parts) (o : Outcome) → in_braces z
    ≡ kind x → IsBraced n ps z o → IsBody n d ps x o
braces_word n d x z ps o e h = subst (λ k. IsWord n ps (λ place y r. IsParts place d ps y r) k x o)
    e h

pub quoted_word : (n : Context) (d : ℕ) (x z : List ℕ) (ps : Parts) (s o : Outcome) → in_quotes z
    ≡ kind x → IsParts within_quotes d ps z s → o ≡ quotes_closed n s → IsBody n d ps x o
quoted_word n d x z ps s o e h is =
    subst (λ k. IsWord n ps (λ place y r. IsParts place d ps y r) k x o) e (s, h, is)

pub bare_word : (n : Context) (d : ℕ) (x : List ℕ) (ps : Parts) (o : Outcome) → bare ≡ kind x →
    IsParts (in_word n) d ps x o → IsBody n d ps x o
bare_word n d x ps o e h = subst (λ k. IsWord n ps (λ place y r. IsParts place d ps y r) k x o) e h

pub one_word : {A : Type 0} (n : Context) (d : ℕ) (x y z : List ℕ) (e : Bool)
    (ps : Rc (Vec (Part A) A) A)
    → e ≡ expands n x → y ≡ unprefixed n x → IsBody n d (parts_then ps.value.items no_parts) y
    (Ok z)
    → (t : Words) → IsOneWord n d (word_view (roll-Word A (record { expands = e; parts = ps })) t) t
    x (Ok z)
one_word n d x y z e ps is at h t = (
  parts_then ps.value.items no_parts,
  view_of_word e ps t
      ∙ ap (λ v. word v (parts_then ps.value.items no_parts) t) is,
  subst (λ v. IsBody n d (parts_then ps.value.items no_parts) v (Ok z)) at h,
)
