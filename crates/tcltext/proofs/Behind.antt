-- What is written after a list.
use Rattle.std.proofs.Common.{◌≡◌, ℕ, ◌==◌, List, [], ◌∷◌, ◌++◌, length, Bool, true, false, refl, sym, ap, subst, ◌∙◌, append_assoc}
use Rattle.tcltext.specs.Canonical.{written, joined, canonical, IsCanonical, IsListOf}
use Rattle.tcltext.specs.Elements.{IsList}
use Rattle.tcltext.proofs.Elements.{none_left}
use Rattle.tcltext.proofs.Unique.{one_list}
use Rattle.tcltext.proofs.Written.{reads_back, reads_back_alone}

-- what is written of more elements stands after what is written of those before them
joined_behind : (v w : List (List ℕ)) → joined false (v ++ w) ≡ joined false v ++ joined false w
joined_behind [] w = refl
joined_behind (e ∷ v) w =
    ap (λ x. 32 ∷ (written false e ++ x)) (joined_behind v w)
    ∙ ap (λ x. 32 ∷ x) (sym (append_assoc (written false e) (joined false v) (joined false w)))

some_behind : (e : List ℕ) (v w : List (List ℕ)) →
    canonical (e ∷ v ++ w) ≡ canonical (e ∷ v) ++ joined false w
some_behind e v w =
    ap (λ x. written true e ++ x) (joined_behind v w)
    ∙ sym (append_assoc (written true e) (joined false v) (joined false w))

-- no list but the empty one has the empty text
none_written : (v : List (List ℕ)) → canonical v ≡ [] → v ≡ []
none_written v is = one_list [] v [] (subst (IsList v) is (reads_back v)) refl

no_element : (e : List ℕ) (v : List (List ℕ)) → e ∷ v ≡ [] → ⊥
no_element e v same = cc

-- the text of a list, and what is written after it
pub more_behind : (v w : List (List ℕ)) (text : List ℕ) (first : Bool) → text ≡ canonical v →
    first ≡ (length text == 0) → text ++ joined first w ≡ canonical (v ++ w)
more_behind [] w text first is empty = rw (empty, is) refl
more_behind (e ∷ v) w text true is empty =
    absurd (no_element e v (none_written (e ∷ v) (sym is ∙ none_left text empty)))
more_behind (e ∷ v) w text false is empty =
    ap (λ t. t ++ joined false w) is ∙ sym (some_behind e v w)

-- a canonical text is the canonical text of the list that it reads as
pub list_of_canonical : (x : List ℕ) → IsCanonical x → IsListOf x x
list_of_canonical x is = (is.0, subst (IsList is.0) (sym is.1) (reads_back is.0), is.1)

-- if y is the canonical text both of v and of the list that x is, then x is the list v
pub one_list_of : (x y : List ℕ) (v : List (List ℕ)) → IsListOf x y → y ≡ canonical v →
    IsList v x
one_list_of x y v is same =
    let other : IsList is.0 (canonical v) =
    subst (IsList is.0) (sym is.2 ∙ same) (reads_back is.0) in
    subst (λ u. IsList u x) (reads_back_alone v is.0 other) is.1
