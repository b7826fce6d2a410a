-- Each pattern takes a text or does not.
use Rattle.std.proofs.Common.{◌≡◌, ◌↔◌, ℕ, List, [], ◌∷◌, ◌++◌, Bool, true, false, nat_eq, Contains, IsTrue, ◌⊎◌, inl, inr, refl, sym, ap, subst, ◌∙◌, arith}
use Rattle.std.specs.Cmp.{nat_eq_equiv}
use Rattle.std.specs.List.{list_any}
use Rattle.std.proofs.lemmas.Bool.Decides.{nat_tests}
use Rattle.std.proofs.lemmas.Map.Views.{list_any-from_Contains, Contains-from_any}
use Rattle.patterns.specs.Item.{Item, literal, any_byte, one_of, any_run}
use Rattle.patterns.specs.Match.{IsPiece, Whole}

-- the statement holds, or it does not
abbrev pub Decided : Type 0 → Type 0
Decided P = P ⊎ (P → ⊥)

equal_bytes : (x y : ℕ) → nat_eq x y ≡ true → x ≡ y
equal_bytes x y is = grind (arith, nat_tests)

other_bytes : (x y : ℕ) → nat_eq x y ≡ false → x ≡ y → ⊥
other_bytes x y is same = grind (arith, nat_tests)

same_byte_at : (b c : ℕ) (r : Bool) → nat_eq b c ≡ r → Decided (b ∷ [] ≡ c ∷ [])
same_byte_at b c true is = inl (ap (λ x. x ∷ []) (equal_bytes b c is))
same_byte_at b c false is = inr (λ same. other_bytes b c is (cc))

among_at : (b : ℕ) (bytes : List ℕ) (r : Bool) → list_any (nat_eq b) bytes ≡ r →
    Decided (Contains bytes b)
among_at b bytes true is = inl (Contains-from_any equal_bytes b bytes is)
among_at b bytes false is = inr (λ has.
    let found = list_any-from_Contains nat_eq_equiv b bytes has in absurd (cc))

set_byte : (b : ℕ) (bytes : List ℕ) → Decided (Contains bytes b) →
    Decided (IsPiece (one_of bytes) (b ∷ []))
set_byte b bytes (inl has) = inl (b, refl, has)
set_byte b bytes (inr not) = inr (λ piece.
    let same : piece.0 ≡ b = cc in not (subst (Contains bytes) same piece.2))

-- an item that takes one byte stands before the others
module _ (item : Item) (items : List Item)
    (only : (piece : List ℕ) → IsPiece item piece → (b : ℕ) × (piece ≡ b ∷ []))
    (takes : (b : ℕ) → Decided (IsPiece item (b ∷ [])))
    (each : (t : List ℕ) → Decided (Whole items t)) where
  none_empty : (piece rest : List ℕ) → [] ≡ piece ++ rest → IsPiece item piece → ⊥
  none_empty [] rest is taken = let one = (only [] taken).1 in absurd (cc)
  none_empty (b ∷ piece) rest is taken = absurd (cc)

  first_byte : (x : ℕ) (xs piece rest : List ℕ) → x ∷ xs ≡ piece ++ rest → IsPiece item piece →
      IsPiece item (x ∷ []) × (rest ≡ xs)
  first_byte x xs [] rest is taken = let one = (only [] taken).1 in absurd (cc)
  first_byte x xs (b ∷ piece) rest is taken =
      let one = (only (b ∷ piece) taken).1 in
      let none : piece ≡ [] = cc in
      let same : b ∷ piece ≡ x ∷ [] = cc in
      let behind : xs ≡ piece ++ rest = cc in (
        subst (IsPiece item) same taken,
        sym (behind ∙ ap (λ p. p ++ rest) none),
      )

  by_byte : (x : ℕ) (xs : List ℕ) → Decided (IsPiece item (x ∷ [])) → Decided (Whole items xs) →
      Decided (Whole (item ∷ items) (x ∷ xs))
  by_byte x xs (inl piece) (inl whole) = inl (x ∷ [], xs, refl, piece, whole)
  by_byte x xs (inl piece) (inr not) = inr (λ w.
      not (subst (Whole items) (first_byte x xs w.0 w.1 w.2 w.3).1 w.4))
  by_byte x xs (inr not) rest = inr (λ w. not (first_byte x xs w.0 w.1 w.2 w.3).0)

  one_byte : (t : List ℕ) → Decided (Whole (item ∷ items) t)
  one_byte [] = inr (λ w. none_empty w.0 w.1 w.2 w.3)
  one_byte (x ∷ xs) = by_byte x xs (takes x) (each xs)

-- a run of any bytes stands before the items
module _ (items : List Item) (each : (t : List ℕ) → Decided (Whole items t)) where
  behind_none : (piece rest : List ℕ) → [] ≡ piece ++ rest → Whole items rest → Whole items []
  behind_none [] rest is whole = subst (Whole items) (sym is) whole
  behind_none (b ∷ piece) rest is whole = absurd (cc)

  one_more : (x : ℕ) (xs : List ℕ) → (Whole items (x ∷ xs) → ⊥) →
      (Whole (any_run ∷ items) xs → ⊥) → (piece rest : List ℕ) → x ∷ xs ≡ piece ++ rest →
      Whole items rest → ⊥
  one_more x xs here behind [] rest is whole = here (subst (Whole items) (sym is) whole)
  one_more x xs here behind (b ∷ piece) rest is whole =
      let tail : xs ≡ piece ++ rest = cc in behind (piece, rest, tail, tt, whole)

  by_run : (x : ℕ) (xs : List ℕ) → Decided (Whole items (x ∷ xs)) →
      Decided (Whole (any_run ∷ items) xs) → Decided (Whole (any_run ∷ items) (x ∷ xs))
  by_run x xs (inl whole) behind = inl ([], x ∷ xs, refl, tt, whole)
  by_run x xs (inr not) (inl w) = inl (x ∷ w.0, w.1, ap (λ t. x ∷ t) w.2, tt, w.4)
  by_run x xs (inr not) (inr none) = inr (λ w. one_more x xs not none w.0 w.1 w.2 w.4)

  no_bytes : Decided (Whole items []) → Decided (Whole (any_run ∷ items) [])
  no_bytes (inl whole) = inl ([], [], refl, tt, whole)
  no_bytes (inr not) = inr (λ w. not (behind_none w.0 w.1 w.2 w.4))

  some_run : (t : List ℕ) → Decided (Whole (any_run ∷ items) t)
  some_run [] = no_bytes (each [])
  some_run (x ∷ xs) = by_run x xs (each (x ∷ xs)) (some_run xs)

-- the items take a text, or they do not
pub decided : (items : List Item) (t : List ℕ) → Decided (Whole items t)
decided [] [] = inl refl
decided [] (x ∷ t) = inr (λ is. absurd (cc))
decided (literal c ∷ items) t =
    one_byte (literal c) items (λ piece is. (c, is)) (λ b. same_byte_at b c (nat_eq b c) refl)
    (decided items) t
decided (any_byte ∷ items) t =
    one_byte any_byte items (λ piece is. is) (λ b. inl (b, refl)) (decided items) t
decided (one_of bytes ∷ items) t =
    one_byte (one_of bytes) items (λ piece is. (is.0, is.1))
    (λ b. set_byte b bytes (among_at b bytes (list_any (nat_eq b) bytes) refl)) (decided items) t
decided (any_run ∷ items) t = some_run items (decided items) t

-- a decided statement has a boolean test
test : {P : Type 0} → Decided P → (takes : Bool) × (IsTrue takes ↔ P)
test (inl is) = (true, ((λ yes. is), (λ yes. refl)))
test (inr not) = (false, ((λ yes. absurd (cc)), (λ is. absurd (not is))))

-- the pattern takes the text, or it does not
pub tested : (pattern : List Item) (text : List ℕ) →
    (takes : Bool) × (IsTrue takes ↔ Whole pattern text)
tested pattern text = test (decided pattern text)
