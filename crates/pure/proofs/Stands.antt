-- Where a text stands in another, byte by byte.
use Rattle.std.proofs.Common.{◌≡◌, ℕ, zero, suc, ◌<◌, ◌≤◌, Bool, true, false, ◌&&◌, List, [], ◌∷◌, length, take, drop, slice_index, nat_eq, eq-eqb, refl, sym, ◌∙◌, arith}
use Rattle.std.proofs.lemmas.Bool.Decides.{nat_tests}
use Rattle.std.proofs.lemmas.List.{length-drop, get_or-drop}
use Rattle.std.specs.Cmp.Lexicographic.{pointwise}
use Rattle.memchr.specs.Find.{OccursAt}
use Rattle.pure.specs.Strings.Search.{stands_at}

both : (p q : Bool) → p ≡ true → q ≡ true → (p && q) ≡ true
both true q one other = other
both false q one other = absurd (cc)

one_of_both : (p q : Bool) → (p && q) ≡ true → p ≡ true
one_of_both true q is = refl
one_of_both false q is = is

other_of_both : (p q : Bool) → (p && q) ≡ true → q ≡ true
other_of_both true q is = is
other_of_both false q is = absurd (cc)

same_byte : (b c : ℕ) → nat_eq b c ≡ true → b ≡ c
same_byte b c is = grind (arith, nat_tests)

-- the bytes n are the front of x
abbrev is_front : List ℕ → List ℕ → Bool
is_front n x = pointwise nat_eq n (take (length n) x)

front : (n x : List ℕ) → length n ≤ length x →
    ((j : ℕ) → j < length n → slice_index x j ≡ slice_index n j) → is_front n x ≡ true
front [] [] room reads = refl
front [] (c ∷ x) room reads = refl
front (b ∷ n) [] room reads = absurd (omega arith)
front (b ∷ n) (c ∷ x) room reads =
    both (nat_eq b c) (is_front n x) (eq-eqb b c (sym (reads 0 (omega arith))))
    (front n x (omega arith) (λ j below. reads (suc j) (omega arith)))

room : (n x : List ℕ) → is_front n x ≡ true → length n ≤ length x
room [] x is = omega arith
room (b ∷ n) [] is = absurd (cc)
room (b ∷ n) (c ∷ x) is =
    let less = room n x (other_of_both (nat_eq b c) (is_front n x) is) in omega arith

reads : (n x : List ℕ) → is_front n x ≡ true → (j : ℕ) → j < length n →
    slice_index x j ≡ slice_index n j
reads [] x is j below = absurd (omega arith)
reads (b ∷ n) [] is j below = absurd (cc)
reads (b ∷ n) (c ∷ x) is zero below =
    sym (same_byte b c (one_of_both (nat_eq b c) (is_front n x) is))
reads (b ∷ n) (c ∷ x) is (suc j) below =
    reads n x (other_of_both (nat_eq b c) (is_front n x) is) j (omega arith)

module _ (needle text : List ℕ) (k : ℕ) where
  pub stands : OccursAt text needle k → stands_at needle text k ≡ true
  stands occurs =
      let long = length-drop k text in
      let fits = occurs.fits in
      front needle (drop k text) (omega arith)
      (λ j below. get_or-drop k text j 0 ∙ occurs.reads j below)

  pub occurs : 0 < length needle → stands_at needle text k ≡ true → OccursAt text needle k
  occurs some is =
      let long = length-drop k text in
      let less = room needle (drop k text) is in
      record {
        fits = omega arith;
        reads = λ j below. sym (get_or-drop k text j 0) ∙ reads needle (drop k text) is j below;
      }
