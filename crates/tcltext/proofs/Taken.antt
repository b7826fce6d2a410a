-- A bare element that stands in a text as it is.
use Rattle.std.proofs.Common.{◌≡◌, ℕ, ◌==◌, ◌<◌, ◌+◌, suc, List, [], ◌∷◌, Bool, true, false, cond, not, length, take, drop, Ok, refl, sym, subst, arith}
use Rattle.std.specs.List.{position_or_len}
use Rattle.tcltext.specs.Elements.{a_byte, next, IsSpelled, bare, IsOpened}
use Rattle.tcltext.specs.Style.{up_to_white, ends_plain}
use Rattle.tcltext.specs.White.{is_white, ends_element}
use Rattle.tcltext.proofs.Choices.{or_false}
use Rattle.tcltext.proofs.Spellings.{bare_ends}

-- how many bytes of a text stand before the first that ends a plain element
abbrev pub plain : List ℕ → ℕ
plain x = position_or_len ends_plain x

next_plain : (c : ℕ) (x : List ℕ) → ends_plain c ≡ false → next up_to_white (c ∷ x) ≡ a_byte c x
next_plain c x h = let p = or_false (is_white c) (c == 92) h in rw (p.0, p.1) refl

-- those bytes are spelled as they stand
spelled_at : (c : ℕ) (x : List ℕ) (b : Bool) → ends_plain c ≡ b →
    IsSpelled up_to_white (take (plain x) x) x (drop (plain x) x) →
    IsSpelled up_to_white (take (cond (not b) (1 + plain x) 0) (c ∷ x)) (c ∷ x)
    (drop (cond (not b) (1 + plain x) 0) (c ∷ x))
spelled_at c x true h so = refl
spelled_at c x false h so =
    let same : suc (plain x) ≡ 1 + plain x = omega arith in
    subst (λ n. IsSpelled up_to_white (take n (c ∷ x)) (c ∷ x) (drop n (c ∷ x))) same
    (x, next_plain c x h, so)

spelled : (x : List ℕ) → IsSpelled up_to_white (take (plain x) x) x (drop (plain x) x)
spelled [] = refl
spelled (c ∷ x) = spelled_at c x (ends_plain c) refl (spelled x)

-- a text that begins with no white has a byte before what ends a plain element, if white follows
some_at : (c : ℕ) (x : List ℕ) (b : Bool) → ends_plain c ≡ b → is_white c ≡ false →
    ends_element (drop (cond (not b) (1 + plain x) 0) (c ∷ x)) ≡ true →
    0 < length (take (cond (not b) (1 + plain x) 0) (c ∷ x))
some_at c x true h black white = absurd (cc)
some_at c x false h black white =
    let same : suc (plain x) ≡ 1 + plain x = omega arith in
    subst (λ n. 0 < length (take n (c ∷ x))) same (omega arith)

some : (x : List ℕ) → ends_element x ≡ false → ends_element (drop (plain x) x) ≡ true →
    0 < length (take (plain x) x)
some [] black white = absurd (cc)
some (c ∷ x) black white = some_at c x (ends_plain c) refl black white

-- the bytes are an element where white follows
pub bare_taken : (x e z : List ℕ) → ends_element x ≡ false → e ≡ take (plain x) x →
    z ≡ drop (plain x) x → ends_element z ≡ true → IsOpened (bare x) (Ok (e, z))
bare_taken x e z black front back white =
    let spelt : IsSpelled up_to_white e x z =
    subst (λ a. IsSpelled up_to_white a x z) (sym front)
    (subst (IsSpelled up_to_white (take (plain x) x) x) (sym back) (spelled x)) in
    let more : 0 < length e =
    subst (λ a. 0 < length a) (sym front)
    (some x black (subst (λ y. ends_element y ≡ true) back white)) in
    (e, z, spelt, bare_ends e z white more)
