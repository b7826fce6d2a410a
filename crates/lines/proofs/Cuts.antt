-- Texts that lack a byte, and where they are cut.
use Rattle.std.proofs.Common.{◌≡◌, ◌==◌, ◌+◌, ◌-◌, ◌<◌, ℕ, zero, suc, true, false, List, [], ◌∷◌, ◌++◌, length, take, drop, slice_index, Option, Some, None, IfSome, MatchOption, refl, sym, ap, ◌∙◌, arith, take-append-drop}
use Rattle.std.specs.Str.{bytes_eq}
use Rattle.std.proofs.Math.Seq.{take-append_seam}
use Rattle.std.proofs.lemmas.Slice.Eq.{bytes_eq-Decides}
use Rattle.std.proofs.lemmas.Bool.{eq-eqb, eqb-true, false≢true}
use Rattle.std.proofs.lemmas.List.{take_all, drop_more, take_rest}
use Rattle.memchr.specs.Find.{IsFirstByte, Passes, is_byte}
use Rattle.lines.specs.Cut.{Lacks}

pub head : {a b : ℕ} {x y : List ℕ} → a ∷ x ≡ b ∷ y → a ≡ b
head e = cc e

pub tail : {a b : ℕ} {x y : List ℕ} → a ∷ x ≡ b ∷ y → x ≡ y
tail e = cc e

pub cons_same : (c d : ℕ) (a b : List ℕ) → c ≡ d → a ≡ b → c ∷ a ≡ d ∷ b
cons_same c d a b e f = cc (e, f)

-- the front of a text lacks a byte that is at none of its places
Lacks-take : (byte : ℕ) (text : List ℕ) (n : ℕ) → ((k : ℕ) → k < n → ¬ Passes (is_byte byte) text k)
    → Lacks byte (take n text)
Lacks-take byte text zero others = tt
Lacks-take byte [] (suc n) others = tt
Lacks-take byte (b ∷ text) (suc n) others = (
  (λ same. others 0 (omega arith) (eq-eqb b byte same)),
  Lacks-take byte text n (λ k lt. others (suc k) (omega arith)),
)

-- the parts around the place of the first such byte are cut there
pub cut_there : (byte : ℕ) (text : List ℕ) (place : ℕ)
    → IsFirstByte (is_byte byte) text (Some place)
    → (text ≡ take place text ++ byte ∷ take (length text - (place + 1)) (drop (place + 1) text))
    × Lacks byte (take place text)
cut_there byte text place (within, here) =
    let same : slice_index text place ≡ byte = eqb-true (slice_index text place) byte here in
    let rest = drop_more text place 0 within.high ∙ ap (λ b. b ∷ drop (place + 1) text) same
    ∙ ap (λ after. byte ∷ after) (sym (take_rest text (place + 1))) in (
      sym (take-append-drop place text) ∙ ap (λ after. take place text ++ after) rest,
      Lacks-take byte text place (λ k below. within.before k (omega arith) below),
    )

-- a text with no place for the byte lacks it
pub cut_nowhere : (byte : ℕ) (text : List ℕ) → IsFirstByte (is_byte byte) text None →
    Lacks byte text
cut_nowhere byte text none =
    let all = Lacks-take byte text (length text) (λ k below. none k (omega arith) below) in
    rw (take_all (length text) text (omega arith)) at all

-- two cuts at the first byte of one value give the same parts
pub same_cut : (byte : ℕ) (a b x y : List ℕ) → Lacks byte a → Lacks byte b → a ++ byte ∷ x ≡ b
    ++ byte ∷ y → (a ≡ b) × (x ≡ y)
same_cut byte [] [] x y la lb e = (refl, tail e)
same_cut byte [] (c ∷ b) x y la lb e = absurd (lb.0 (sym (head e)))
same_cut byte (c ∷ a) [] x y la lb e = absurd (la.0 (head e))
same_cut byte (c ∷ a) (d ∷ b) x y la lb e =
    let (front, rest) = same_cut byte a b x y la.1 lb.1 (tail e) in
    (cons_same c d a b (head e) front, rest)

-- a text that lacks the byte has no cut at it
pub no_cut : (byte : ℕ) (text a x : List ℕ) → Lacks byte text → text ≡ a ++ byte ∷ x → ⊥
no_cut byte [] [] x lacks e = cc e
no_cut byte [] (c ∷ a) x lacks e = cc e
no_cut byte (b ∷ text) [] x lacks e = lacks.0 (head e)
no_cut byte (b ∷ text) (c ∷ a) x lacks e = no_cut byte text a x lacks.1 (tail e)

-- joined texts lack what both lack
pub Lacks-append : (byte : ℕ) (a b : List ℕ) → Lacks byte a → Lacks byte b → Lacks byte (a ++ b)
Lacks-append byte [] b la lb = lb
Lacks-append byte (c ∷ a) b la lb = (la.0, Lacks-append byte a b la.1 lb)

pub some_weaker : {T : Type 0} {P Q : T → Type 0} (o : Option T) → IfSome o P
    → ((x : T) → P x → Q x) → IfSome o Q
some_weaker None p more = tt
some_weaker (Some x) p more = more x p

pub match_weaker : {T : Type 0} {P P' : Type 0} {Q Q' : T → Type 0} (o : Option T) → (P → P')
    → ((x : T) → Q x → Q' x) → MatchOption o P Q → MatchOption o P' Q'
match_weaker None none some h = none h
match_weaker (Some x) none some h = some x h

-- a text whose front is found to be a word is that word and the rest
pub prefix_split : (text word rest : List ℕ) → bytes_eq (take (length word) text) word ≡ true → rest
    ≡ drop (length word) text → text ≡ word ++ rest
prefix_split text word rest test is =
    sym (take-append-drop (length word) text) ∙ ap (λ front. front ++ drop (length word) text)
    ((bytes_eq-Decides (take (length word) text) word).0 test)
    ∙ ap (λ tail. word ++ tail) (sym is)

-- a text whose front is found to be another does not begin with the word
pub no_prefix : (text word rest : List ℕ) → bytes_eq (take (length word) text) word ≡ false → text
    ≡ word ++ rest → ⊥
no_prefix text word rest differs e =
    absurd (false≢true (sym differs ∙ (bytes_eq-Decides (take (length word) text) word).1
    (ap (take (length word)) e ∙ take-append_seam word rest)))

-- a list that is found not to be empty
pub some_left : (bytes : List ℕ) → (length bytes == 0) ≡ false → 0 < length bytes
some_left [] test = cc test
some_left (b ∷ bytes) test = omega arith
