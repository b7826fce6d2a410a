-- Lower case hex text: what its digits are, how it is read from its front, and what it is read as.
use Rattle.std.proofs.Common.{◌≡◌, ◌+◌, ◌*◌, ◌/◌, ◌%◌, ◌<◌, ◌&&◌, ℕ, zero, suc, Bool, true, List, [], ◌∷◌, ◌++◌, length, take, slice_index, slice_set, refl, ap, ◌∙◌, inl, inr, arith}
use Rattle.std.specs.List.{list_all}
use Rattle.std.proofs.lemmas.Bool.{and_parts, cases_lt}
use Rattle.std.proofs.lemmas.List.{append_assoc, take_more, take_more_set}
use Rattle.std.proofs.lemmas.List.Folds.{list_all-append}
use lib.Lanes.{put_chunk}
use Rattle.hex.specs.Hex.{IsBytes, encode_lower, encode_with, lower_digits}
use Rattle.lines.specs.Line.{is_lower_digit}

-- the test holds of each number below n
abbrev all_below : (ℕ → Bool) → ℕ → Bool
all_below test zero = true
all_below test (suc n) = test n && all_below test n

-- a number below n passed the test
all_below-at : (test : ℕ → Bool) (n k : ℕ) → all_below test n ≡ true → k < n → test k ≡ true
all_below-at test zero k all below = absurd (omega arith)
all_below-at test (suc n) k all below =
    let (here, others) = and_parts (test n) (all_below test n) all in
    elim (cases_lt k n) [
      | inl under ↦ all_below-at test n k others under
      | inr top ↦ let e : k ≡ n = omega arith in rw e here
    ]

-- each of the sixteen digits is a lower case one
pub lower_digit : (d : ℕ) → d < 16 → is_lower_digit (slice_index lower_digits d) ≡ true
lower_digit d below = all_below-at (λ d. is_lower_digit (slice_index lower_digits d)) 16 d refl
    below

-- the hex text of bytes has lower case digits alone
pub lower_text : (bytes : List ℕ) → IsBytes bytes → list_all is_lower_digit (encode_lower bytes)
    ≡ true
unfolding encode_with
lower_text [] small = refl
lower_text (b ∷ bytes) small =
    let byte : b < 256 = small 0 in
    let high = lower_digit (b / 16) (omega arith) in
    let low = lower_digit (b % 16) (omega arith) in
    let others = lower_text bytes (λ k. small (suc k)) in
    rw (high, low, others) refl

-- the digits of joined bytes are joined
pub encode-append : (table a b : List ℕ) → encode_with table (a ++ b) ≡ encode_with table a
    ++ encode_with table b
unfolding encode_with
encode-append table [] b = refl
encode-append table (c ∷ a) b =
    let others = encode-append table a b in
    rw others refl

-- the digits of one byte
one_byte : (table : List ℕ) (b : ℕ) → encode_with table (b ∷ []) ≡ slice_index table (b / 16)
    ∷ slice_index table (b % 16) ∷ []
unfolding encode_with
one_byte table b = refl

-- no bytes have no digits
pub no_digits : [] ≡ encode_lower []
unfolding encode_with
no_digits = refl

-- two more items of a text
take_two : (text : List ℕ) (place : ℕ) → 2 * place + 1 < length text → take (2 * (place + 1)) text
    ≡ take (2 * place) text
    ++ (slice_index text (2 * place) ∷ slice_index text (2 * place + 1) ∷ [])
take_two text place fits =
    let two : 2 * (place + 1) ≡ 2 * place + 1 + 1 = omega arith in
    let second = take_more text (2 * place + 1) 0 fits in
    let first = take_more text (2 * place) 0 (omega arith) in
    rw (two, second, first) (append_assoc (take (2 * place) text) _ _)

-- one more byte is read
pub byte_read : (text bytes : List ℕ) (place high low byte : ℕ) → 2 * place + 1 < length text →
    place < length bytes → high < 16 → low < 16
    → slice_index lower_digits high ≡ slice_index text (2 * place)
    → slice_index lower_digits low ≡ slice_index text (2 * place + 1)
    → byte ≡ high % 16 * 16 + low % 16
    → take (2 * place) text ≡ encode_lower (take place bytes)
    → take (2 * (place + 1)) text ≡ encode_lower (take (place + 1) (slice_set bytes place byte))
byte_read text bytes place high low byte fits room first second hi lo is so_far =
    let upper : byte / 16 ≡ high = omega arith in
    let lower : byte % 16 ≡ low = omega arith in
    let more = take_more_set bytes place byte room in
    take_two text place fits
    ∙ ap (λ front. front ++ (slice_index text (2 * place) ∷ slice_index text (2 * place + 1) ∷ []))
    so_far
    ∙ (rw (
      more,
      encode-append lower_digits (take place bytes) (byte ∷ []),
      one_byte lower_digits byte,
      upper,
      lower,
      hi,
      lo,
    ) refl)

-- bytes are still bytes where one of them is written
pub IsBytes-set : (bytes : List ℕ) (k b : ℕ) → IsBytes bytes → b < 256
    → IsBytes (slice_set bytes k b)
IsBytes-set [] k b small below i = small i
IsBytes-set (c ∷ bytes) zero b small below zero = below
IsBytes-set (c ∷ bytes) zero b small below (suc i) = small (suc i)
IsBytes-set (c ∷ bytes) (suc k) b small below zero = small 0
IsBytes-set (c ∷ bytes) (suc k) b small below (suc i) =
    IsBytes-set bytes k b (λ j. small (suc j)) below i

-- bytes are still bytes where a block of them is written
pub IsBytes-put : (bytes block : List ℕ) (k : ℕ) → IsBytes bytes → IsBytes block
    → IsBytes (put_chunk k bytes block)
IsBytes-put [] block k small others i = small i
IsBytes-put (b ∷ bytes) [] zero small others i = small i
IsBytes-put (b ∷ bytes) (c ∷ block) zero small others zero = others 0
IsBytes-put (b ∷ bytes) (c ∷ block) zero small others (suc i) =
    IsBytes-put bytes block zero (λ j. small (suc j)) (λ j. others (suc j)) i
IsBytes-put (b ∷ bytes) block (suc k) small others zero = small 0
IsBytes-put (b ∷ bytes) block (suc k) small others (suc i) =
    IsBytes-put bytes block k (λ j. small (suc j)) others i

-- with two more lower case digits, all digits up to them are lower case ones
pub lower_two : (text : List ℕ) (place : ℕ) → 2 * place + 1 < length text
    → is_lower_digit (slice_index text (2 * place)) ≡ true
    → is_lower_digit (slice_index text (2 * place + 1)) ≡ true
    → list_all is_lower_digit (take (2 * place) text) ≡ true
    → list_all is_lower_digit (take (2 * (place + 1)) text) ≡ true
lower_two text place fits first second so_far =
    let pair = slice_index text (2 * place) ∷ slice_index text (2 * place + 1) ∷ [] in
    ap (list_all is_lower_digit) (take_two text place fits)
    ∙ list_all-append is_lower_digit (take (2 * place) text) pair
    ∙ (rw (so_far, first, second) refl)
