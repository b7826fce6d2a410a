-- What the lanes of one step hold: the digits of bytes, and the bytes and values of digits.
use Rattle.std.proofs.Common.{◌≡◌, ℕ, ◌+◌, ◌-◌, ◌*◌, ◌/◌, ◌%◌, ◌^◌, ◌<◌, ◌≤◌, ◌&&◌, ◌||◌, zero, suc, Bool, true, false, not, cond, ltb, List, [], ◌∷◌, ◌++◌, length, map, get_or, take, drop, slice_index, nat_eq, replicate, bit_or, Fits, w8, refl, subst, sym, ap, ap₂, ◌∙◌, arith}
use Rattle.std.proofs.lemmas.Bool.{agree_below, agree_below_at, and_parts, eqb-true, ne_eqb, ltb-true}
use Rattle.std.proofs.lemmas.Bool.Decides.{nat_tests}
use Rattle.std.proofs.lemmas.List.{append-nil, append_assoc, drop_all, drop-drop, length-drop, take_rest, take-append-drop, length-append, get_or_append_left, get_or-append_right, get_or-drop, length-map, get_or-map}
use Rattle.std.proofs.lemmas.List.Folds.{list_all-append}
use Rattle.std.proofs.lemmas.Nat.{or_shifted}
use Rattle.std.proofs.lemmas.Simd.{bitmask_splat, chunk-drop, length-chunk, take_more_put_chunk, length-put_chunk}
use Rattle.std.proofs.Math.Seq.{take-add}
use Rattle.std.specs.List.{list_all, range_with_len}
use lib.Lanes.{Each1, chunk, put_chunk, zip2, sel_l, mask_l, top}
use borrow.Rule.Slice.PartMut.{put_mid}
use Rattle.hex.specs.Hex.{IsBytes, encode_lower, encode_with, lower_digits}
use Rattle.hex.proofs.HexLemmas.{length-encode_with}
use Rattle.hex.proofs.Pairs.{drop-pair, encode_with-drop}
use Rattle.lines.specs.Digits.{is_mark, is_value}
use Rattle.lines.specs.Line.{is_lower_digit}
use Rattle.lines.proofs.HexTexts.{encode-append}

abbrev pub digit : ℕ → ℕ
digit value = slice_index lower_digits value

-- ---- each lane for itself

-- lanes as they are, as a map
pub itself : (v : List ℕ) → v ≡ map (λ x. x) v
itself [] = refl
itself (x ∷ v) = ap (λ l. x ∷ l) (itself v)

-- a choice by a comparison, lane by lane
pub chosen : (t f g : ℕ → ℕ) (v : List ℕ) {ms xs ys : List ℕ} → ms ≡ map t v → xs ≡ map f v
    → ys ≡ map g v → sel_l (map (top 7) ms) xs ys ≡ map (λ x. cond (top 7 (t x)) (f x) (g x)) v
chosen t f g v {ms} {xs} {ys} m x y =
    ap (λ l. sel_l (map (top 7) l) xs ys) m ∙ ap₂ (sel_l (map (top 7) (map t v))) x y ∙ at_each v
  where
    at_each : (v : List ℕ) → sel_l (map (top 7) (map t v)) (map f v) (map g v)
        ≡ map (λ x. cond (top 7 (t x)) (f x) (g x)) v
    at_each [] = refl
    at_each (x ∷ v) = ap (λ l. cond (top 7 (t x)) (f x) (g x) ∷ l) (at_each v)

-- lanes that are computed in two ways, which agree on each value of a digit
pub same_digits : (lane : ℕ → ℕ) (values lanes : List ℕ) → lanes ≡ map lane values
    → list_all is_value values ≡ true
    → agree_below (λ value. nat_eq (lane value) (digit value)) (λ value. true) 16 ≡ true
    → lanes ≡ map digit values
same_digits lane values lanes are small agree = are ∙ at_each values small
  where
    at_each : (values : List ℕ) → list_all is_value values ≡ true
        → map lane values ≡ map digit values
    at_each [] small = refl
    at_each (value ∷ values) small =
        let (here, others) = and_parts (is_value value) (list_all is_value values) small in
        let same = agree_below_at (λ value. nat_eq (lane value) (digit value)) (λ value. true) 16
        value agree (ltb-true value 16 here) in
        ap₂ (λ x l. x ∷ l) (eqb-true (lane value) (digit value) same) (at_each values others)

-- lanes computed from digits pass a test just where the digits are lower case ones
pub lanes_tested : (test : ℕ → Bool) (lane : ℕ → ℕ) (digits lanes : List ℕ) → lanes ≡ map lane digits
    → Each1 (Fits w8) digits → agree_below (λ d. test (lane d)) is_lower_digit 256 ≡ true
    → list_all test lanes ≡ list_all is_lower_digit digits
lanes_tested test lane digits lanes are small agree =
    ap (list_all test) are ∙ at_each digits small
  where
    at_each : (digits : List ℕ) → Each1 (Fits w8) digits
        → list_all test (map lane digits) ≡ list_all is_lower_digit digits
    at_each [] small = refl
    at_each (d ∷ digits) small =
        ap₂ ◌&&◌ (agree_below_at (λ d. test (lane d)) is_lower_digit 256 d agree small.0.fits)
        (at_each digits small.1)

module _ (lane : ℕ → ℕ)
    (under : agree_below (λ d. not (is_lower_digit d) || is_value (lane d)) (λ d. true) 256 ≡ true)
    (right : agree_below (λ d. not (is_lower_digit d) || nat_eq d (digit (lane d))) (λ d. true) 256
    ≡ true) where
  -- lanes computed from lower case digits are values
  pub small_lanes : (digits lanes : List ℕ) → lanes ≡ map lane digits → Each1 (Fits w8) digits
      → list_all is_lower_digit digits ≡ true → list_all is_value lanes ≡ true
  small_lanes digits lanes are small lower = ap (list_all is_value) are ∙ at_each digits small lower
    where
      at_each : (digits : List ℕ) → Each1 (Fits w8) digits → list_all is_lower_digit digits ≡ true
          → list_all is_value (map lane digits) ≡ true
      at_each [] small lower = refl
      at_each (d ∷ digits) small lower =
          let (here, others) = and_parts (is_lower_digit d) (list_all is_lower_digit digits) lower in
          let one = agree_below_at (λ d. not (is_lower_digit d) || is_value (lane d))
          (λ d. true) 256 d under small.0.fits in
          ap₂ ◌&&◌ (rw here at one) (at_each digits small.1 others)

  -- and they are the values of the digits
  pub right_lanes : (digits lanes : List ℕ) → lanes ≡ map lane digits → Each1 (Fits w8) digits
      → list_all is_lower_digit digits ≡ true → digits ≡ map digit lanes
  right_lanes digits lanes are small lower = at_each digits small lower ∙ ap (map digit) (sym are)
    where
      at_each : (digits : List ℕ) → Each1 (Fits w8) digits → list_all is_lower_digit digits ≡ true
          → digits ≡ map digit (map lane digits)
      at_each [] small lower = refl
      at_each (d ∷ digits) small lower =
          let (here, others) = and_parts (is_lower_digit d) (list_all is_lower_digit digits) lower in
          let one = agree_below_at (λ d. not (is_lower_digit d) || nat_eq d (digit (lane d)))
          (λ d. true) 256 d right small.0.fits in
          ap₂ (λ x l. x ∷ l)
          (eqb-true d (digit (lane d)) (rw here at one))
          (at_each digits small.1 others)

-- ---- pairs of lanes

-- what alternates between two halves of a list, from a place on
abbrev pub woven : List ℕ → ℕ → ℕ → ℕ → List ℕ
woven lanes half a zero = []
woven lanes half a (suc n) =
    get_or lanes a 0 ∷ get_or lanes (half + a) 0 ∷ woven lanes half (a + 1) n

-- the digits of the upper halves of bytes, and of their lower halves, in turn are those of the bytes
pub bytes_woven : (bytes high low : List ℕ) (half : ℕ) → length bytes ≡ half
    → high ≡ map (λ b. digit (b / 16)) bytes → low ≡ map (λ b. digit (b % 16)) bytes
    → (n a : ℕ) → a + n ≡ half → woven (high ++ low) half a n ≡ encode_lower (drop a bytes)
unfolding encode_with
bytes_woven bytes high low half long upper lower zero a end =
    rw (drop_all a bytes (omega arith)) refl
bytes_woven bytes high low half long upper lower (suc n) a end =
    let wide : length high ≡ half = ap length upper ∙ length-map bytes _ ∙ long in
    let first : get_or (high ++ low) a 0 ≡ digit (get_or bytes a 0 / 16) =
    get_or_append_left high low 0 a (omega arith) ∙ ap (λ l. get_or l a 0) upper
    ∙ get_or-map (λ b. digit (b / 16)) bytes a 0 0 (omega arith) in
    let back : half + a - half ≡ a = omega arith in
    let second : get_or (high ++ low) (half + a) 0 ≡ digit (get_or bytes a 0 % 16) =
    get_or-append_right high low half (half + a) 0 wide (omega arith)
    ∙ ap (λ i. get_or low i 0) back ∙ ap (λ l. get_or l a 0) lower
    ∙ get_or-map (λ b. digit (b % 16)) bytes a 0 0 (omega arith) in
    let others = bytes_woven bytes high low half long upper lower n (a + 1) (omega arith) in
    rw (first, second, others) (sym (encode_with-drop lower_digits bytes a (omega arith)))

-- two values side by side as a byte
abbrev pub byte_at : List ℕ → ℕ → ℕ
byte_at values k = bit_or (get_or values (2 * k) 0 * 16 % 256) (get_or values (2 * k + 1) 0)

-- each of some values is below sixteen
value_below : (values : List ℕ) (i : ℕ) → list_all is_value values ≡ true → i < length values
    → get_or values i 0 < 16
value_below [] i small inside = absurd (omega arith)
value_below (value ∷ values) zero small inside =
    ltb-true value 16 (and_parts (is_value value) (list_all is_value values) small).0
value_below (value ∷ values) (suc i) small inside =
    value_below values i (and_parts (is_value value) (list_all is_value values) small).1
    (omega arith)

-- two of some values are the halves of a byte
byte_is : (values : List ℕ) (k : ℕ) → list_all is_value values ≡ true → 2 * k + 1 < length values
    → (byte_at values k ≡ get_or values (2 * k) 0 * 16 + get_or values (2 * k + 1) 0)
    × (get_or values (2 * k) 0 < 16) × (get_or values (2 * k + 1) 0 < 16)
byte_is values k small inside =
    let high = value_below values (2 * k) small (omega arith) in
    let low = value_below values (2 * k + 1) small inside in
    let fits : get_or values (2 * k) 0 * 16 % 256 ≡ get_or values (2 * k) 0 * 16 = omega arith in (
      ap (λ x. bit_or x (get_or values (2 * k + 1) 0)) fits
          ∙ or_shifted (get_or values (2 * k) 0) 4 (get_or values (2 * k + 1) 0) low,
      high,
      low,
    )

-- the digits of values are those of the bytes that the values make, two a byte
pub values_joined : (values : List ℕ) → list_all is_value values ≡ true → (n a : ℕ)
    → length values ≡ 2 * (a + n)
    → map digit (drop (2 * a) values) ≡ encode_lower (map (byte_at values) (range_with_len a n))
unfolding encode_with
values_joined values small zero a long = rw (drop_all (2 * a) values (omega arith)) refl
values_joined values small (suc n) a long =
    let (is, high, low) = byte_is values a small (omega arith) in
    let upper : get_or values (2 * a) 0 ≡ byte_at values a / 16 = omega (arith, is) in
    let lower : get_or values (2 * a + 1) 0 ≡ byte_at values a % 16 = omega (arith, is) in
    let others = values_joined values small n (a + 1) (omega arith) in
    ap (map digit) (drop-pair values a (omega arith))
    ∙ (λ i. digit (upper i) ∷ digit (lower i) ∷ others i)

-- the numbers that values make, two a byte, are bytes
pub joined_small : (values : List ℕ) → list_all is_value values ≡ true → (n a : ℕ)
    → length values ≡ 2 * (a + n) → IsBytes (map (byte_at values) (range_with_len a n))
joined_small values small zero a long i = omega arith
joined_small values small (suc n) a long zero =
    let (is, high, low) = byte_is values a small (omega arith) in
    omega (arith, is)
joined_small values small (suc n) a long (suc i) =
    joined_small values small n (a + 1) (omega arith) i

-- lanes of numbers below sixteen
pub value_lanes : (lane : ℕ → ℕ) (bytes lanes : List ℕ) → lanes ≡ map lane bytes
    → Each1 (Fits w8) bytes → agree_below (λ b. is_value (lane b)) (λ b. true) 256 ≡ true
    → list_all is_value lanes ≡ true
value_lanes lane bytes lanes are small agree = ap (list_all is_value) are ∙ at_each bytes small
  where
    at_each : (bytes : List ℕ) → Each1 (Fits w8) bytes
        → list_all is_value (map lane bytes) ≡ true
    at_each [] small = refl
    at_each (b ∷ bytes) small =
        let one = agree_below_at (λ b. is_value (lane b)) (λ b. true) 256 b agree small.0.fits in
        rw one (at_each bytes small.1)

-- ---- marks

-- the lesser of two is a mark just where both are
mark_min : (x y : ℕ) → is_mark (cond (top 7 (cond (ltb x y) 255 0)) x y) ≡ (is_mark x && is_mark y)
mark_min x y = grind (arith, nat_tests)

-- two tests of each of two
two_and_two : (p q r s : Bool) → ((p && q) && (r && s)) ≡ ((p && r) && (q && s))
two_and_two true true r s = refl
two_and_two true false true s = refl
two_and_two true false false s = refl
two_and_two false q r s = refl

-- the lesser of each two are marks just where all are
least_marked : (xs ys : List ℕ) → length xs ≡ length ys
    → list_all is_mark (sel_l (map (top 7) (zip2 (λ a b. cond (ltb a b) 255 0) xs ys)) xs ys)
    ≡ (list_all is_mark xs && list_all is_mark ys)
least_marked [] [] e = refl
least_marked [] (y ∷ ys) e = absurd (omega arith)
least_marked (x ∷ xs) [] e = absurd (omega arith)
least_marked (x ∷ xs) (y ∷ ys) e =
    ap₂ ◌&&◌ (mark_min x y) (least_marked xs ys (omega arith))
    ∙ two_and_two (is_mark x) (is_mark y) (list_all is_mark xs) (list_all is_mark ys)

-- the same of the joined lanes
pub both_marked : (xs ys : List ℕ) → length xs ≡ length ys
    → list_all is_mark (sel_l (map (top 7) (zip2 (λ a b. cond (ltb a b) 255 0) xs ys)) xs ys)
    ≡ list_all is_mark (xs ++ ys)
both_marked xs ys e = least_marked xs ys e ∙ sym (list_all-append is_mark xs ys)

-- a number is no mark just where it is lesser than the least
mark_is : (x : ℕ) → not (ltb x 246) ≡ is_mark x
mark_is x = grind (arith, nat_tests)

-- one more bit
bit_counted : (b r : Bool) (m : ℕ) → nat_eq m 0 ≡ r → nat_eq (cond b 1 0 + 2 * m) 0 ≡ (not b && r)
bit_counted true r m others = ne_eqb (1 + 2 * m) 0 (λ e. omega arith)
bit_counted false r zero others = others
bit_counted false r (suc m) others =
    ne_eqb (0 + 2 * suc m) 0 (λ e. omega arith) ∙ sym (ne_eqb (suc m) 0 (λ e. omega arith))
    ∙ others

-- all lanes are marks just where no bit is set for one that is none
bits_clear : (xs : List ℕ) → nat_eq (mask_l (map (λ x. ltb x 246) xs)) 0 ≡ list_all is_mark xs
bits_clear [] = refl
bits_clear (x ∷ xs) =
    bit_counted (ltb x 246) (list_all is_mark xs) (mask_l (map (λ x. ltb x 246) xs)) (bits_clear xs)
    ∙ ap (λ b. b && list_all is_mark xs) (mark_is x)

-- a mask of the lanes that are no marks is empty just where all are marks
pub none_clear : (xs : List ℕ) → length xs ≡ 16
    → nat_eq (mask_l (map (top 7) (zip2 (λ a b. cond (ltb a b) 255 0) xs (replicate 16 246))) % 2 ^ 64)
    0 ≡ list_all is_mark xs
none_clear xs long =
    ap (λ m. nat_eq m 0) (bitmask_splat w8 ltb xs 16 246 long (omega arith)) ∙ bits_clear xs

-- ---- the steps of the loops

-- two more chunks
two_chunks : (i n m : ℕ) (xs : List ℕ) → m ≡ i + n + n
    → take m xs ≡ take i xs ++ (chunk i n xs ++ chunk (i + n) n xs)
two_chunks i n m xs is =
    ap (λ k. take k xs) is ∙ take-add (i + n) n xs
    ∙ ap (λ l. l ++ chunk (i + n) n xs) (take-add i n xs)
    ∙ append_assoc (take i xs) (chunk i n xs) (chunk (i + n) n xs)

-- what is stored by two steps of n lanes
module _ (n done : ℕ) (bytes digits : List ℕ) (twice : length digits ≡ 2 * length bytes)
    (within : done + n ≤ length bytes) where
  -- n more bytes are spelled
  pub more_spelled : (first second : List ℕ) → length first ≡ n
      → first ++ second ≡ encode_lower (chunk done n bytes)
      → take (2 * done) digits ++ encode_lower (drop done bytes) ≡ encode_lower bytes
      → take (2 * (done + n)) (put_chunk (2 * done + n) (put_chunk (2 * done) digits first) second)
      ++ encode_lower (drop (done + n) bytes) ≡ encode_lower bytes
  more_spelled first second half spelled so_far =
      let rest = encode_lower (drop (done + n) bytes) in
      let front = take (2 * done) digits in
      let once = put_chunk (2 * done) digits first in
      let text = ap length spelled ∙ length-encode_with lower_digits (chunk done n bytes) in
      let wide : length second ≡ n =
      omega (arith, text, length-append first second, length-chunk done n bytes within) in
      let one = take_more_put_chunk (2 * done) digits first (2 * done + n) (omega arith)
      (omega arith) in
      let two = take_more_put_chunk (2 * done + n) once second (2 * (done + n)) (omega arith)
      (omega (arith, length-put_chunk (2 * done) digits first)) in
      let behind : encode_lower (drop done bytes) ≡ (first ++ second) ++ rest =
      ap encode_lower (chunk-drop done n bytes)
      ∙ encode-append lower_digits (chunk done n bytes) (drop (done + n) bytes)
      ∙ ap (λ text. text ++ rest) (sym spelled) in
      ap (λ text. text ++ rest)
      (two ∙ ap (λ text. text ++ second) one ∙ append_assoc front first second)
      ∙ append_assoc front (first ++ second) rest ∙ ap (λ text. front ++ text) (sym behind)
      ∙ so_far

  -- n more bytes are read
  pub more_read : (joined : List ℕ) → chunk (2 * done) (2 * n) digits ≡ encode_lower joined
      → take (2 * done) digits ≡ encode_lower (take done bytes)
      → take (2 * (done + n)) digits ≡ encode_lower (take (done + n) (put_chunk done bytes joined))
  more_read joined block so_far =
      let both : 2 * (done + n) ≡ 2 * done + 2 * n = omega arith in
      let long : length joined ≡ n = omega (
        arith,
        ap length block ∙ length-encode_with lower_digits joined,
        length-chunk (2 * done) (2 * n) digits (omega arith),
      ) in
      ap (λ k. take k digits) both ∙ take-add (2 * done) (2 * n) digits
      ∙ ap₂ ◌++◌ so_far block ∙ sym (encode-append lower_digits (take done bytes) joined)
      ∙ ap encode_lower
      (sym (take_more_put_chunk done bytes joined (done + n) (omega arith) (omega arith)))

-- twice n more bytes are read
pub twice_read : (n done : ℕ) (bytes digits first second : List ℕ)
    → length digits ≡ 2 * length bytes → done + 2 * n ≤ length bytes
    → chunk (2 * done) (2 * n) digits ≡ encode_lower first
    → chunk (2 * done + 2 * n) (2 * n) digits ≡ encode_lower second
    → take (2 * done) digits ≡ encode_lower (take done bytes)
    → take (2 * (done + 2 * n)) digits
    ≡ encode_lower (take (done + 2 * n) (put_chunk (done + n) (put_chunk done bytes first) second))
twice_read n done bytes digits first second twice within one two so_far =
    let once = put_chunk done bytes first in
    let long = length-put_chunk done bytes first in
    let here : 2 * done + 2 * n ≡ 2 * (done + n) = omega arith in
    let end : done + n + n ≡ done + 2 * n = omega arith in
    subst (λ k. take (2 * k) digits ≡ encode_lower (take k (put_chunk (done + n) once second))) end
    (more_read n (done + n) once digits (omega (arith, long)) (omega (arith, long)) second
    (subst (λ i. chunk i (2 * n) digits ≡ encode_lower second) here two)
    (more_read n done bytes digits twice (omega arith) first one so_far))

-- the front of the rest of a list
pub front_of_rest : (i n : ℕ) (xs : List ℕ) → chunk i n xs ≡ take n (take (length xs - i) (drop i xs))
front_of_rest i n xs = sym (ap (take n) (take_rest xs i))

-- what follows the front of the rest of a list
pub back_of_rest : (i n : ℕ) (xs : List ℕ)
    → chunk (i + n) n xs ≡ take n (drop n (take (length xs - i) (drop i xs)))
back_of_rest i n xs =
    ap (take n) (sym (drop-drop n i xs) ∙ ap (drop n) (sym (take_rest xs i)))

-- where the front is read, and the rest too, all is read
pub rest_read : (i done : ℕ) (digits bytes rest : List ℕ)
    → take i digits ≡ encode_lower (take done bytes)
    → take (length digits - i) (drop i digits) ≡ encode_lower rest
    → digits ≡ encode_lower (put_mid done (length bytes - done) bytes rest)
rest_read i done digits bytes rest front back =
    let none = drop_all (length bytes - done) (drop done bytes)
    (omega (arith, length-drop done bytes)) in
    sym (take-append-drop i digits) ∙ ap₂ ◌++◌ front (sym (take_rest digits i) ∙ back)
    ∙ sym (encode-append lower_digits (take done bytes) rest)
    ∙ ap (λ l. encode_lower (take done bytes ++ l))
    (sym (append-nil rest) ∙ ap (λ l. rest ++ l) (sym none))

-- ---- digits that are counted

-- a front of lower case digits, and more of them
pub more_lower : (done more : ℕ) (text : List ℕ) → list_all is_lower_digit (take done text) ≡ true
    → list_all is_lower_digit (take more (drop done text)) ≡ true
    → list_all is_lower_digit (take (done + more) text) ≡ true
more_lower done more text front rest =
    ap (list_all is_lower_digit) (take-add done more text)
    ∙ list_all-append is_lower_digit (take done text) (take more (drop done text))
    ∙ ap₂ ◌&&◌ front rest

-- a part of lower case digits
pub part_lower : (i n : ℕ) (text : List ℕ) → list_all is_lower_digit text ≡ true
    → list_all is_lower_digit (chunk i n text) ≡ true
part_lower i n text lower =
    let whole = ap (list_all is_lower_digit) (take-append-drop i text)
    ∙ lower in
    let rest = (and_parts _ _ (sym (list_all-append is_lower_digit (take i text) (drop i text))
    ∙ whole)).1 in
    let split = ap (list_all is_lower_digit) (take-append-drop n (drop i text)) ∙ rest in
    (and_parts _ _ (sym (list_all-append is_lower_digit (take n (drop i text))
    (drop n (drop i text))) ∙ split)).0

-- two parts of lower case digits, one after the other
pub lower_halves : (n : ℕ) (text : List ℕ) → list_all is_lower_digit (take (n + n) text) ≡ true
    → (list_all is_lower_digit (take n text) ≡ true)
    × (list_all is_lower_digit (chunk n n text) ≡ true)
lower_halves n text lower =
    and_parts _ _ (sym (list_all-append is_lower_digit (take n text) (chunk n n text))
    ∙ ap (list_all is_lower_digit) (sym (take-add n n text)) ∙ lower)

-- each of some lower case digits is one
pub lower_at : (text : List ℕ) (i : ℕ) → list_all is_lower_digit text ≡ true → i < length text
    → is_lower_digit (slice_index text i) ≡ true
lower_at [] i lower inside = absurd (omega arith)
lower_at (b ∷ text) zero lower inside = (and_parts (is_lower_digit b) _ lower).0
lower_at (b ∷ text) (suc i) lower inside =
    lower_at text i (and_parts (is_lower_digit b) _ lower).1 (omega arith)

-- digits that were counted, and those that are counted of the rest
module _ (done : ℕ) (text : List ℕ) (front : list_all is_lower_digit (take done text) ≡ true) where
  abbrev rest : List ℕ
  rest = take (length text - done) (drop done text)

  -- some more are lower case digits
  pub rest_counted : (more : ℕ) → list_all is_lower_digit (take more rest) ≡ true
      → list_all is_lower_digit (take (done + more) text) ≡ true
  rest_counted more lower =
      more_lower done more text front
      (ap (λ l. list_all is_lower_digit (take more l)) (sym (take_rest text done)) ∙ lower)

  -- what follows them is none
  pub rest_other : (more : ℕ)
      → (more < length rest → is_lower_digit (slice_index rest more) ≡ false)
      → done + more < length text → is_lower_digit (slice_index text (done + more)) ≡ false
  rest_other more other below =
      let long = ap length (take_rest text done) ∙ length-drop done text in
      ap is_lower_digit (sym (get_or-drop done text more 0) ∙ ap (λ l. get_or l more 0)
      (sym (take_rest text done))) ∙ other (omega (arith, long))

-- the lesser marks of two halves are marks just where the block is of lower case digits
pub block_lower : (text m1 m2 b : List ℕ)
    → list_all is_mark m1 ≡ list_all is_lower_digit (take 64 text)
    → list_all is_mark m2 ≡ list_all is_lower_digit (take 64 (take (length text - 64) (drop 64 text)))
    → list_all is_mark b ≡ list_all is_mark (m1 ++ m2)
    → list_all is_mark b ≡ list_all is_lower_digit (take 128 text)
block_lower text m1 m2 b one two both =
    both ∙ list_all-append is_mark m1 m2
    ∙ ap₂ ◌&&◌ one (two ∙ ap (λ l. list_all is_lower_digit (take 64 l)) (take_rest text 64))
    ∙ sym (list_all-append is_lower_digit (take 64 text) (chunk 64 64 text))
    ∙ ap (list_all is_lower_digit) (sym (take-add 64 64 text))

-- the lesser marks of four chunks are marks just where the chunks are lower case digits
pub half_lower : (text m1 m2 m3 m4 b1 b2 b : List ℕ)
    → list_all is_mark m1 ≡ list_all is_lower_digit (chunk 0 16 text)
    → list_all is_mark m2 ≡ list_all is_lower_digit (chunk 16 16 text)
    → list_all is_mark m3 ≡ list_all is_lower_digit (chunk 32 16 text)
    → list_all is_mark m4 ≡ list_all is_lower_digit (chunk 48 16 text)
    → list_all is_mark b1 ≡ list_all is_mark (m1 ++ m2)
    → list_all is_mark b2 ≡ list_all is_mark (m3 ++ m4)
    → list_all is_mark b ≡ list_all is_mark (b1 ++ b2)
    → list_all is_mark b ≡ list_all is_lower_digit (take 64 text)
half_lower text m1 m2 m3 m4 b1 b2 b one two three four front back both =
    both ∙ list_all-append is_mark b1 b2
    ∙ ap₂ ◌&&◌ (front ∙ half m1 m2 (chunk 0 16 text) (chunk 16 16 text) one two
    ∙ ap (list_all is_lower_digit) (sym (take-add 16 16 text)))
    (back ∙ half m3 m4 (chunk 32 16 text) (chunk 48 16 text) three four)
    ∙ sym (list_all-append is_lower_digit (take 32 text) (chunk 32 16 text ++ chunk 48 16 text))
    ∙ ap (list_all is_lower_digit) (sym (two_chunks 32 16 64 text refl))
  where
    half : (x y a b : List ℕ) → list_all is_mark x ≡ list_all is_lower_digit a
        → list_all is_mark y ≡ list_all is_lower_digit b
        → list_all is_mark (x ++ y) ≡ list_all is_lower_digit (a ++ b)
    half x y a b first second =
        list_all-append is_mark x y ∙ ap₂ ◌&&◌ first second ∙ sym (list_all-append is_lower_digit a b)
