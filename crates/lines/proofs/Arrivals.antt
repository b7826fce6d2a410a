-- The lines of arrivals, whose digits go up to their ends.
use Rattle.std.proofs.Common.{◌≡◌, ◌+◌, ◌-◌, ◌*◌, ◌/◌, ◌%◌, ◌<◌, ◌^◌, ◌&&◌, ◌||◌, ℕ, zero, suc, true, false, not, cond, ltb, nat_eq, List, [], ◌∷◌, ◌++◌, length, take, drop, slice_index, Some, None, codes, refl, sym, ap, ap₂, ◌∙◌, arith}
use Rattle.std.proofs.Math.Seq.{drop-append_seam}
use Rattle.std.proofs.lemmas.Bool.{agree_below_at, and_parts, eqb-true, false≢true, ltb-true}
use Rattle.std.proofs.lemmas.Bool.Decides.{nat_tests}
use Rattle.std.proofs.lemmas.List.{append_assoc}
use Rattle.std.specs.List.{list_all}
use Rattle.acts.specs.Deed.{Reply}
use Rattle.acts.specs.Deed as said
use Rattle.acts.specs.Id.{id_text}
use Rattle.hex.proofs.HexLemmas.{length-encode_with}
use Rattle.hex.specs.Hex.{IsBytes, encode_lower, encode_with, lower_digits}
use Rattle.lines.specs.Digits.{is_value}
use Rattle.lines.specs.Line.{IsArrival, IsLine, arrival_text, is_lower_digit}
use Rattle.lines.specs.Numerals.{EndsNumber}
use Rattle.lines.proofs.HexTexts.{lower_text}
use Rattle.lines.proofs.Lines.{heads_differ}
use Rattle.lines.proofs.Numerals.{same_id}

-- the value of a lower case digit
abbrev value : ℕ → ℕ
value d = cond (ltb d 58) (d - 48) (d - 87)

-- no lower case digit is above f
digit_small : (d : ℕ) → is_lower_digit d ≡ true → d < 103
digit_small d lower = grind (arith, nat_tests)

-- each lower case digit has its value
value_of_digit : (d : ℕ) → is_lower_digit d ≡ true
    → (value d < 16) × (slice_index lower_digits (value d) ≡ d)
value_of_digit d lower =
    let one = agree_below_at
    (λ d. not (is_lower_digit d) || (is_value (value d) && nat_eq (slice_index lower_digits (value d)) d))
    (λ d. true) 103 d refl (digit_small d lower) in
    let (small, same) = and_parts (is_value (value d))
    (nat_eq (slice_index lower_digits (value d)) d) (rw lower at one) in
    (ltb-true (value d) 16 small, eqb-true (slice_index lower_digits (value d)) d same)

-- an even number of lower case digits spells bytes
pub spelled : (digits : List ℕ) → list_all is_lower_digit digits ≡ true → length digits % 2 ≡ 0
    → (bytes : List ℕ) × IsBytes bytes × (digits ≡ encode_lower bytes)
unfolding encode_with
spelled [] lower even = ([], (λ i. omega arith), refl)
spelled (d ∷ []) lower even = absurd (omega (arith, even))
spelled (d ∷ e ∷ digits) lower even =
    let (here, others) = and_parts (is_lower_digit d) _ lower in
    let (next, rest) = and_parts (is_lower_digit e) (list_all is_lower_digit digits) others in
    let (high, first) = value_of_digit d here in
    let (low, second) = value_of_digit e next in
    let (bytes, small, is) = spelled digits rest (omega (arith, even)) in
    let byte = value d * 16 + value e in
    let upper : byte / 16 ≡ value d = omega arith in
    let lower : byte % 16 ≡ value e = omega arith in (
      byte ∷ bytes,
      each byte bytes (omega arith) small,
      ap₂ (λ x l. x ∷ l) (sym first ∙ ap (slice_index lower_digits) (sym upper))
          (ap₂ (λ x l. x ∷ l) (sym second ∙ ap (slice_index lower_digits) (sym lower)) is),
    )
  where
    each : (byte : ℕ) (bytes : List ℕ) → byte < 256 → IsBytes bytes → IsBytes (byte ∷ bytes)
    each byte bytes here others zero = here
    each byte bytes here others (suc i) = others i

-- lower case digits that are counted before a newline are all that stand before it
pub run_ends : (front rest : List ℕ) (count : ℕ) → list_all is_lower_digit front ≡ true
    → list_all is_lower_digit (take count (front ++ 10 ∷ rest)) ≡ true
    → (count < length (front ++ 10 ∷ rest)
    → is_lower_digit (slice_index (front ++ 10 ∷ rest) count) ≡ false)
    → count ≡ length front
run_ends [] rest zero lower counted other = refl
run_ends [] rest (suc count) lower counted other = absurd (false≢true counted)
run_ends (d ∷ front) rest zero lower counted other =
    let here = (and_parts (is_lower_digit d) _ lower).0 in
    absurd (false≢true (sym (other (omega arith)) ∙ here))
run_ends (d ∷ front) rest (suc count) lower counted other =
    ap suc (run_ends front rest count (and_parts (is_lower_digit d) _ lower).1
    (and_parts (is_lower_digit d) _ counted).1 (λ below. other (omega arith)))

-- a text that begins with an answer's line and with the word of an arrival's line is an arrival's
pub arrival_only : (reply : Reply) (line rest behind : List ℕ) → IsLine reply line
    → line ++ 10 ∷ rest ≡ codes "arrive " ++ behind
    → (n : ℕ) × (bytes : List ℕ) × (n < 2 ^ 64) × IsBytes bytes
    × (behind ≡ arrival_text n bytes ++ 10 ∷ rest)
arrival_only said.Done line rest behind is e =
    absurd (heads_differ 100 97 _ _ (line ++ 10 ∷ rest) (λ e. omega arith)
    (ap (λ l. l ++ 10 ∷ rest) is) e)
arrival_only (said.Failed sent) line rest behind is e =
    absurd (heads_differ 102 97 _ _ (line ++ 10 ∷ rest) (λ e. omega arith)
    (ap (λ l. l ++ 10 ∷ rest) is.1) e)
arrival_only (said.Started pid) line rest behind is e =
    absurd (heads_differ 115 97 _ _ (line ++ 10 ∷ rest) (λ e. omega arith)
    (ap (λ l. l ++ 10 ∷ rest) is.1) e)
arrival_only said.Refused line rest behind is e =
    absurd (heads_differ 114 97 _ _ (line ++ 10 ∷ rest) (λ e. omega arith)
    (ap (λ l. l ++ 10 ∷ rest) is) e)
arrival_only (said.Exited None) line rest behind is e =
    absurd (heads_differ 101 97 _ _ (line ++ 10 ∷ rest) (λ e. omega arith)
    (ap (λ l. l ++ 10 ∷ rest) is) e)
arrival_only (said.Exited (Some status)) line rest behind is e =
    absurd (heads_differ 101 97 _ _ (line ++ 10 ∷ rest) (λ e. omega arith)
    (ap (λ l. l ++ 10 ∷ rest) is.1) e)
arrival_only (said.Arrive id bytes) line rest behind is e =
    (id.0, bytes, is.0, is.1, ap (drop 7) (sym e ∙ ap (λ l. l ++ 10 ∷ rest) is.2))
arrival_only (said.Ended id) line rest behind is e =
    absurd (heads_differ 101 97 _ _ (line ++ 10 ∷ rest) (λ e. omega arith)
    (ap (λ l. l ++ 10 ∷ rest) is.1) e)
arrival_only said.TimedOut line rest behind is e =
    absurd (heads_differ 116 97 _ _ (line ++ 10 ∷ rest) (λ e. omega arith)
    (ap (λ l. l ++ 10 ∷ rest) is) e)
arrival_only said.NoMore line rest behind is e = absurd is

-- an arrival's line begins with its word
pub arrival_word : (reply : Reply) (line rest : List ℕ) → IsArrival reply → IsLine reply line
    → (behind : List ℕ) × (line ++ 10 ∷ rest ≡ codes "arrive " ++ behind)
arrival_word (said.Arrive id bytes) line rest arrival is =
    (arrival_text id.0 bytes ++ 10 ∷ rest, ap (λ l. l ++ 10 ∷ rest) is.2)
arrival_word said.Done line rest arrival is = absurd arrival
arrival_word (said.Failed sent) line rest arrival is = absurd arrival
arrival_word (said.Started pid) line rest arrival is = absurd arrival
arrival_word said.Refused line rest arrival is = absurd arrival
arrival_word (said.Exited status) line rest arrival is = absurd arrival
arrival_word (said.Ended id) line rest arrival is = absurd arrival
arrival_word said.TimedOut line rest arrival is = absurd arrival
arrival_word said.NoMore line rest arrival is = absurd arrival

-- where a text that follows the word of an arrival's line is cut after its id
pub arrival_cut : (text behind : List ℕ) (id n : ℕ) (bytes rest : List ℕ) → id < 2 ^ 64 → n < 2 ^ 64
    → EndsNumber behind → text ≡ id_text id ++ behind → text ≡ arrival_text n bytes ++ 10 ∷ rest
    → (id ≡ n) × (behind ≡ 32 ∷ (encode_lower bytes ++ 10 ∷ rest))
arrival_cut text behind id n bytes rest below below' ends cut e =
    same_id id n behind (32 ∷ (encode_lower bytes ++ 10 ∷ rest)) below below' ends refl
    (sym cut ∙ e ∙ append_assoc (id_text n) (32 ∷ encode_lower bytes) (10 ∷ rest))

-- the digits that are counted are those of the bytes
pub bytes_end : (behind : List ℕ) (count : ℕ) (bytes rest : List ℕ) → IsBytes bytes
    → list_all is_lower_digit (take count behind) ≡ true
    → (count < length behind → is_lower_digit (slice_index behind count) ≡ false)
    → behind ≡ encode_lower bytes ++ 10 ∷ rest
    → (count ≡ 2 * length bytes) × (drop count behind ≡ 10 ∷ rest)
bytes_end behind count bytes rest small counted other e =
    let digits = encode_lower bytes in
    let ends = run_ends digits rest count (lower_text bytes small) (rw e at counted) (rw e at other) in (
      ends ∙ length-encode_with lower_digits bytes,
      ap (λ k. drop k behind) ends ∙ ap (drop (length digits)) e
          ∙ drop-append_seam digits (10 ∷ rest),
    )

-- the parts of such a text, joined
pub arrival_joined : (text behind digits after rest bytes : List ℕ) (n : ℕ)
    → text ≡ id_text n ++ (32 ∷ behind) → behind ≡ digits ++ after → after ≡ 10 ∷ rest
    → digits ≡ encode_lower bytes → text ≡ arrival_text n bytes ++ 10 ∷ rest
arrival_joined text behind digits after rest bytes n cut split end is =
    cut ∙ ap (λ b. id_text n ++ 32 ∷ b) (split ∙ ap₂ ◌++◌ is end)
    ∙ sym (append_assoc (id_text n) (32 ∷ encode_lower bytes) (10 ∷ rest))
