-- Each text is a list or has a fault.
use Rattle.std.proofs.Common.{◌≡◌, ℕ, zero, suc, ◌+◌, ◌-◌, ◌*◌, ◌<◌, ◌≤◌, List, [], ◌∷◌, ◌⊎◌, inl, inr, ◌==◌, ◌||◌, length, length-append, Bool, true, false, cond, Option, Some, None, Result, Ok, Err, refl, sym, ap, subst, ◌∙◌, arith}
use Rattle.tcltext.proofs.Choices.{choice}
use Rattle.tcltext.specs.declared.escape.EscapeNotHere.{EscapeNotHere}
use Rattle.tcltext.specs.Flaw.{Flaw, open_brace, open_quote, after_brace, after_quote, escape_not_here}
use Rattle.tcltext.specs.Style.{Style, up_to_white, up_to_quote, stops}
use Rattle.tcltext.specs.Digit.{digit_value, is_digit}
use Rattle.tcltext.specs.Escape.{skip_blanks, byte_number, hexadecimal_byte, named_byte, escape}
use Rattle.tcltext.specs.White.{is_white, skip_white, ends_element}
use Rattle.tcltext.specs.Elements.{Next, at_end, a_stop, a_byte, no_escape, escaped, next, IsSpelled, Outcome, closed, QuotedEnds, BareEnds, Opening, in_braces, in_quotes, bare, opening, IsOpened, IsElement, IsElements, IsList, HasFlaw}
use Rattle.tcltext.proofs.Pairing.{Found, pairing, found_pairs, pairs_nowhere}
use Rattle.tcltext.proofs.Unique.{NoByte}

skip_blanks_within : (x : List ℕ) → length (skip_blanks x) ≤ length x
skip_blanks_within [] = omega arith
skip_blanks_within (c ∷ x) =
    let so = skip_blanks_within x in
    choice (λ (y : List ℕ). length y ≤ length (c ∷ x)) _ (skip_blanks x) (c ∷ x) (omega arith)
    (omega arith)

number_within : (x : List ℕ) (base most n : ℕ) → length (byte_number base most n x).1 ≤ length x
number_within [] base most n = omega arith
number_within (c ∷ x) base most n =
    let so = number_within x base (most - 1) (base * n + digit_value c) in
    choice (λ (p : ℕ × List ℕ). length p.1 ≤ length (c ∷ x)) _
    (byte_number base (most - 1) (base * n + digit_value c) x) (n, c ∷ x) (omega arith)
    (omega arith)

abbrev Escaped : Type 0
Escaped = Result (ℕ × List ℕ) EscapeNotHere

-- the text after an escape has at most n bytes
abbrev Within : ℕ → Result (ℕ × List ℕ) EscapeNotHere → Type 0
Within n (Ok p) = length p.1 ≤ n
Within n (Err e) = Unit {0}

hexadecimal_within : (x : List ℕ) → length (hexadecimal_byte x).1 ≤ length x
hexadecimal_within [] = omega arith
hexadecimal_within (c ∷ x) =
    choice (λ (p : ℕ × List ℕ). length p.1 ≤ length (c ∷ x)) (is_digit 16 c)
    (byte_number 16 2 0 (c ∷ x)) (120, c ∷ x) (number_within (c ∷ x) 16 2 0) (omega arith)

escape_within : (x : List ℕ) → Within (length x) (escape x)
escape_within [] = omega arith
escape_within (c ∷ x) =
    let n = length (c ∷ x) in
    let newline : length (skip_blanks x) ≤ length (c ∷ x) = let h = skip_blanks_within x in
    omega arith in
    let letter : length (hexadecimal_byte x).1 ≤ length (c ∷ x) = let h = hexadecimal_within x in
    omega arith in
    let other : length x ≤ length (c ∷ x) = omega arith in
    let number : Escaped = Ok (byte_number 8 3 0 (c ∷ x)) in
    let named : Escaped = Ok (named_byte c, x) in
    let digits : Escaped = cond (is_digit 8 c) number named in
    let left_out : Escaped = cond ((c == 117) || (c == 85)) (Err (record {})) digits in
    let hexadecimal : Escaped = cond (c == 120) (Ok (hexadecimal_byte x)) left_out in
    choice (Within n) (c == 10) (Ok (32, skip_blanks x)) hexadecimal newline
    (choice (Within n) (c == 120) (Ok (hexadecimal_byte x)) left_out letter
    (choice (Within n) ((c == 117) || (c == 85)) (Err (record {})) digits tt
    (choice (Within n) (is_digit 8 c) number named (number_within (c ∷ x) 8 3 0) other)))

-- the text after what stands next has fewer than n bytes
abbrev pub Fewer : ℕ → Next → Type 0
Fewer n at_end = Unit {0}
Fewer n (a_stop z) = length z < n
Fewer n (a_byte b z) = length z < n
Fewer n no_escape = Unit {0}

escaped_fewer : (n : ℕ) (r : Result (ℕ × List ℕ) EscapeNotHere) → Within n r →
    Fewer (suc n) (escaped r)
escaped_fewer n (Ok p) h = omega arith
escaped_fewer n (Err e) h = tt

pub next_fewer : (s : Style) (x : List ℕ) → Fewer (length x) (next s x)
next_fewer s [] = tt
next_fewer s (c ∷ x) =
    let n = length (c ∷ x) in
    let one : length x < length (c ∷ x) = omega arith in
    let byte : Next = cond (c == 92) (escaped (escape x)) (a_byte c x) in
    choice (Fewer n) (stops s c) (a_stop x) byte one
    (choice (Fewer n) (c == 92) (escaped (escape x)) (a_byte c x)
    (escaped_fewer (length x) (escape x) (escape_within x)) one)

-- x spells some bytes at its front, and then no further byte
abbrev pub Spells : Style → List ℕ → Type 0
Spells s x = (e z : List ℕ) × IsSpelled s e x z × NoByte (next s z)
    × (length e + length z ≤ length x)

spells_next : (n : ℕ) (s : Style) (x : List ℕ) (k : Next) → next s x ≡ k → Fewer (length x) k →
    length x ≤ suc n → ((y : List ℕ) → length y ≤ n → Spells s y) → Spells s x
spells_next n s x at_end e h within so = ([], x, refl, subst NoByte (sym e) tt, omega arith)
spells_next n s x (a_stop y) e h within so = ([], x, refl, subst NoByte (sym e) tt, omega arith)
spells_next n s x no_escape e h within so = ([], x, refl, subst NoByte (sym e) tt, omega arith)
spells_next n s x (a_byte b y) e h within so =
    let rest = so y (omega arith) in
    let shorter : length rest.0 + length rest.1 ≤ length y = rest.4 in
    (b ∷ rest.0, rest.1, (y, e, rest.2), rest.3, omega arith)

spells_within : (n : ℕ) (s : Style) (x : List ℕ) → length x ≤ n → Spells s x
spells_within zero s [] h = ([], [], refl, tt, omega arith)
spells_within zero s (c ∷ x) h = absurd (omega arith)
spells_within (suc n) s x h = spells_next n s x (next s x) refl (next_fewer s x) h
    (λ y k. spells_within n s y k)

-- the text after an element has fewer than n bytes
abbrev pub Shorter : ℕ → Outcome → Type 0
Shorter n (Ok p) = length p.1 < n
Shorter n (Err f) = Unit {0}

abbrev pub Reads : ℕ → Opening → Type 0
Reads n o = (r : Outcome) × IsOpened o r × Shorter n r

closed_shorter : (n : ℕ) (f : Flaw) (e z : List ℕ) → length z < n → Shorter n (closed f e z)
closed_shorter n f e z h = choice (Shorter n) (ends_element z) (Ok (e, z)) (Err f) h tt

braced_reads : (n : ℕ) (x : List ℕ) (r : Found) → pairing 0 false x ≡ r → length x < n →
    Reads n (in_braces x)
braced_reads n x None e h = (Err open_brace, inr (pairs_nowhere x e, refl), tt)
braced_reads n x (Some p) e h =
    let pair = found_pairs x p.0 p.1 e in
    let long : length x ≡ length p.0 + length (125 ∷ p.1) =
    ap length pair.0 ∙ length-append p.0 (125 ∷ p.1) in (
      closed after_brace p.0 p.1,
      inl (p.0, p.1, pair, refl),
      closed_shorter n after_brace p.0 p.1 (omega arith),
    )

quoted_reads : (n : ℕ) (x e z : List ℕ) (k : Next) → next up_to_quote z ≡ k → Fewer (length z) k →
    NoByte k → IsSpelled up_to_quote e x z → length z < n → Reads n (in_quotes x)
quoted_reads n x e z at_end is h b spelled within = (
  Err open_quote,
  (e, z, spelled, subst (λ k. QuotedEnds e k (Err open_quote)) (sym is) refl),
  tt,
)
quoted_reads n x e z (a_stop y) is h b spelled within =
    let r = closed after_quote e y in (
      r,
      (e, z, spelled, subst (λ k. QuotedEnds e k r) (sym is) refl),
      closed_shorter n after_quote e y (omega arith),
    )
quoted_reads n x e z (a_byte c y) is h b spelled within = absurd b
quoted_reads n x e z no_escape is h b spelled within = (
  Err escape_not_here,
  (
    e,
    z,
    spelled,
    subst (λ k. QuotedEnds e k (Err escape_not_here)) (sym is)
        refl,
  ),
  tt,
)

-- a bare element does not end here
abbrev GoesOn : Next → Type 0
GoesOn at_end = ⊥
GoesOn (a_stop z) = ⊥
GoesOn (a_byte b z) = Unit {0}
GoesOn no_escape = Unit {0}

escaped_goes_on : (r : Result (ℕ × List ℕ) EscapeNotHere) → GoesOn (escaped r)
escaped_goes_on (Ok p) = tt
escaped_goes_on (Err e) = tt

bare_goes_on : (x : List ℕ) → ends_element x ≡ false → GoesOn (next up_to_white x)
bare_goes_on [] h = absurd (cc)
bare_goes_on (c ∷ x) h =
    rw h (choice GoesOn (c == 92) (escaped (escape x)) (a_byte c x) (escaped_goes_on (escape x)) tt)

bare_begins : (e x z : List ℕ) (k : Next) → GoesOn (next up_to_white x) →
    IsSpelled up_to_white e x z → next up_to_white z ≡ k → (GoesOn k → ⊥) → 0 < length e
bare_begins [] x z k h spelled is stops =
    absurd (stops (subst GoesOn (ap (next up_to_white) spelled ∙ is) h))
bare_begins (c ∷ e) x z k h spelled is stops = omega arith

bare_reads : (x e z : List ℕ) (k : Next) → ends_element x ≡ false → next up_to_white z ≡ k →
    NoByte k → IsSpelled up_to_white e x z → length e + length z ≤ length x →
    Reads (length x) (bare x)
bare_reads x e z at_end starts is b spelled within =
    let some = bare_begins e x z at_end (bare_goes_on x starts) spelled is (λ h. h) in (
      Ok (e, z),
      (e, z, spelled, subst (λ k. BareEnds e z k (Ok (e, z))) (sym is) (some, refl)),
      omega arith,
    )
bare_reads x e z (a_stop y) starts is b spelled within =
    let some = bare_begins e x z (a_stop y) (bare_goes_on x starts) spelled is (λ h. h) in (
      Ok (e, z),
      (e, z, spelled, subst (λ k. BareEnds e z k (Ok (e, z))) (sym is) (some, refl)),
      omega arith,
    )
bare_reads x e z (a_byte c y) starts is b spelled within = absurd b
bare_reads x e z no_escape starts is b spelled within = (
  Err escape_not_here,
  (
    e,
    z,
    spelled,
    subst (λ k. BareEnds e z k (Err escape_not_here)) (sym is)
        refl,
  ),
  tt,
)

abbrev pub IsBehind : ℕ → Opening → Type 0
IsBehind n (in_braces x) = length x < n
IsBehind n (in_quotes x) = length x < n
IsBehind n (bare x) = Unit {0}

opening_behind : (x : List ℕ) → IsBehind (length x) (opening x)
opening_behind [] = tt
opening_behind (c ∷ x) =
    let n = length (c ∷ x) in
    let one : length x < length (c ∷ x) = omega arith in
    let other : Opening = cond (c == 34) (in_quotes x) (bare (c ∷ x)) in
    choice (IsBehind n) (c == 123) (in_braces x) other one
    (choice (IsBehind n) (c == 34) (in_quotes x) (bare (c ∷ x)) one tt)

abbrev pub IsBareOf : List ℕ → Opening → Type 0
IsBareOf x (in_braces y) = Unit {0}
IsBareOf x (in_quotes y) = Unit {0}
IsBareOf x (bare y) = y ≡ x

opening_bare : (x : List ℕ) → IsBareOf x (opening x)
opening_bare [] = refl
opening_bare (c ∷ x) =
    let P = IsBareOf (c ∷ x) in
    let other : Opening = cond (c == 34) (in_quotes x) (bare (c ∷ x)) in
    choice P (c == 123) (in_braces x) other tt
    (choice P (c == 34) (in_quotes x) (bare (c ∷ x)) tt refl)

opened_reads : (x : List ℕ) (o : Opening) → IsBehind (length x) o → IsBareOf x o → ends_element x
    ≡ false → Reads (length x) o
opened_reads x (in_braces y) h same starts = braced_reads (length x) y (pairing 0 false y) refl h
opened_reads x (in_quotes y) h same starts =
    let s = spells_within (length y) up_to_quote y (omega arith) in
    let shorter : length s.0 + length s.1 ≤ length y = s.4 in
    quoted_reads (length x) y s.0 s.1 (next up_to_quote s.1) refl (next_fewer up_to_quote s.1) s.3
    s.2 (omega arith)
opened_reads x (bare y) h same starts =
    let s = spells_within (length y) up_to_white y (omega arith) in
    subst (λ w. Reads (length w) (bare y)) same
    (bare_reads y s.0 s.1 (next up_to_white s.1)
    (subst (λ w. ends_element w ≡ false) (sym same) starts) refl s.3 s.2 s.4)

skip_white_within : (x : List ℕ) → length (skip_white x) ≤ length x
skip_white_within [] = omega arith
skip_white_within (c ∷ x) = let so = skip_white_within x in
    choice (λ (y : List ℕ). length y ≤ length (c ∷ x)) _ (skip_white x) (c ∷ x) (omega arith)
    (omega arith)

begins_at : (c : ℕ) (x : List ℕ) (b : Bool) → is_white c ≡ b →
    (skip_white x ≡ []) ⊎ (ends_element (skip_white x) ≡ false)
    → (cond b (skip_white x) (c ∷ x) ≡ []) ⊎ (ends_element (cond b (skip_white x) (c ∷ x)) ≡ false)
begins_at c x true e h = h
begins_at c x false e h = inr e

skip_begins : (x : List ℕ) → (skip_white x ≡ []) ⊎ (ends_element (skip_white x) ≡ false)
skip_begins [] = inl refl
skip_begins (c ∷ x) = begins_at c x (is_white c) refl (skip_begins x)

abbrev pub IsRead : List ℕ → Type 0
IsRead x = (v : List (List ℕ)) × (o : Option Flaw) × IsElements v o x

read_next : (n : ℕ) (x : List ℕ) (r : Outcome) → IsElement (skip_white x) r →
    Shorter (length (skip_white x)) r → length x ≤ suc n → ((y : List ℕ) → length y ≤ n → IsRead y)
    → IsRead x
read_next n x (Err f) is h within so = ([], Some f, is)
read_next n x (Ok p) is h within so =
    let fewer = skip_white_within x in
    let rest = so p.1 (omega arith) in
    (p.0 ∷ rest.0, rest.1, (p.1, is, rest.2))

read_within : (n : ℕ) (x : List ℕ) → length x ≤ n → IsRead x
read_within zero [] h = ([], None, refl)
read_within zero (c ∷ x) h = absurd (omega arith)
read_within (suc n) x h = elim (skip_begins x) [
  | inl none ↦ ([], None, none)
  | inr starts ↦
      let y = skip_white x in
      let read = opened_reads y (opening y) (opening_behind y) (opening_bare y) starts in
      read_next n x read.0 read.1 read.2 h (λ z k. read_within n z k)
]

either : (x : List ℕ) (v : List (List ℕ)) (o : Option Flaw) → IsElements v o x →
    ((v : List (List ℕ)) × IsList v x) ⊎ ((f : Flaw) × HasFlaw f x)
either x v None h = inl (v, h)
either x v (Some f) h = inr (f, (v, h))

pub list_or_flaw : (x : List ℕ) → ((v : List (List ℕ)) × IsList v x) ⊎ ((f : Flaw) × HasFlaw f x)
list_or_flaw x = let read = read_within (length x) x (omega arith) in either x read.0 read.1 read.2
