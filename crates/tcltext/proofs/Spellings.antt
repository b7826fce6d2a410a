-- A text is a list exactly where it consists of spellings of the elements with white space between
-- them.
use Rattle.std.proofs.Common.{◌≡◌, ℕ, ◌+◌, ◌-◌, ◌*◌, ◌<◌, ◌==◌, ◌||◌, List, [], ◌∷◌, ◌++◌, ◌↔◌, inl, inr, length, Bool, true, false, not, cond, Result, Ok, Err, refl, sym, ap, subst, ◌∙◌, append_assoc, arith}
use Rattle.std.proofs.lemmas.Bool.{eqb-true}
use Rattle.tcltext.specs.declared.escape.EscapeNotHere.{EscapeNotHere}
use Rattle.tcltext.specs.Flaw.{Flaw, open_brace, open_quote, after_brace, after_quote, escape_not_here}
use Rattle.tcltext.specs.Style.{Style, up_to_white, up_to_quote, stops}
use Rattle.tcltext.specs.Digit.{digit_value, is_digit}
use Rattle.tcltext.specs.Escape.{is_blank, skip_blanks, byte_number, hexadecimal_byte, named_byte, escape}
use Rattle.tcltext.specs.White.{is_white, skip_white, ends_element}
use Rattle.tcltext.specs.Balanced.{IsBalanced}
use Rattle.tcltext.specs.Elements.{Next, at_end, a_stop, a_byte, no_escape, escaped, next, IsSpelled, closed, IsBraced, QuotedEnds, BareEnds, Opening, in_braces, in_quotes, bare, opening, IsOpened, IsElement, IsList}
use Rattle.tcltext.specs.Spellings.{ArePieces, begins_bare, IsSpelling, AreSpellings}
use Rattle.tcltext.proofs.Choices.{choice, and_true, not_true}
use Rattle.tcltext.proofs.Numerals.{skip_splits, skip_over}
use Rattle.tcltext.proofs.Unique.{Same, flaw_apart, same_element}

-- y is the end of x
abbrev pub EndsIn : List ℕ → List ℕ → Type 0
EndsIn x y = (p : List ℕ) × (x ≡ p ++ y)

longer : (c : ℕ) (x y : List ℕ) → EndsIn x y → EndsIn (c ∷ x) y
longer c x y h = (c ∷ h.0, ap (λ z. c ∷ z) h.1)

blanks_end : (x : List ℕ) → EndsIn x (skip_blanks x)
blanks_end [] = ([], refl)
blanks_end (c ∷ x) = choice (EndsIn (c ∷ x)) (is_blank c) (skip_blanks x) (c ∷ x)
    (longer c x (skip_blanks x) (blanks_end x)) ([], refl)

-- the text after a number is the end of it
abbrev NumberEnds : List ℕ → ℕ × List ℕ → Type 0
NumberEnds x r = EndsIn x r.1

number_ends : (x : List ℕ) (base most n : ℕ) → NumberEnds x (byte_number base most n x)
number_ends [] base most n = ([], refl)
number_ends (c ∷ x) base most n =
    let more = byte_number base (most - 1) (base * n + digit_value c) x in
    choice (NumberEnds (c ∷ x)) _ more (n, c ∷ x)
    (longer c x more.1 (number_ends x base (most - 1) (base * n + digit_value c))) ([], refl)

hexadecimal_ends : (x : List ℕ) → NumberEnds x (hexadecimal_byte x)
hexadecimal_ends [] = ([], refl)
hexadecimal_ends (c ∷ x) = choice (NumberEnds (c ∷ x)) (is_digit 16 c) (byte_number 16 2 0 (c ∷ x))
    (120, c ∷ x) (number_ends (c ∷ x) 16 2 0) ([], refl)

abbrev Escaped : Type 0
Escaped = Result (ℕ × List ℕ) EscapeNotHere

abbrev EscapeEnds : List ℕ → Escaped → Type 0
EscapeEnds x (Ok r) = EndsIn x r.1
EscapeEnds x (Err e) = Unit {0}

escape_ends : (x : List ℕ) → EscapeEnds x (escape x)
escape_ends [] = ([], refl)
escape_ends (c ∷ x) =
    let P = EscapeEnds (c ∷ x) in
    let number : Escaped = Ok (byte_number 8 3 0 (c ∷ x)) in
    let named : Escaped = Ok (named_byte c, x) in
    let digits : Escaped = cond (is_digit 8 c) number named in
    let left_out : Escaped = cond ((c == 117) || (c == 85)) (Err (record {})) digits in
    let hexadecimal : Escaped = cond (c == 120) (Ok (hexadecimal_byte x)) left_out in
    choice P (c == 10) (Ok (32, skip_blanks x)) hexadecimal
    (longer c x (skip_blanks x) (blanks_end x))
    (choice P (c == 120) (Ok (hexadecimal_byte x)) left_out
    (longer c x (hexadecimal_byte x).1 (hexadecimal_ends x))
    (choice P ((c == 117) || (c == 85)) (Err (record {})) digits tt
    (choice P (is_digit 8 c) number named (number_ends (c ∷ x) 8 3 0) (c ∷ [], refl))))

-- what follows the next byte is the end of the text
abbrev NextEnds : List ℕ → Next → Type 0
NextEnds x at_end = Unit {0}
NextEnds x (a_stop y) = Unit {0}
NextEnds x (a_byte b y) = EndsIn x y
NextEnds x no_escape = Unit {0}

escaped_ends : (x : List ℕ) (r : Escaped) → EscapeEnds x r → NextEnds (92 ∷ x) (escaped r)
escaped_ends x (Ok r) h = longer 92 x r.1 h
escaped_ends x (Err e) h = tt

next_ends_at : (c : ℕ) (x : List ℕ) (b : Bool) → (c == 92) ≡ b →
    NextEnds (c ∷ x) (cond b (escaped (escape x)) (a_byte c x))
next_ends_at c x true h = subst (λ d. NextEnds (d ∷ x) (escaped (escape x))) (sym (eqb-true c 92 h))
    (escaped_ends x (escape x) (escape_ends x))
next_ends_at c x false h = (c ∷ [], refl)

next_ends : (s : Style) (x : List ℕ) → NextEnds x (next s x)
next_ends s [] = tt
next_ends s (c ∷ x) = choice (NextEnds (c ∷ x)) (stops s c) (a_stop x)
    (cond (c == 92) (escaped (escape x)) (a_byte c x)) tt (next_ends_at c x (c == 92) refl)

byte_ends : (s : Style) (x : List ℕ) (b : ℕ) (y : List ℕ) → next s x ≡ a_byte b y → EndsIn x y
byte_ends s x b y h = subst (NextEnds x) h (next_ends s x)

spelled_pieces : (e : List ℕ) (s : Style) (x z : List ℕ) → IsSpelled s e x z → (t : List ℕ)
    × (x ≡ t ++ z) × ArePieces s e t z
spelled_pieces [] s x z h = ([], h, refl)
spelled_pieces (b ∷ e) s x z h =
    let rest = spelled_pieces e s h.0 z h.2 in
    let p = byte_ends s x b h.0 h.1 in
    let whole : x ≡ p.0 ++ (rest.0 ++ z) = p.1 ∙ ap (λ y. p.0 ++ y) rest.1 in (
      p.0 ++ rest.0,
      whole ∙ sym (append_assoc p.0 rest.0 z),
      (p.0, rest.0, refl, ap (next s) (sym whole) ∙ h.1 ∙ ap (a_byte b) rest.1, rest.2),
    )

pieces_spelled : (e : List ℕ) (s : Style) (t z : List ℕ) → ArePieces s e t z →
    IsSpelled s e (t ++ z) z
pieces_spelled [] s t z h = ap (λ y. y ++ z) h
pieces_spelled (b ∷ e) s t z h =
    let at : t ++ z ≡ h.0 ++ (h.1 ++ z) = ap (λ y. y ++ z) h.2 ∙ append_assoc h.0 h.1 z in
    (h.1 ++ z, ap (next s) at ∙ h.3, pieces_spelled e s h.1 z h.4)

-- the opening is that of y, and its text is what follows
abbrev Opens : List ℕ → Opening → Type 0
Opens y (in_braces x) = y ≡ 123 ∷ x
Opens y (in_quotes x) = y ≡ 34 ∷ x
Opens y (bare x) = (x ≡ y) × (begins_bare y ≡ true)

opens_at : (c : ℕ) (x : List ℕ) (a b : Bool) → (c == 123) ≡ a → (c == 34) ≡ b →
    Opens (c ∷ x) (cond a (in_braces x) (cond b (in_quotes x) (bare (c ∷ x))))
opens_at c x true b h k = ap (λ d. d ∷ x) (eqb-true c 123 h)
opens_at c x false true h k = ap (λ d. d ∷ x) (eqb-true c 34 k)
opens_at c x false false h k = (refl, rw (h, k) refl)

opens : (y : List ℕ) → Opens y (opening y)
opens [] = (refl, refl)
opens (c ∷ x) = opens_at c x (c == 123) (c == 34) refl refl

closed_at : (f : Flaw) (e z d y : List ℕ) (b : Bool) → ends_element y ≡ b →
    Same (Ok (e, z)) (cond b (Ok (d, y)) (Err f)) → (e ≡ d) × (z ≡ y) × (ends_element y ≡ true)
closed_at f e z d y true h k = let same = same_element (e, z) (d, y) k in (same.0, same.1, h)
closed_at f e z d y false h k = absurd (flaw_apart f (e, z) (sym k))

closed_ok : (f : Flaw) (e z d y : List ℕ) → Same (Ok (e, z)) (closed f d y) → (e ≡ d) × (z ≡ y)
    × (ends_element y ≡ true)
closed_ok f e z d y h = closed_at f e z d y (ends_element y) refl h

-- y is a spelling of the element e, and then z
abbrev Spelt : List ℕ → List ℕ → List ℕ → Type 0
Spelt e y z = (t : List ℕ) × (y ≡ t ++ z) × IsSpelling e t z × (ends_element z ≡ true)

braced_spelt : (e z x : List ℕ) → IsBraced x (Ok (e, z)) → Spelt e (123 ∷ x) z
braced_spelt e z x (inr h) = absurd (flaw_apart open_brace (e, z) (sym h.1))
braced_spelt e z x (inl h) =
    let ok = closed_ok after_brace e z h.0 h.1 h.3 in
    let at : x ≡ (e ++ 125 ∷ []) ++ z = h.2.0 ∙ ap (λ d. d ++ 125 ∷ h.1) (sym ok.0)
    ∙ ap (λ y. e ++ 125 ∷ y) (sym ok.1) ∙ sym (append_assoc e (125 ∷ []) z) in (
      123 ∷ (e ++ 125 ∷ []),
      ap (λ y. 123 ∷ y) at,
      inl (refl, subst IsBalanced (sym ok.0) h.2.1),
      ap ends_element ok.1 ∙ ok.2,
    )

-- a quote ends an element in quotes
abbrev Quotes : List ℕ → Next → Type 0
Quotes z at_end = Unit {0}
Quotes z (a_stop y) = z ≡ 34 ∷ y
Quotes z (a_byte b y) = Unit {0}
Quotes z no_escape = Unit {0}

escaped_quotes : (z : List ℕ) (r : Escaped) → Quotes z (escaped r)
escaped_quotes z (Ok r) = tt
escaped_quotes z (Err e) = tt

quotes_at : (c : ℕ) (x : List ℕ) (b : Bool) → (c == 34) ≡ b →
    Quotes (c ∷ x) (cond b (a_stop x) (cond (c == 92) (escaped (escape x)) (a_byte c x)))
quotes_at c x true h = ap (λ d. d ∷ x) (eqb-true c 34 h)
quotes_at c x false h = choice (Quotes (c ∷ x)) (c == 92) (escaped (escape x)) (a_byte c x)
    (escaped_quotes (c ∷ x) (escape x)) tt

quotes : (z : List ℕ) → Quotes z (next up_to_quote z)
quotes [] = tt
quotes (c ∷ x) = quotes_at c x (c == 34) refl

quoted_spelt : (e z x d y : List ℕ) (n : Next) → next up_to_quote y ≡ n → Quotes y n →
    IsSpelled up_to_quote d x y → QuotedEnds d n (Ok (e, z)) → Spelt e (34 ∷ x) z
quoted_spelt e z x d y at_end is quote spelled h = absurd (flaw_apart open_quote (e, z) (sym h))
quoted_spelt e z x d y (a_byte b u) is quote spelled h = absurd h
quoted_spelt e z x d y no_escape is quote spelled h =
    absurd (flaw_apart escape_not_here (e, z) (sym h))
quoted_spelt e z x d y (a_stop u) is quote spelled h =
    let ok = closed_ok after_quote e z d u h in
    let end : y ≡ 34 ∷ z = quote ∙ ap (λ v. 34 ∷ v) (sym ok.1) in
    let t = spelled_pieces e up_to_quote x (34 ∷ z)
    (subst (λ v. IsSpelled up_to_quote e x v) end
    (subst (λ v. IsSpelled up_to_quote v x y) (sym ok.0) spelled)) in
    let at : x ≡ (t.0 ++ 34 ∷ []) ++ z = t.1 ∙ sym (append_assoc t.0 (34 ∷ []) z) in (
      34 ∷ (t.0 ++ 34 ∷ []),
      ap (λ v. 34 ∷ v) at,
      inr (inl (t.0, refl, t.2)),
      ap ends_element ok.1
          ∙ ok.2,
    )

-- white or the text's end ends a bare element
abbrev Ends : List ℕ → Next → Type 0
Ends z at_end = ends_element z ≡ true
Ends z (a_stop y) = ends_element z ≡ true
Ends z (a_byte b y) = ends_element z ≡ false
Ends z no_escape = Unit {0}

escaped_black : (z : List ℕ) (r : Escaped) → ends_element z ≡ false → Ends z (escaped r)
escaped_black z (Ok r) h = h
escaped_black z (Err e) h = tt

ends_at : (c : ℕ) (x : List ℕ) (b : Bool) → is_white c ≡ b →
    Ends (c ∷ x) (cond b (a_stop x) (cond (c == 92) (escaped (escape x)) (a_byte c x)))
ends_at c x true h = h
ends_at c x false h = choice (Ends (c ∷ x)) (c == 92) (escaped (escape x)) (a_byte c x)
    (escaped_black (c ∷ x) (escape x) h) h

ends : (z : List ℕ) → Ends z (next up_to_white z)
ends [] = refl
ends (c ∷ x) = ends_at c x (is_white c) refl

begins_front : (t z : List ℕ) → begins_bare (t ++ z) ≡ true → begins_bare t ≡ true
begins_front [] z h = refl
begins_front (c ∷ t) z h = h

bare_same : (e z x d y : List ℕ) → 0 < length d → Same (Ok (e, z)) (Ok (d, y)) → ends_element y
    ≡ true → begins_bare x ≡ true → IsSpelled up_to_white d x y → Spelt e x z
bare_same e z x d y some h end begins spelled =
    let same = same_element (e, z) (d, y) h in
    let t = spelled_pieces e up_to_white x z (subst (λ v. IsSpelled up_to_white e x v) (sym same.1)
    (subst (λ v. IsSpelled up_to_white v x y) (sym same.0) spelled)) in
    let more : 0 < length e = subst (λ v. 0 < length v) (sym same.0) some in (
      t.0,
      t.1,
      inr (inr (begins_front t.0 z (ap begins_bare (sym t.1) ∙ begins), more, t.2)),
      ap ends_element same.1 ∙ end,
    )

bare_spelt : (e z x d y : List ℕ) (n : Next) → next up_to_white y ≡ n → Ends y n → begins_bare x
    ≡ true → IsSpelled up_to_white d x y → BareEnds d y n (Ok (e, z)) → Spelt e x z
bare_spelt e z x d y at_end is end begins spelled h = bare_same e z x d y h.0 h.1 end begins spelled
bare_spelt e z x d y (a_stop u) is end begins spelled h =
    bare_same e z x d y h.0 h.1 end begins spelled
bare_spelt e z x d y (a_byte b u) is end begins spelled h = absurd h
bare_spelt e z x d y no_escape is end begins spelled h =
    absurd (flaw_apart escape_not_here (e, z) (sym h))

element_spelt : (e z y : List ℕ) (o : Opening) → Opens y o → IsOpened o (Ok (e, z)) → Spelt e y z
element_spelt e z y (in_braces x) at h = subst (λ v. Spelt e v z) (sym at) (braced_spelt e z x h)
element_spelt e z y (in_quotes x) at h =
    subst (λ v. Spelt e v z) (sym at) (quoted_spelt e z x h.0 h.1 (next up_to_quote h.1) refl
    (quotes h.1) h.2 h.3)
element_spelt e z y (bare x) at h =
    subst (λ v. Spelt e v z) at.0 (bare_spelt e z x h.0 h.1 (next up_to_white h.1) refl (ends h.1)
    (ap begins_bare at.0 ∙ at.1) h.2 h.3)

spelt_list : (v : List (List ℕ)) (x : List ℕ) → IsList v x → AreSpellings v x
spelt_list [] x h = h
spelt_list (e ∷ v) x h =
    let y = skip_white x in
    let w = skip_splits x in
    let t = element_spelt e h.0 y (opening y) (opens y) h.1 in
    (w.0, t.0, h.0, w.1 ∙ ap (λ u. w.0 ++ u) t.1, w.2, t.2, t.3, spelt_list v h.0 h.2)

-- Spellings read as their elements.
abbrev Reads : List ℕ → List ℕ → List ℕ → Type 0
Reads e y z = (ends_element y ≡ false) × IsElement y (Ok (e, z))

braced_reads : (e z : List ℕ) → IsBalanced e → ends_element z ≡ true →
    Reads e ((123 ∷ (e ++ 125 ∷ [])) ++ z) z
braced_reads e z b end = (refl, inl (e, z, (append_assoc e (125 ∷ []) z, b), rw end refl))

quoted_reads : (e q z : List ℕ) → ArePieces up_to_quote e q (34 ∷ z) → ends_element z ≡ true →
    Reads e ((34 ∷ (q ++ 34 ∷ [])) ++ z) z
quoted_reads e q z pieces end =
    let spelled : IsSpelled up_to_quote e ((q ++ 34 ∷ []) ++ z) (34 ∷ z) =
    subst (λ y. IsSpelled up_to_quote e y (34 ∷ z)) (sym (append_assoc q (34 ∷ []) z))
    (pieces_spelled e up_to_quote q (34 ∷ z) pieces) in
    (refl, (e, 34 ∷ z, spelled, rw end refl))

-- the first piece of a bare element is no white
bare_black : (y : List ℕ) (b : ℕ) (u : List ℕ) (n : Next) → next up_to_white y ≡ n → Ends y n → n
    ≡ a_byte b u → ends_element y ≡ false
bare_black y b u n is end at = subst (Ends y) at end

opened_bare : (c : ℕ) (x : List ℕ) → begins_bare (c ∷ x) ≡ true → opening (c ∷ x) ≡ bare (c ∷ x)
opened_bare c x h =
    let p = and_true (not (c == 123)) (not (c == 34)) h in
    let a = not_true (c == 123) p.0 in
    let b = not_true (c == 34) p.1 in
    rw (a, b) refl

-- after an element white follows, or nothing
pub bare_ends : (e z : List ℕ) → ends_element z ≡ true → 0 < length e →
    BareEnds e z (next up_to_white z) (Ok (e, z))
bare_ends e [] h some = (some, refl)
bare_ends e (c ∷ z) h some = rw h (some, refl)

bare_reads : (e t z : List ℕ) → begins_bare t ≡ true → 0 < length e → ArePieces up_to_white e t z →
    ends_element z ≡ true → Reads e (t ++ z) z
bare_reads [] t z begins some pieces end = absurd (omega arith)
bare_reads (b ∷ e) [] z begins some pieces end =
    let spelled = pieces_spelled (b ∷ e) up_to_white [] z pieces in
    let black : ends_element z ≡ false =
    bare_black z b spelled.0 (next up_to_white z) refl (ends z) spelled.1 in
    absurd (cc)
bare_reads (b ∷ e) (c ∷ t) z begins some pieces end =
    let spelled = pieces_spelled (b ∷ e) up_to_white (c ∷ t) z pieces in
    let y = c ∷ (t ++ z) in (
      bare_black y b spelled.0 (next up_to_white y) refl (ends y) spelled.1,
      subst (λ o. IsOpened o (Ok (b ∷ e, z))) (sym (opened_bare c (t ++ z) begins)) (
        b ∷ e,
        z,
        spelled,
        bare_ends (b ∷ e) z end some,
      ),
    )

spelling_reads : (e t z : List ℕ) → IsSpelling e t z → ends_element z ≡ true → Reads e (t ++ z) z
spelling_reads e t z (inl h) end = subst (λ u. Reads e (u ++ z) z) (sym h.0)
    (braced_reads e z h.1 end)
spelling_reads e t z (inr (inl h)) end =
    subst (λ u. Reads e (u ++ z) z) (sym h.1) (quoted_reads e h.0 z h.2 end)
spelling_reads e t z (inr (inr h)) end = bare_reads e t z h.0 h.1 h.2 end

list_spelt : (v : List (List ℕ)) (x : List ℕ) → AreSpellings v x → IsList v x
list_spelt [] x h = h
list_spelt (e ∷ v) x h =
    let y = h.1 ++ h.2 in
    let read = spelling_reads e h.1 h.2 h.5 h.6 in
    let at : skip_white x ≡ y = ap skip_white h.3 ∙ skip_over h.0 y h.4 read.0 in
    (h.2, subst (λ u. IsElement u (Ok (e, h.2))) (sym at) read.1, list_spelt v h.2 h.7)

pub list_is_spellings : (x : List ℕ) (v : List (List ℕ)) → IsList v x ↔ AreSpellings v x
list_is_spellings x v = (spelt_list v x, list_spelt v x)
