-- What stands between words and between commands is skipped whole.
use Rattle.std.proofs.Common.{◌≡◌, ℕ, ◌==◌, ◌||◌, List, [], ◌∷◌, Bool, true, false, if◌then◌else◌, refl, sym, subst}
use Rattle.tclparse.specs.Context.{Context, ends_script, ends_command, ends_word, is_white, is_separator, is_closing, is_continuation}
use Rattle.tclparse.specs.Gap.{Gap, skip_white, skip_gap, between, comment, in_pair, after_comment_byte}

pub or_false : (s e : Bool) → (s || (e || false)) ≡ s || e
or_false true e = refl
or_false false true = refl
or_false false false = refl

-- a gap is skipped whole
pub white_if : (b e : Bool) (context : Context) (c : ℕ) (x : List ℕ) → is_white context c ≡ b →
    is_continuation c x ≡ e
    → ends_word context (skip_white context false x)
    ≡ ends_command context (skip_white context false x)
    → ends_word context (skip_white context true x)
    ≡ ends_command context (skip_white context true x)
    → ends_word context (if b then skip_white context false x else
    (if e then skip_white context true x else (c ∷ x)))
    ≡ ends_command context (if b then skip_white context false x else
    (if e then skip_white context true x else (c ∷ x)))
white_if true e context c x hb he h k = h
white_if false true context c x hb he h k = k
white_if false false context c x hb he h k =
    subst (λ b. (b || (is_separator context c || (is_closing context c || is_continuation c x)))
    ≡ is_separator context c || is_closing context c) (sym hb)
    (subst (λ b. (is_separator context c || (is_closing context c || b))
    ≡ is_separator context c || is_closing context c) (sym he)
    (or_false (is_separator context c) (is_closing context c)))

pub white_begins : (context : Context) (hidden : Bool) (x : List ℕ) →
    ends_word context (skip_white context hidden x)
    ≡ ends_command context (skip_white context hidden x)
white_begins context hidden [] = refl
white_begins context true (c ∷ x) = white_begins context false x
white_begins context false (c ∷ x) = white_if (is_white context c) (is_continuation c x) context c x
    refl refl (white_begins context false x) (white_begins context true x)

pub closing_only : (w s e n : Bool) → (w || s) ≡ false → n ≡ false → (w || (s || (e || n))) ≡ e
closing_only true s e n h k = absurd (cc)
closing_only false true e n h k = absurd (cc)
closing_only false false true n h k = refl
closing_only false false false n h k = k

pub gap_if : (b n e : Bool) (context : Context) (c : ℕ) (x : List ℕ) →
    is_white context c || is_separator context c ≡ b → is_continuation c x ≡ e
    → ends_word context (skip_gap context between x)
    ≡ ends_script context (skip_gap context between x)
    → ends_word context (skip_gap context comment x)
    ≡ ends_script context (skip_gap context comment x)
    → ends_word context (if b then skip_gap context between x else
    (if n then skip_gap context comment x else
    (if e then skip_gap context between x else (c ∷ x))))
    ≡ ends_script context (if b then skip_gap context between x else
    (if n then skip_gap context comment x else
    (if e then skip_gap context between x else (c ∷ x))))
gap_if true n e context c x hb he h k = h
gap_if false true e context c x hb he h k = k
gap_if false false true context c x hb he h k = h
gap_if false false false context c x hb he h k =
    closing_only (is_white context c) (is_separator context c) (is_closing context c)
    (is_continuation c x) hb he

pub gap_begins : (context : Context) (gap : Gap) (x : List ℕ) →
    ends_word context (skip_gap context gap x) ≡ ends_script context (skip_gap context gap x)
gap_begins context gap [] = refl
gap_begins context in_pair (c ∷ x) = gap_begins context comment x
gap_begins context comment (c ∷ x) = gap_begins context (after_comment_byte c) x
gap_begins context between (c ∷ x) = gap_if (is_white context c || is_separator context c) (c == 35)
    (is_continuation c x) context c x refl refl (gap_begins context between x)
    (gap_begins context comment x)

-- where no word ends, no command does
pub white_true : (w : Bool) → (w || true) ≡ false → ⊥
white_true true h = cc
white_true false h = cc

pub word_only : (w s e n : Bool) → (w || (s || (e || n))) ≡ false → (s || e) ≡ false
word_only w true e n h = absurd (white_true w h)
word_only w false true n h = absurd (white_true w h)
word_only w false false n h = refl

pub command_goes_on : (context : Context) (x : List ℕ) → ends_word context x ≡ false →
    ends_command context x ≡ false
command_goes_on context [] h = absurd (cc)
command_goes_on context (c ∷ x) h = word_only (is_white context c) (is_separator context c)
    (is_closing context c) (is_continuation c x) h
