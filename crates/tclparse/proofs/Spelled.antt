-- What is read of a text is a piece of it.
use Rattle.std.proofs.Common.{◌≡◌, ℕ, ◌+◌, ◌-◌, ◌*◌, ◌==◌, nat_le, nat_lt, ◌&&◌, ◌||◌, List, [], ◌∷◌, ◌++◌, Bool, true, false, Option, Some, None, Result, Ok, Err, if◌then◌else◌, refl, sym, ap, ◌∙◌, append_assoc}
use Rattle.tcltext.specs.Digit.{digit_value, is_digit}
use Rattle.tcltext.specs.Escape.{escape, byte_number, hexadecimal_byte}
use Rattle.tcltext.specs.Escape as of_escape
use Rattle.tcltext.specs.declared.escape.EscapeNotHere.{EscapeNotHere}
use Rattle.tclparse.specs.Variable.{name_at, after_name, is_name, until, from, begins_with_colons, named}
use Rattle.tclparse.specs.Piece.{Place, in_word, within_quotes, within_index, Next, end, fault, a_byte, a_name, an_index, an_element, a_bracket, ends_parts, escape_piece, next_escape, next_bracket, next_index, next_variable, next_named, next_brace, next_plain, next_dollar, next_part, next}
use Rattle.tclparse.specs.Spelled.{Joins, Behind}

pub joins_self : (x : List ℕ) → Joins x x
joins_self x = ([], refl)

pub joins_more : (c : ℕ) (x z : List ℕ) → Joins x z → Joins (c ∷ x) z
joins_more c x z h = (c ∷ h.0, ap (λ l. c ∷ l) h.1)

pub joins_trans : (x y z : List ℕ) → Joins x y → Joins y z → Joins x z
joins_trans x y z h k = (h.0 ++ k.0, h.1 ∙ ap (λ l. h.0 ++ l) k.1 ∙ sym (append_assoc h.0 k.0 z))

-- a text that ends with two texts ends with whichever of them a test chooses
pub joins_if : (b : Bool) (x y z : List ℕ) → Joins x y → Joins x z → Joins x (if b then y else z)
joins_if true x y z h k = h
joins_if false x y z h k = k

pub blanks_joins : (x : List ℕ) → Joins x (of_escape.skip_blanks x)
blanks_joins [] = joins_self []
blanks_joins (c ∷ x) = joins_if (of_escape.is_blank c) (c ∷ x) (of_escape.skip_blanks x) (c ∷ x)
    (joins_more c x (of_escape.skip_blanks x) (blanks_joins x)) (joins_self (c ∷ x))

number_if : (b : Bool) (x : List ℕ) (p q : ℕ × List ℕ) → Joins x p.1 → Joins x q.1 →
    Joins x (if b then p else q).1
number_if true x p q h k = h
number_if false x p q h k = k

number_joins : (x : List ℕ) (base most n : ℕ) → Joins x (byte_number base most n x).1
number_joins [] base most n = joins_self []
number_joins (c ∷ x) base most n =
    let m = base * n + digit_value c in
    number_if (nat_lt 0 most && (is_digit base c && nat_le m 255)) (c ∷ x)
    (byte_number base (most - 1) m x) (n, c ∷ x)
    (joins_more c x (byte_number base (most - 1) m x).1 (number_joins x base (most - 1) m))
    (joins_self (c ∷ x))

hexadecimal_joins : (x : List ℕ) → Joins x (hexadecimal_byte x).1
hexadecimal_joins [] = joins_self []
hexadecimal_joins (c ∷ x) = number_if (is_digit 16 c) (c ∷ x) (byte_number 16 2 0 (c ∷ x)) (
  120,
  c
      ∷ x,
) (number_joins (c ∷ x) 16 2 0) (joins_self (c ∷ x))

behind_if : (b : Bool) (m n : Next) (x : List ℕ) → Behind m x → Behind n x →
    Behind (if b then m else n) x
behind_if true m n x h k = h
behind_if false m n x h k = k

pub behind_trans : (m : Next) (x y : List ℕ) → Joins x y → Behind m y → Behind m x
behind_trans end x y h k = tt
behind_trans (fault f) x y h k = tt
behind_trans (a_byte b z) x y h k = joins_trans x y z h k
behind_trans (a_name n z) x y h k = joins_trans x y z h k
behind_trans (an_index n z) x y h k = joins_trans x y z h k
behind_trans (an_element n i z) x y h k = joins_trans x y z h k
behind_trans (a_bracket z) x y h k = joins_trans x y z h k

escape_if : (b : Bool) (x : List ℕ) (p q : Result (ℕ × List ℕ) EscapeNotHere) →
    Behind (escape_piece p) x → Behind (escape_piece q) x →
    Behind (escape_piece (if b then p else q)) x
escape_if true x p q h k = h
escape_if false x p q h k = k

escape_behind : (x : List ℕ) → Behind (next_escape x) x
escape_behind [] = joins_self []
escape_behind (c ∷ x) =
    let numbered = Ok (byte_number 8 3 0 (c ∷ x)) in
    let named = Ok (of_escape.named_byte c, x) in
    let whole = c ∷ x in
    escape_if (c == 10) whole (Ok (32, of_escape.skip_blanks x)) _
    (joins_more c x (of_escape.skip_blanks x) (blanks_joins x))
    (escape_if (c == 120) whole (Ok (hexadecimal_byte x)) _
    (joins_more c x (hexadecimal_byte x).1 (hexadecimal_joins x))
    (escape_if ((c == 117) || (c == 85)) whole (Err (record {})) _ tt
    (escape_if (is_digit 8 c) whole numbered named (number_joins whole 8 3 0)
    (joins_more c x x (joins_self x)))))

name_joins : (x : List ℕ) → Joins x (after_name x)
name_joins [] = joins_self []
name_joins (c ∷ x) = joins_if (is_name c) (c ∷ x) (after_name x) (c ∷ x)
    (joins_more c x (after_name x) (name_joins x)) (joins_self (c ∷ x))

from_joins : (b : ℕ) (x : List ℕ) → Joins x (from b x)
from_joins b [] = joins_self []
from_joins b (c ∷ x) = joins_if (c == b) (c ∷ x) (c ∷ x) (from b x) (joins_self (c ∷ x))
    (joins_more c x (from b x) (from_joins b x))

index_behind : (d : ℕ) (n z : List ℕ) → Behind (next_index d n z) z
index_behind d n [] = joins_self []
index_behind d n (c ∷ z) =
    behind_if (c == 40) _ (a_name n (c ∷ z)) (c ∷ z)
    (behind_if (d == 0) _ (an_index n z) (c ∷ z) tt (joins_more c z z (joins_self z)))
    (joins_self (c ∷ z))

variable_behind : (n : List ℕ) (i : Option (List ℕ)) (z : List ℕ) → Behind (next_variable n i z) z
variable_behind n None z = joins_self z
variable_behind n (Some i) z = joins_self z

named_behind : (v : Option (List ℕ × Option (List ℕ))) (z : List ℕ) → Behind (next_named v z) z
named_behind None z = tt
named_behind (Some v) z = variable_behind v.0 v.1 z

brace_behind : (n z : List ℕ) → Behind (next_brace n z) z
brace_behind n [] = tt
brace_behind n (c ∷ z) = behind_trans (next_named (named n) z) (c ∷ z) z
    (joins_more c z z (joins_self z)) (named_behind (named n) z)

plain_behind : (d : ℕ) (n x z : List ℕ) → Joins x z → Behind (next_plain d n x z) x
plain_behind d [] x z h = behind_if (begins_with_colons x) _ (a_byte 36 x) x tt (joins_self x)
plain_behind d (c ∷ n) x z h =
    behind_if (begins_with_colons z) _ (next_index d (c ∷ n) z) x tt
    (behind_trans (next_index d (c ∷ n) z) x z h (index_behind d (c ∷ n) z))

dollar_behind : (d : ℕ) (x : List ℕ) → Behind (next_dollar d x) x
dollar_behind d [] = joins_self []
dollar_behind d (c ∷ x) =
    behind_if (c == 123) (next_brace (until 125 x) (from 125 x)) _ (c ∷ x)
    (behind_trans (next_brace (until 125 x) (from 125 x)) (c ∷ x) (from 125 x)
    (joins_more c x (from 125 x) (from_joins 125 x)) (brace_behind (until 125 x) (from 125 x)))
    (behind_if (c == 40) _ (next_plain d (name_at (c ∷ x)) (c ∷ x) (after_name (c ∷ x))) (c ∷ x) tt
    (plain_behind d (name_at (c ∷ x)) (c ∷ x) (after_name (c ∷ x)) (name_joins (c ∷ x))))

pub part_behind : (d c : ℕ) (x : List ℕ) → Behind (next_part d (c ∷ x)) x
part_behind d c x =
    behind_if (c == 92) (next_escape x) _ x (escape_behind x)
    (behind_if (c == 36) (next_dollar d x) _ x (dollar_behind d x)
    (behind_if (c == 91) (next_bracket d x) (a_byte c x) x
    (behind_if (d == 0) _ (a_bracket x) x tt (joins_self x)) (joins_self x)))

-- a piece of a word takes at least one byte
pub next_behind : (place : Place) (d c : ℕ) (x : List ℕ) → Behind (next place d (c ∷ x)) x
next_behind place d c x = behind_if (ends_parts place (c ∷ x)) end (next_part d (c ∷ x)) x tt
    (part_behind d c x)

pub nothing_next : (place : Place) (d : ℕ) → next place d [] ≡ end
nothing_next (in_word context) d = refl
nothing_next within_quotes d = refl
nothing_next within_index d = refl
