-- The next piece of a word: it takes something of the text, and opens no more than may be open.
use Rattle.std.proofs.Common.{◌≡◌, ℕ, zero, suc, ◌<◌, ◌≤◌, ◌==◌, List, [], ◌∷◌, length, Bool, true, false, Option, Some, None, Result, Ok, Err, if◌then◌else◌, sym, ap, subst, arith, length-append}
use Rattle.tclparse.specs.Fault.{Fault}
use Rattle.tclparse.specs.Context.{Context, ends_word}
use Rattle.tclparse.specs.Variable.{name_at, after_name, until, from, begins_with_colons, named}
use Rattle.tclparse.specs.Piece.{Place, in_word, Next, end, fault, a_byte, a_name, an_index, an_element, a_bracket, ends_parts, next_escape, escape_piece, next_bracket, next_index, next_variable, next_named, next_brace, next_plain, next_dollar, next_part, next}
use Rattle.tclparse.specs.Spelled.{Joins, Behind}
use Rattle.tcltext.specs.Escape.{escape}
use Rattle.tcltext.specs.declared.escape.EscapeNotHere.{EscapeNotHere}
use Rattle.tclparse.proofs.Spelled.{next_behind, nothing_next}

pub joins_length : (x z : List ℕ) → Joins x z → length z ≤ length x
joins_length x z h = let e = ap length h.1 in omega (arith, e, length-append h.0 z)

-- a piece leaves a shorter text
abbrev pub Shorter : Next → List ℕ → Type 0
Shorter end x = Unit {0}
Shorter (fault f) x = Unit {0}
Shorter (a_byte b z) x = length z < length x
Shorter (a_name n z) x = length z < length x
Shorter (an_index n z) x = length z < length x
Shorter (an_element n i z) x = length z < length x
Shorter (a_bracket z) x = length z < length x

pub behind_shorter : (m : Next) (c : ℕ) (x : List ℕ) → Behind m x → Shorter m (c ∷ x)
behind_shorter end c x h = tt
behind_shorter (fault f) c x h = tt
behind_shorter (a_byte b z) c x h = omega (arith, joins_length x z h)
behind_shorter (a_name n z) c x h = omega (arith, joins_length x z h)
behind_shorter (an_index n z) c x h = omega (arith, joins_length x z h)
behind_shorter (an_element n i z) c x h = omega (arith, joins_length x z h)
behind_shorter (a_bracket z) c x h = omega (arith, joins_length x z h)

pub piece_shorter : (place : Place) (d : ℕ) (x : List ℕ) → Shorter (next place d x) x
piece_shorter place d [] = subst (λ m. Shorter m []) (sym (nothing_next place d)) tt
piece_shorter place d (c ∷ x) = behind_shorter (next place d (c ∷ x)) c x (next_behind place d c x)

-- a bracket or an index opens only where one more may
abbrev pub Within : Next → ℕ → Type 0
Within end d = Unit {0}
Within (fault f) d = Unit {0}
Within (a_byte b z) d = Unit {0}
Within (a_name n z) d = Unit {0}
Within (an_index n z) d = 0 < d
Within (an_element n i z) d = Unit {0}
Within (a_bracket z) d = 0 < d

pub within_if : (b : Bool) (m n : Next) (d : ℕ) → Within m d → Within n d →
    Within (if b then m else n) d
within_if true m n d h k = h
within_if false m n d h k = k

pub bracket_within : (d : ℕ) (x : List ℕ) → Within (next_bracket d x) d
bracket_within zero x = tt
bracket_within (suc d) x = within_if (suc d == 0) _ (a_bracket x) (suc d) tt (omega arith)

pub opened_within : (d : ℕ) (n z : List ℕ) (f : Fault) →
    Within (if d == 0 then fault f else an_index n z) d
opened_within zero n z f = tt
opened_within (suc d) n z f = within_if (suc d == 0) (fault f) (an_index n z) (suc d) tt
    (omega arith)

pub index_within : (d : ℕ) (n z : List ℕ) → Within (next_index d n z) d
index_within d n [] = tt
index_within d n (c ∷ z) = within_if (c == 40) _ (a_name n (c ∷ z)) d (opened_within d n z _) tt

pub escape_within : (r : Result (ℕ × List ℕ) EscapeNotHere) (d : ℕ) → Within (escape_piece r) d
escape_within (Ok r) d = tt
escape_within (Err e) d = tt

pub variable_within : (n : List ℕ) (i : Option (List ℕ)) (z : List ℕ) (d : ℕ) →
    Within (next_variable n i z) d
variable_within n None z d = tt
variable_within n (Some i) z d = tt

pub named_within : (v : Option (List ℕ × Option (List ℕ))) (z : List ℕ) (d : ℕ) →
    Within (next_named v z) d
named_within None z d = tt
named_within (Some v) z d = variable_within v.0 v.1 z d

pub brace_within : (n z : List ℕ) (d : ℕ) → Within (next_brace n z) d
brace_within n [] d = tt
brace_within n (c ∷ z) d = named_within (named n) z d

pub plain_within : (d : ℕ) (n x z : List ℕ) → Within (next_plain d n x z) d
plain_within d [] x z = within_if (begins_with_colons x) _ (a_byte 36 x) d tt tt
plain_within d (c ∷ n) x z = within_if (begins_with_colons z) _ (next_index d (c ∷ n) z) d tt
    (index_within d (c ∷ n) z)

pub dollar_within : (d : ℕ) (x : List ℕ) → Within (next_dollar d x) d
dollar_within d [] = tt
dollar_within d (c ∷ x) =
    within_if (c == 123) (next_brace (until 125 x) (from 125 x)) _ d
    (brace_within (until 125 x) (from 125 x) d)
    (within_if (c == 40) _ (next_plain d (name_at (c ∷ x)) (c ∷ x) (after_name (c ∷ x))) d tt
    (plain_within d (name_at (c ∷ x)) (c ∷ x) (after_name (c ∷ x))))

pub part_within : (d : ℕ) (x : List ℕ) → Within (next_part d x) d
part_within d [] = tt
part_within d (c ∷ x) =
    within_if (c == 92) (next_escape x) _ d (escape_within (escape x) d)
    (within_if (c == 36) (next_dollar d x) _ d (dollar_within d x)
    (within_if (c == 91) (next_bracket d x) (a_byte c x) d (bracket_within d x) tt))

pub piece_within : (place : Place) (d : ℕ) (x : List ℕ) → Within (next place d x) d
piece_within place d x = within_if (ends_parts place x) end (next_part d x) d tt (part_within d x)

-- a piece that is not the end of its place
abbrev pub IsPiece : Next → Type 0
IsPiece end = ⊥
IsPiece (fault f) = Unit {0}
IsPiece (a_byte b z) = Unit {0}
IsPiece (a_name n z) = Unit {0}
IsPiece (an_index n z) = Unit {0}
IsPiece (an_element n i z) = Unit {0}
IsPiece (a_bracket z) = Unit {0}

pub piece_if : (b : Bool) (m n : Next) → IsPiece m → IsPiece n → IsPiece (if b then m else n)
piece_if true m n h k = h
piece_if false m n h k = k

pub escape_piece_is : (r : Result (ℕ × List ℕ) EscapeNotHere) → IsPiece (escape_piece r)
escape_piece_is (Ok r) = tt
escape_piece_is (Err e) = tt

pub index_is_piece : (d : ℕ) (n z : List ℕ) → IsPiece (next_index d n z)
index_is_piece d n [] = tt
index_is_piece d n (c ∷ z) = piece_if (c == 40) _ (a_name n (c ∷ z))
    (piece_if (d == 0) _ (an_index n z) tt tt) tt

pub variable_is_piece : (n : List ℕ) (i : Option (List ℕ)) (z : List ℕ) →
    IsPiece (next_variable n i z)
variable_is_piece n None z = tt
variable_is_piece n (Some i) z = tt

pub named_is_piece : (v : Option (List ℕ × Option (List ℕ))) (z : List ℕ) → IsPiece (next_named v z)
named_is_piece None z = tt
named_is_piece (Some v) z = variable_is_piece v.0 v.1 z

pub brace_is_piece : (n z : List ℕ) → IsPiece (next_brace n z)
brace_is_piece n [] = tt
brace_is_piece n (c ∷ z) = named_is_piece (named n) z

pub plain_is_piece : (d : ℕ) (n x z : List ℕ) → IsPiece (next_plain d n x z)
plain_is_piece d [] x z = piece_if (begins_with_colons x) _ (a_byte 36 x) tt tt
plain_is_piece d (c ∷ n) x z = piece_if (begins_with_colons z) _ (next_index d (c ∷ n) z) tt
    (index_is_piece d (c ∷ n) z)

pub dollar_is_piece : (d : ℕ) (x : List ℕ) → IsPiece (next_dollar d x)
dollar_is_piece d [] = tt
dollar_is_piece d (c ∷ x) =
    piece_if (c == 123) (next_brace (until 125 x) (from 125 x)) _
    (brace_is_piece (until 125 x) (from 125 x))
    (piece_if (c == 40) _ (next_plain d (name_at (c ∷ x)) (c ∷ x) (after_name (c ∷ x))) tt
    (plain_is_piece d (name_at (c ∷ x)) (c ∷ x) (after_name (c ∷ x))))

pub part_is_piece : (d c : ℕ) (x : List ℕ) → IsPiece (next_part d (c ∷ x))
part_is_piece d c x =
    piece_if (c == 92) (next_escape x) _ (escape_piece_is (escape x))
    (piece_if (c == 36) (next_dollar d x) _ (dollar_is_piece d x)
    (piece_if (c == 91) (next_bracket d x) (a_byte c x) (piece_if (d == 0) _ (a_bracket x) tt tt)
    tt))

pub bare_is_piece : (context : Context) (d : ℕ) (x : List ℕ) → ends_word context x ≡ false →
    IsPiece (next (in_word context) d x)
bare_is_piece context d [] h = absurd (cc)
bare_is_piece context d (c ∷ x) h = subst (λ b. IsPiece (if b then end else next_part d (c ∷ x)))
    (sym h) (part_is_piece d c x)
