-- What the next bytes of a formula are.
use Rattle.std.specs.Prelude.{ℕ, ◌+◌, ◌==◌, nat_le, ◌&&◌, ◌||◌, List, [], ◌∷◌, codes, drop, take, Bool, false, Option, Some, None, if◌then◌else◌}
use Rattle.std.specs.Str.{bytes_eq}
use Rattle.tcltext.specs.White.{skip_white}
use Rattle.tcltext.specs.Digit.{is_digit}
use Rattle.tclparse.specs.declared.operator.Unary.{Unary}
use Rattle.tclparse.specs.declared.operator.Unary.TheVariants.{Negate, Plus, Complement, Not}
use Rattle.tclparse.specs.declared.operator.Binary.TheVariants.{Multiply, Divide, Remainder, Add, Subtract, ShiftLeft, ShiftRight, Less, Greater, LessEqual, GreaterEqual, Equal, NotEqual, TextEqual, TextNotEqual, In, NotIn, And, Xor, Or}
use Rattle.tclparse.specs.declared.operator.Infix.{Infix}
use Rattle.tclparse.specs.declared.operator.Infix.TheVariants.{Both, AndAlso, OrElse}
use Rattle.tclparse.specs.declared.operator.Function.{Function}
use Rattle.tclparse.specs.declared.operator.Function.TheVariants.{Abs, Min, Max}
use Rattle.tclparse.specs.Fault.{too_deep}
use Rattle.tclparse.specs.FormulaFault.{FormulaFault, of_words, syntax}
use Rattle.tclparse.specs.Context.{begins_with}
use Rattle.tclparse.specs.Variable.{name_at, after_name}

-- A leaf of a formula, with the text after it: no leaf but a fault; a numeral or a truth word as it
-- is written; what a quote or an open brace before the text begins; a substitution that the text
-- begins with (expr(n), operands).
pub data Leaf : Type 0 where
  no_leaf : FormulaFault → Leaf
  a_numeral : List ℕ → List ℕ → Leaf
  a_word : List ℕ → List ℕ → Leaf
  in_quotes : List ℕ → Leaf
  in_braces : List ℕ → Leaf
  a_substitution : List ℕ → Leaf

-- How an operand begins, with the text after that (expr(n), operands).
pub data Opening : Type 0 where
  a_leaf : Leaf → Opening
  a_prefix : Unary → List ℕ → Opening
  a_parenthesis : List ℕ → Opening
  a_call : Function → List ℕ → Opening

-- What stands after an operand, with the text after that: the end of the formula, a fault, an
-- operator, a choice (expr(n), operators).
pub data Following : Type 0 where
  end : List ℕ → Following
  fault : FormulaFault → Following
  an_infix : Infix → List ℕ → Following
  a_choice : List ℕ → Following

-- an ASCII letter (expr(n), operands)
abbrev pub is_letter : ℕ → Bool
is_letter c = (nat_le 97 c && nat_le c 122) || (nat_le 65 c && nat_le c 90)

-- how many digits of a base stand at the front (expr(n), operands)
abbrev pub digit_count : ℕ → List ℕ → ℕ
digit_count base [] = 0
digit_count base (c ∷ x) = if is_digit base c then 1 + digit_count base x else 0

-- a decimal digit stands at the front
abbrev pub is_numeric : List ℕ → Bool
is_numeric [] = false
is_numeric (c ∷ x) = is_digit 10 c

-- 0, this mark and a digit of this base (expr(n), operands)
abbrev pub begins_marked : ℕ → ℕ → List ℕ → Bool
begins_marked mark base [] = false
begins_marked mark base (z ∷ []) = false
begins_marked mark base (z ∷ m ∷ []) = false
begins_marked mark base (z ∷ m ∷ c ∷ x) = (z == 48) && ((m == mark) && is_digit base c)

-- the length of the longest numeral at the front: after 0x, 0o or 0b hexadecimal, octal or binary
-- digits, after another 0 octal ones, else decimal ones (expr(n), operands)
abbrev pub numeral_length : List ℕ → ℕ
numeral_length x =
    if begins_marked 120 16 x then 2 + digit_count 16 (drop 2 x) else
    (if begins_marked 111 8 x then 2 + digit_count 8 (drop 2 x) else
    (if begins_marked 98 2 x then 2 + digit_count 2 (drop 2 x) else
    (if begins_with 48 x then digit_count 8 x else digit_count 10 x)))

-- - + ~ ! (expr(n), operators)
abbrev pub unary : ℕ → Option Unary
unary c =
    if c == 45 then Some Negate else (if c == 43 then Some Plus else
    (if c == 126 then Some Complement else (if c == 33 then Some Not else None)))

-- true false yes no on off (expr(n), operands)
abbrev pub is_truth_word : List ℕ → Bool
is_truth_word w =
    bytes_eq w (codes "true") || (bytes_eq w (codes "false") || (bytes_eq w (codes "yes")
    || (bytes_eq w (codes "no") || (bytes_eq w (codes "on") || bytes_eq w (codes "off")))))

-- abs min max (mathfunc(n))
abbrev pub function : List ℕ → Option Function
function w =
    if bytes_eq w (codes "abs") then Some Abs else (if bytes_eq w (codes "min") then Some Min else
    (if bytes_eq w (codes "max") then Some Max else None))

-- prefixes, parentheses, calls and choices open only where d, the number that may still be opened,
-- is not 0 (this project's own rule)
abbrev pub opens : ℕ → Opening → Opening
opens d o = if d == 0 then a_leaf (no_leaf (of_words too_deep)) else o

-- after a function's name its parenthesis opens (mathfunc(n))
abbrev pub call_opening : ℕ → Function → List ℕ → Opening
call_opening d g [] = a_leaf (no_leaf syntax)
call_opening d g (c ∷ x) = if c == 40 then opens d (a_call g x) else a_leaf (no_leaf syntax)

-- a word that is no truth word names a function
abbrev pub name_opening : ℕ → Option Function → List ℕ → Opening
name_opening d None z = a_leaf (no_leaf syntax)
name_opening d (Some g) z = call_opening d g (skip_white z)

-- a word w, taken whole, with the text z after it (expr(n), operands)
abbrev pub word_opening : ℕ → List ℕ → List ℕ → Opening
word_opening d w z = if is_truth_word w then a_leaf (a_word w z) else name_opening d (function w) z

-- a prefix that stands before x, or else what the text t begins with
abbrev pub prefix_opening : ℕ → Option Unary → List ℕ → List ℕ → Opening
prefix_opening d (Some u) x t = opens d (a_prefix u x)
prefix_opening d None x t = word_opening d (name_at t) (after_name t)

-- the numeral at the front of a text
abbrev pub numeral_leaf : List ℕ → Leaf
numeral_leaf x = a_numeral (take (numeral_length x) x) (drop (numeral_length x) x)

-- how an operand without white space before it begins, where d more may be open (expr(n), operands)
abbrev pub opening_at : ℕ → List ℕ → Opening
opening_at d [] = a_leaf (no_leaf syntax)
opening_at d (c ∷ x) =
    if c == 34 then a_leaf (in_quotes x) else (if c == 123 then a_leaf (in_braces x) else
    (if (c == 36) || (c == 91) then a_leaf (a_substitution (c ∷ x)) else
    (if c == 40 then opens d (a_parenthesis x) else
    (if is_numeric (c ∷ x) then a_leaf (numeral_leaf (c ∷ x)) else
    prefix_opening d (unary c) x (c ∷ x)))))

-- white space may stand before each operand and each operator (expr(n))
abbrev pub opening : ℕ → List ℕ → Opening
opening d x = opening_at d (skip_white x)

-- operators of two bytes (expr(n), operators)
abbrev pub pair : ℕ → ℕ → Option Infix
pair c b =
    if c == 60 then (if b == 60 then Some (Both ShiftLeft) else
    (if b == 61 then Some (Both LessEqual) else None)) else
    (if c == 62 then (if b == 62 then Some (Both ShiftRight) else
    (if b == 61 then Some (Both GreaterEqual) else None)) else
    (if c == 61 then (if b == 61 then Some (Both Equal) else None) else
    (if c == 33 then (if b == 61 then Some (Both NotEqual) else None) else
    (if c == 38 then (if b == 38 then Some AndAlso else None) else
    (if c == 124 then (if b == 124 then Some OrElse else None) else None)))))

-- operators that are words (expr(n), operators)
abbrev pub word_pair : ℕ → ℕ → Option Infix
word_pair c b =
    if c == 101 then (if b == 113 then Some (Both TextEqual) else None) else
    (if c == 110 then (if b == 101 then Some (Both TextNotEqual) else
    (if b == 105 then Some (Both NotIn) else None)) else
    (if c == 105 then (if b == 110 then Some (Both In) else None) else None))

-- operators of one byte (expr(n), operators)
abbrev pub single : ℕ → Option Infix
single c =
    if c == 42 then Some (Both Multiply) else (if c == 47 then Some (Both Divide) else
    (if c == 37 then Some (Both Remainder) else (if c == 43 then Some (Both Add) else
    (if c == 45 then Some (Both Subtract) else (if c == 60 then Some (Both Less) else
    (if c == 62 then Some (Both Greater) else (if c == 38 then Some (Both And) else
    (if c == 94 then Some (Both Xor) else (if c == 124 then Some (Both Or) else None)))))))))

-- a text begins with a letter
abbrev pub begins_letter : List ℕ → Bool
begins_letter [] = false
begins_letter (c ∷ x) = is_letter c

-- the operator of two bytes at the front; one that is a word counts only where no letter follows
abbrev pub long : List ℕ → Option Infix
long [] = None
long (c ∷ []) = None
long (c ∷ b ∷ x) =
    if is_letter c then (if begins_letter x then None else word_pair c b) else pair c b

-- a question mark opens a choice
abbrev pub choice_following : ℕ → List ℕ → Following
choice_following d [] = end []
choice_following d (c ∷ x) =
    if c == 63 then (if d == 0 then fault (of_words too_deep) else a_choice x) else end (c ∷ x)

-- the operator of one byte at the front
abbrev pub short : List ℕ → Option Infix
short [] = None
short (c ∷ x) = single c

-- an operator of one byte at the front of a text, or else a choice or the end
abbrev pub short_following : ℕ → Option Infix → List ℕ → Following
short_following d (Some i) x = an_infix i (drop 1 x)
short_following d None x = choice_following d x

-- an operator of two bytes at the front of a text, or else an operator of one byte, a choice or the
-- end
abbrev pub long_following : ℕ → Option Infix → List ℕ → Following
long_following d (Some i) x = an_infix i (drop 2 x)
long_following d None x = short_following d (short x) x

-- what stands after an operand, where d more may be open (expr(n), operators)
abbrev pub following : ℕ → List ℕ → Following
following d x = long_following d (long (skip_white x)) (skip_white x)
