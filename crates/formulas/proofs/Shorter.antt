-- What begins an operand, and what stands after one, takes something of the text, and opens no
-- more than may be open.
use Rattle.std.proofs.Common.{◌≡◌, ℕ, zero, suc, ◌+◌, ◌<◌, ◌≤◌, ◌==◌, ◌||◌, List, [], ◌∷◌, length, drop, Bool, true, false, Option, Some, None, if◌then◌else◌, refl, arith}
use Rattle.std.proofs.lemmas.List.{length-drop}
use Rattle.tcltext.specs.Digit.{is_digit}
use Rattle.tcltext.specs.White.{is_white, skip_white}
use Rattle.tclparse.specs.declared.operator.Unary.{Unary}
use Rattle.tclparse.specs.declared.operator.Infix.{Infix}
use Rattle.tclparse.specs.declared.operator.Function.{Function}
use Rattle.tclparse.specs.Variable.{is_name, name_at, after_name}
use Rattle.tclparse.specs.FormulaPiece.{Leaf, no_leaf, a_numeral, a_word, in_quotes, in_braces, a_substitution, Opening, a_leaf, a_prefix, a_parenthesis, a_call, Following, end, fault, an_infix, a_choice, is_numeric, digit_count, begins_marked, numeral_length, numeral_leaf, unary, is_truth_word, function, opens, call_opening, name_opening, word_opening, prefix_opening, opening_at, opening, long, short, choice_following, short_following, long_following, following}

positive_if : (b : Bool) (m n : ℕ) → (b ≡ true → 0 < m) → (b ≡ false → 0 < n) →
    0 < (if b then m else n)
positive_if true m n h k = h refl
positive_if false m n h k = k refl

some_digits : (base c : ℕ) (x : List ℕ) → is_digit base c ≡ true → 0 < digit_count base (c ∷ x)
some_digits base c x h = rw h (omega arith)

zero_is_octal : (c : ℕ) → (c == 48) ≡ true → is_digit 8 c ≡ true
zero_is_octal c h = let is : c ≡ 48 = grind (h, arith) in rw is refl

-- a numeral has a byte
pub some_numeral : (x : List ℕ) → is_numeric x ≡ true → 0 < numeral_length x
some_numeral [] h = absurd (cc)
some_numeral (c ∷ x) h =
    let y = c ∷ x in
    positive_if (begins_marked 120 16 y) (2 + digit_count 16 (drop 2 y)) _ (λ _. omega arith)
    (λ _. positive_if (begins_marked 111 8 y) (2 + digit_count 8 (drop 2 y)) _ (λ _. omega arith)
    (λ _. positive_if (begins_marked 98 2 y) (2 + digit_count 2 (drop 2 y)) _ (λ _. omega arith)
    (λ _. positive_if (c == 48) (digit_count 8 y) (digit_count 10 y)
    (λ e. some_digits 8 c x (zero_is_octal c e)) (λ _. some_digits 10 c x h))))

pub numeral_less : (x : List ℕ) → is_numeric x ≡ true →
    length (drop (numeral_length x) x) < length x
numeral_less [] h = absurd (cc)
numeral_less (c ∷ x) h =
    let some = some_numeral (c ∷ x) h in
    let left = length-drop (numeral_length (c ∷ x)) (c ∷ x) in omega (arith, some, left)

name_if : (b : Bool) (c : ℕ) (x n z : List ℕ) → length n + length z ≡ length x
    → length (if b then c ∷ n else []) + length (if b then z else (c ∷ x)) ≡ length (c ∷ x)
name_if true c x n z h = omega (arith, h)
name_if false c x n z h = omega arith

pub name_length : (x : List ℕ) → length (name_at x) + length (after_name x) ≡ length x
name_length [] = refl
name_length (c ∷ x) = name_if (is_name c) c x (name_at x) (after_name x) (name_length x)

white_if : (b : Bool) (c : ℕ) (x z : List ℕ) → length z ≤ length x →
    length (if b then z else (c ∷ x)) ≤ length (c ∷ x)
white_if true c x z h = omega (arith, h)
white_if false c x z h = omega arith

pub white_length : (x : List ℕ) → length (skip_white x) ≤ length x
white_length [] = omega arith
white_length (c ∷ x) = white_if (is_white c) c x (skip_white x) (white_length x)

-- the text after a leaf has fewer than n bytes, that of a substitution at most n
abbrev pub LeafLess : Leaf → ℕ → Type 0
LeafLess (no_leaf e) n = Unit {0}
LeafLess (a_numeral s z) n = length z < n
LeafLess (a_word s z) n = length z < n
LeafLess (in_quotes z) n = length z < n
LeafLess (in_braces z) n = length z < n
LeafLess (a_substitution z) n = length z ≤ n

abbrev pub OpeningLess : Opening → ℕ → ℕ → Type 0
OpeningLess (a_leaf l) d n = LeafLess l n
OpeningLess (a_prefix u z) d n = (0 < d) × (length z < n)
OpeningLess (a_parenthesis z) d n = (0 < d) × (length z < n)
OpeningLess (a_call g z) d n = (0 < d) × (length z < n)

abbrev pub FollowingLess : Following → ℕ → ℕ → Type 0
FollowingLess (end z) d n = length z ≤ n
FollowingLess (fault e) d n = Unit {0}
FollowingLess (an_infix i z) d n = length z < n
FollowingLess (a_choice z) d n = (0 < d) × (length z < n)

leaf_more : (l : Leaf) (m n : ℕ) → m ≤ n → LeafLess l m → LeafLess l n
leaf_more (no_leaf e) m n h k = tt
leaf_more (a_numeral s z) m n h k = omega (arith, h, k)
leaf_more (a_word s z) m n h k = omega (arith, h, k)
leaf_more (in_quotes z) m n h k = omega (arith, h, k)
leaf_more (in_braces z) m n h k = omega (arith, h, k)
leaf_more (a_substitution z) m n h k = omega (arith, h, k)

opening_more : (o : Opening) (d m n : ℕ) → m ≤ n → OpeningLess o d m → OpeningLess o d n
opening_more (a_leaf l) d m n h k = leaf_more l m n h k
opening_more (a_prefix u z) d m n h k = (k.0, omega (arith, h, k.1))
opening_more (a_parenthesis z) d m n h k = (k.0, omega (arith, h, k.1))
opening_more (a_call g z) d m n h k = (k.0, omega (arith, h, k.1))

following_more : (f : Following) (d m n : ℕ) → m ≤ n → FollowingLess f d m → FollowingLess f d n
following_more (end z) d m n h k = omega (arith, h, k)
following_more (fault e) d m n h k = tt
following_more (an_infix i z) d m n h k = omega (arith, h, k)
following_more (a_choice z) d m n h k = (k.0, omega (arith, h, k.1))

opening_if : (b : Bool) (o p : Opening) (d n : ℕ) → (b ≡ true → OpeningLess o d n) →
    (b ≡ false → OpeningLess p d n) → OpeningLess (if b then o else p) d n
opening_if true o p d n h k = h refl
opening_if false o p d n h k = k refl

following_if : (b : Bool) (o p : Following) (d n : ℕ) → (b ≡ true → FollowingLess o d n) →
    (b ≡ false → FollowingLess p d n) → FollowingLess (if b then o else p) d n
following_if true o p d n h k = h refl
following_if false o p d n h k = k refl

opens_less : (d n : ℕ) (o : Opening) → (0 < d → OpeningLess o d n) → OpeningLess (opens d o) d n
opens_less zero n o h = tt
opens_less (suc d) n o h = opening_if (suc d == 0) _ o (suc d) n (λ _. tt) (λ _. h (omega arith))

call_less : (d n : ℕ) (g : Function) (x : List ℕ) → length x ≤ n →
    OpeningLess (call_opening d g x) d n
call_less d n g [] h = tt
call_less d n g (c ∷ x) h = opening_if (c == 40) _ _ d n
    (λ _. opens_less d n (a_call g x) (λ p. (p, omega (arith, h)))) (λ _. tt)

name_less : (d n : ℕ) (g : Option Function) (z : List ℕ) → length z ≤ n →
    OpeningLess (name_opening d g z) d n
name_less d n None z h = tt
name_less d n (Some g) z h = call_less d n g (skip_white z) (omega (arith, h, white_length z))

word_less : (d n : ℕ) (w z : List ℕ) → length w + length z ≤ n →
    OpeningLess (word_opening d w z) d n
word_less d n [] z h = tt
word_less d n (c ∷ w) z h =
    opening_if (is_truth_word (c ∷ w)) _ _ d n (λ _. omega (arith, h))
    (λ _. name_less d n (function (c ∷ w)) z (omega (arith, h)))

prefix_less : (d n : ℕ) (u : Option Unary) (x t : List ℕ) → length x < n → length t ≤ n →
    OpeningLess (prefix_opening d u x t) d n
prefix_less d n (Some u) x t h k = opens_less d n (a_prefix u x) (λ p. (p, h))
prefix_less d n None x t h k = word_less d n (name_at t) (after_name t)
    (omega (arith, k, name_length t))

at_less : (d : ℕ) (x : List ℕ) → OpeningLess (opening_at d x) d (length x)
at_less d [] = tt
at_less d (c ∷ x) =
    let n = length (c ∷ x) in
    opening_if (c == 34) _ _ d n (λ _. omega arith)
    (λ _. opening_if (c == 123) _ _ d n (λ _. omega arith)
    (λ _. opening_if ((c == 36) || (c == 91)) _ _ d n (λ _. omega arith)
    (λ _. opening_if (c == 40) _ _ d n (λ _. opens_less d n (a_parenthesis x)
    (λ p. (p, omega arith)))
    (λ _. opening_if (is_numeric (c ∷ x)) (a_leaf (numeral_leaf (c ∷ x))) _ d n
    (λ h. numeral_less (c ∷ x) h)
    (λ _. prefix_less d n (unary c) x (c ∷ x) (omega arith) (omega arith))))))

pub opening_less : (d : ℕ) (x : List ℕ) → OpeningLess (opening d x) d (length x)
opening_less d x = opening_more (opening_at d (skip_white x)) d (length (skip_white x)) (length x)
    (white_length x) (at_less d (skip_white x))

choice_less : (d : ℕ) (x : List ℕ) → FollowingLess (choice_following d x) d (length x)
choice_less d [] = omega arith
choice_less zero (c ∷ x) = following_if (c == 63) _ _ zero (length (c ∷ x)) (λ _. tt)
    (λ _. omega arith)
choice_less (suc d) (c ∷ x) =
    following_if (c == 63) _ _ (suc d) (length (c ∷ x))
    (λ _. following_if (suc d == 0) _ _ (suc d) (length (c ∷ x)) (λ _. tt)
    (λ _. (omega arith, omega arith))) (λ _. omega arith)

short_less : (d : ℕ) (i : Option Infix) (x : List ℕ) → short x ≡ i →
    FollowingLess (short_following d i x) d (length x)
short_less d None x h = choice_less d x
short_less d (Some i) [] h = absurd (cc)
short_less d (Some i) (c ∷ x) h = let left = length-drop 1 (c ∷ x) in omega (arith, left)

long_less : (d : ℕ) (i : Option Infix) (x : List ℕ) → long x ≡ i →
    FollowingLess (long_following d i x) d (length x)
long_less d None x h = short_less d (short x) x refl
long_less d (Some i) [] h = absurd (cc)
long_less d (Some i) (c ∷ []) h = absurd (cc)
long_less d (Some i) (c ∷ b ∷ x) h = let left = length-drop 2 (c ∷ b ∷ x) in omega (arith, left)

pub following_less : (d : ℕ) (x : List ℕ) → FollowingLess (following d x) d (length x)
following_less d x =
    following_more (long_following d (long (skip_white x)) (skip_white x)) d (length (skip_white x))
    (length x) (white_length x)
    (long_less d (long (skip_white x)) (skip_white x) refl)
