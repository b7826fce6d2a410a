-- Each piece of a word is spelled by the bytes that it takes.
use Rattle.std.proofs.Common.{◌≡◌, ℕ, zero, suc, ◌-◌, ◌==◌, ◌&&◌, ◌||◌, List, [], ◌∷◌, ◌++◌, length, take, Bool, true, false, Option, Some, None, option_map, slice_get, Result, Ok, Err, if◌then◌else◌, refl, sym, ap, subst, inl, inr, ◌∙◌, append_assoc, arith}
use Rattle.tcltext.specs.Escape.{escape}
use Rattle.tcltext.specs.declared.escape.EscapeNotHere.{EscapeNotHere}
use Rattle.tcltext.proofs.Pairing.{same_pair}
use Rattle.tclparse.specs.Tree.{no_parts, bytes_then}
use Rattle.tclparse.specs.Context.{is_white, is_separator, is_closing, is_continuation}
use Rattle.tclparse.specs.Variable.{name_at, after_name, is_name, until, from, begins_with_colons, holds_colons, is_byte, ends_with, index_of, element_of, element_named, named_as}
use Rattle.tclparse.specs.Piece.{Place, in_word, within_quotes, within_index, Next, end, fault, a_byte, a_name, an_index, an_element, a_bracket, ends_parts, escape_piece, next_bracket, next_index, next_named, next_brace, next_plain, next_dollar, next_part, next_escape, next}
use Rattle.tclparse.specs.Spelled.{Behind}
use Rattle.tclparse.specs.Spelling.{Begins, SpellsByte, IsName, SpellsVariable, SpellsWhole}
use Rattle.tclparse.proofs.Spelled.{next_behind}
use Rattle.tclparse.proofs.Spelling.{if_known, equal_if}

-- what each piece says of the text that it stands at the front of
abbrev pub IsSpelled : Place → Next → List ℕ → Type 0
IsSpelled place end x = ends_parts place x ≡ true
IsSpelled place (fault f) x = Unit {0}
IsSpelled place (a_byte b z) x = Begins (λ t. SpellsByte place b t) x z
IsSpelled place (a_name n z) x = Begins (λ t. SpellsVariable n t) x z
IsSpelled place (an_index n z) x = IsName n × (x ≡ 36 ∷ (n ++ 40 ∷ z))
IsSpelled place (an_element n i z) x = Begins (λ t. SpellsWhole n (bytes_then i no_parts) t) x z
IsSpelled place (a_bracket z) x = x ≡ 91 ∷ z

escape_spelled : (place : Place) (x : List ℕ) (r : Result (ℕ × List ℕ) EscapeNotHere) → escape x ≡ r
    → Behind (escape_piece r) x → IsSpelled place (escape_piece r) (92 ∷ x)
escape_spelled place x (Ok p) e h = (
  92 ∷ h.0,
  ap (λ l. 92 ∷ l) h.1,
  inr (h.0, p.1, refl, ap escape (sym h.1) ∙ e),
)
escape_spelled place x (Err f) e h = tt

-- a byte that does not end a place does not end it as the last byte of the text either
one_ends : (w s e n m : Bool) → m ≡ false → (w || (s || (e || n))) ≡ false → (w || (s || (e || m)))
    ≡ false
one_ends true s e n m h k = k
one_ends false true e n m h k = k
one_ends false false true n m h k = k
one_ends false false false n m h k = h

no_backslash : (b : Bool) → b ≡ false → (b && false) ≡ false
no_backslash true h = absurd (cc)
no_backslash false h = refl

ends_one : (place : Place) (c : ℕ) (x : List ℕ) → (c == 92) ≡ false → ends_parts place (c ∷ x)
    ≡ false → ends_parts place (c ∷ []) ≡ false
ends_one (in_word context) c x n h = one_ends (is_white context c) (is_separator context c)
    (is_closing context c) (is_continuation c x) (is_continuation c []) (no_backslash (c == 92) n) h
ends_one within_quotes c x n h = h
ends_one within_index c x n h = h

neither : (a b : Bool) → a ≡ false → b ≡ false → (a || b) ≡ false
neither true b h k = h
neither false b h k = k

byte_spelled : (place : Place) (c : ℕ) (x : List ℕ) → (c == 92) ≡ false → (c == 91) ≡ false →
    ends_parts place (c ∷ x) ≡ false → IsSpelled place (a_byte c x) (c ∷ x)
byte_spelled place c x n m h =
    (c ∷ [], refl, inl (refl, ends_one place c x n h, neither (c == 92) (c == 91) n m))

-- a name, and what follows it
name_if : (b : Bool) (c : ℕ) (x m y : List ℕ) → x ≡ m ++ y → c ∷ x ≡ (if b then c ∷ m else [])
    ++ (if b then y else (c ∷ x))
name_if true c x m y h = ap (λ l. c ∷ l) h
name_if false c x m y h = refl

name_joined : (x : List ℕ) → x ≡ name_at x ++ after_name x
name_joined [] = refl
name_joined (c ∷ x) = name_if (is_name c) c x (name_at x) (after_name x) (name_joined x)

name_whole : (x : List ℕ) → after_name (name_at x) ≡ []
name_whole [] = refl
name_whole (c ∷ x) =
    if_known (λ l. after_name l ≡ []) (is_name c) (c ∷ name_at x) []
    (λ e. subst (λ b. (if b then after_name (name_at x) else (c ∷ name_at x)) ≡ []) (sym e)
    (name_whole x)) (λ n. refl)

-- the bytes before a byte, and the text from it on
until_if : (t : Bool) (c : ℕ) (x m y : List ℕ) → x ≡ m ++ y → c ∷ x ≡ (if t then [] else c ∷ m)
    ++ (if t then c ∷ x else y)
until_if true c x m y h = refl
until_if false c x m y h = ap (λ l. c ∷ l) h

until_joined : (b : ℕ) (x : List ℕ) → x ≡ until b x ++ from b x
until_joined b [] = refl
until_joined b (c ∷ x) = until_if (c == b) c x (until b x) (from b x) (until_joined b x)

until_without : (b : ℕ) (x : List ℕ) → from b (until b x) ≡ []
until_without b [] = refl
until_without b (c ∷ x) =
    if_known (λ l. from b l ≡ []) (c == b) [] (c ∷ until b x) (λ e. refl)
    (λ n. subst (λ t. (if t then c ∷ until b x else from b (until b x)) ≡ []) (sym n)
    (until_without b x))

abbrev FirstIs : ℕ → List ℕ → Type 0
FirstIs b [] = Unit {0}
FirstIs b (c ∷ z) = c ≡ b

from_first : (b : ℕ) (x : List ℕ) → FirstIs b (from b x)
from_first b [] = tt
from_first b (c ∷ x) = if_known (FirstIs b) (c == b) (c ∷ x) (from b x) (λ e. equal_if c b e)
    (λ n. from_first b x)

-- a text that ends with a byte is what stands before it, and that byte
last_at : (b n : ℕ) (x : List ℕ) → length x ≡ suc n → is_byte b (slice_get x n) ≡ true → x
    ≡ take n x ++ b ∷ []
last_at b n [] e h = absurd (omega (arith, e))
last_at b zero (c ∷ []) e h = ap (λ d. d ∷ []) (equal_if c b h)
last_at b (suc n) (c ∷ []) e h = absurd (omega (arith, e))
last_at b zero (c ∷ d ∷ x) e h = absurd (omega (arith, e))
last_at b (suc n) (c ∷ d ∷ x) e h = ap (λ l. c ∷ l) (last_at b n (d ∷ x) (omega (arith, e)) h)

last_joined : (b : ℕ) (x : List ℕ) → ends_with b x ≡ true → x ≡ take (length x - 1) x ++ b ∷ []
last_joined b [] h = absurd (cc)
last_joined b (c ∷ x) h = last_at b (length (c ∷ x) - 1) (c ∷ x) (omega arith) h

index_if : (t : Bool) (m x : List ℕ) (p : List ℕ × List ℕ) → ends_with 41 x ≡ t →
    option_map (λ i. (m, i)) (if t then Some (take (length x - 1) x) else None) ≡ Some p
    → m ++ 40 ∷ x ≡ p.0 ++ 40 ∷ (p.1 ++ 41 ∷ [])
index_if true m x p e h =
    let same = same_pair (m, take (length x - 1) x) p h in
    ap (λ l. m ++ 40 ∷ l) (last_joined 41 x e)
    ∙ ap (λ l. l ++ 40 ∷ (take (length x - 1) x ++ 41 ∷ [])) same.0
    ∙ ap (λ l. p.0 ++ 40 ∷ (l ++ 41 ∷ [])) same.1
index_if false m x p e h = absurd (cc)

index_joined : (m y : List ℕ) (p : List ℕ × List ℕ) → FirstIs 40 y →
    option_map (λ i. (m, i)) (index_of y) ≡ Some p → m ++ y ≡ p.0 ++ 40 ∷ (p.1 ++ 41 ∷ [])
index_joined m [] p k h = absurd (cc)
index_joined m (c ∷ x) p k h = ap (λ b. m ++ b ∷ x) k ∙ index_if (ends_with 41 x) m x p refl h

element_joined : (n : List ℕ) (p : List ℕ × List ℕ) → element_of n ≡ Some p → n ≡ p.0 ++ 40
    ∷ (p.1 ++ 41 ∷ [])
element_joined n p h = until_joined 40 n ∙ index_joined (until 40 n) (from 40 n) p (from_first 40 n)
    h

-- the text after the closing brace of ${name}
braces_close : (n z : List ℕ) → 36 ∷ 123 ∷ (n ++ 125 ∷ z) ≡ (36 ∷ 123 ∷ (n ++ 125 ∷ [])) ++ z
braces_close n z = ap (λ l. 36 ∷ 123 ∷ l) (sym (append_assoc n (125 ∷ []) z))

element_spelled : (place : Place) (m i n z : List ℕ) → n ≡ m ++ 40 ∷ (i ++ 41 ∷ []) → from 125 n
    ≡ []
    → IsSpelled place (next_named (element_named m i) z) (36 ∷ 123 ∷ (n ++ 125 ∷ z))
element_spelled place [] i n z e k = tt
element_spelled place (c ∷ m) i n z e k =
    let whole = (c ∷ m) ++ 40 ∷ (i ++ 41 ∷ []) in
    subst (λ l. IsSpelled place (an_element (c ∷ m) i z) (36 ∷ 123 ∷ (l ++ 125 ∷ z))) (sym e) (
      36 ∷ 123 ∷ (whole ++ 125 ∷ []),
      braces_close whole z,
      (i, refl, subst (λ l. from 125 l ≡ []) e k, refl),
    )

named_spelled : (place : Place) (n z : List ℕ) (o : Option (List ℕ × List ℕ)) → element_of n ≡ o →
    from 125 n ≡ []
    → IsSpelled place (next_named (named_as n o) z) (36 ∷ 123 ∷ (n ++ 125 ∷ z))
named_spelled place n z None e k = (36 ∷ 123 ∷ (n ++ 125 ∷ []), braces_close n z, inr (k, refl))
named_spelled place n z (Some p) e k = element_spelled place p.0 p.1 n z (element_joined n p e) k

brace_spelled : (place : Place) (n z : List ℕ) → from 125 n ≡ [] → FirstIs 125 z →
    IsSpelled place (next_brace n z) (36 ∷ 123 ∷ (n ++ z))
brace_spelled place n [] k f = tt
brace_spelled place n (c ∷ z) k f =
    if_known (λ m. IsSpelled place (next_named m z) (36 ∷ 123 ∷ (n ++ c ∷ z))) (holds_colons n) None
    (named_as n (element_of n)) (λ e. tt)
    (λ e. subst (λ b. IsSpelled place (next_named (named_as n (element_of n)) z) (36 ∷ 123
    ∷ (n ++ b ∷ z))) (sym f) (named_spelled place n z (element_of n) refl k))

-- a name after a dollar
index_spelled : (place : Place) (d : ℕ) (n z : List ℕ) → IsName n →
    IsSpelled place (next_index d n z) (36 ∷ (n ++ z))
index_spelled place d n [] k = (36 ∷ n, refl, inl (k, refl))
index_spelled place d n (c ∷ z) k =
    let whole = 36 ∷ (n ++ c ∷ z) in
    if_known (λ m. IsSpelled place m whole) (c == 40) _ (a_name n (c ∷ z))
    (λ e. if_known (λ m. IsSpelled place m whole) (d == 0) _ (an_index n z) (λ f. tt)
    (λ f. (k, ap (λ b. 36 ∷ (n ++ b ∷ z)) (equal_if c 40 e))))
    (λ e. (36 ∷ n, refl, inl (k, refl)))

plain_spelled : (place : Place) (d : ℕ) (n x z : List ℕ) → after_name n ≡ [] → x ≡ n ++ z →
    ends_parts place (36 ∷ x) ≡ false → IsSpelled place (next_plain d n x z) (36 ∷ x)
plain_spelled place d [] x z k e h = if_known (λ m. IsSpelled place m (36 ∷ x))
    (begins_with_colons x) _ (a_byte 36 x) (λ f. tt) (λ f. byte_spelled place 36 x refl refl h)
plain_spelled place d (c ∷ n) x z k e h =
    if_known (λ m. IsSpelled place m (36 ∷ x)) (begins_with_colons z) _ (next_index d (c ∷ n) z)
    (λ f. tt)
    (λ f. subst (λ l. IsSpelled place (next_index d (c ∷ n) z) (36 ∷ l)) (sym e)
    (index_spelled place d (c ∷ n) z (λ none. absurd (cc), k)))

dollar_spelled : (place : Place) (d : ℕ) (x : List ℕ) → ends_parts place (36 ∷ x) ≡ false →
    IsSpelled place (next_dollar d x) (36 ∷ x)
dollar_spelled place d [] h = byte_spelled place 36 [] refl refl h
dollar_spelled place d (c ∷ x) h =
    let whole = 36 ∷ c ∷ x in
    let text = c ∷ x in
    if_known (λ m. IsSpelled place m whole) (c == 123) (next_brace (until 125 x) (from 125 x)) _
    (λ e. subst (λ b. IsSpelled place (next_brace (until 125 x) (from 125 x)) (36 ∷ b ∷ x))
    (sym (equal_if c 123 e))
    (subst (λ l. IsSpelled place (next_brace (until 125 x) (from 125 x)) (36 ∷ 123 ∷ l))
    (sym (until_joined 125 x))
    (brace_spelled place (until 125 x) (from 125 x) (until_without 125 x) (from_first 125 x))))
    (λ n. if_known (λ m. IsSpelled place m whole) (c == 40) _
    (next_plain d (name_at text) text (after_name text)) (λ e. tt)
    (λ e. plain_spelled place d (name_at text) text (after_name text) (name_whole text)
    (name_joined text) h))

bracket_spelled : (place : Place) (d : ℕ) (x : List ℕ) → IsSpelled place (next_bracket d x) (91 ∷ x)
bracket_spelled place d x = if_known (λ m. IsSpelled place m (91 ∷ x)) (d == 0) _ (a_bracket x)
    (λ e. tt) (λ e. refl)

part_spelled : (place : Place) (d c : ℕ) (x : List ℕ) → ends_parts place (c ∷ x) ≡ false →
    IsSpelled place (next_part d (c ∷ x)) (c ∷ x)
part_spelled place d c x h =
    let whole = c ∷ x in
    if_known (λ m. IsSpelled place m whole) (c == 92) (next_escape x) _
    (λ e. subst (λ b. IsSpelled place (next_escape x) (b ∷ x)) (sym (equal_if c 92 e))
    (escape_spelled place x (escape x) refl (next_behind within_quotes 0 92 x)))
    (λ n. if_known (λ m. IsSpelled place m whole) (c == 36) (next_dollar d x) _
    (λ e. let dollar = equal_if c 36 e in
    subst (λ b. IsSpelled place (next_dollar d x) (b ∷ x)) (sym dollar)
    (dollar_spelled place d x (subst (λ b. ends_parts place (b ∷ x) ≡ false) dollar h)))
    (λ m. if_known (λ m. IsSpelled place m whole) (c == 91) (next_bracket d x) (a_byte c x)
    (λ e. subst (λ b. IsSpelled place (next_bracket d x) (b ∷ x)) (sym (equal_if c 91 e))
    (bracket_spelled place d x))
    (λ k. byte_spelled place c x n k h)))

nothing_ends : (place : Place) → ends_parts place [] ≡ true
nothing_ends (in_word context) = refl
nothing_ends within_quotes = refl
nothing_ends within_index = refl

behind_end : (place : Place) (d : ℕ) (x : List ℕ) → ends_parts place x ≡ false →
    IsSpelled place (next_part d x) x
behind_end place d [] h = nothing_ends place
behind_end place d (c ∷ x) h = part_spelled place d c x h

pub piece_spelled : (place : Place) (d : ℕ) (x : List ℕ) → IsSpelled place (next place d x) x
piece_spelled place d x = if_known (λ m. IsSpelled place m x) (ends_parts place x) end
    (next_part d x) (λ e. e) (λ e. behind_end place d x e)
