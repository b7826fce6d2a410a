-- The bytes from one place of a block to another, as bytes are taken from their front, or written
-- after them.
use Rattle.std.proofs.Common.{◌≡◌, ℕ, ◌+◌, ◌-◌, ◌≤◌, List, ◌++◌, length, take, drop, refl, sym, ap, ◌∙◌, ◌<◌, ◌⊎◌, inl, inr, arith, append_assoc, length-append, length-drop}
use Rattle.std.proofs.lemmas.List.{drop-append-le, drop-drop, length-take-le, take_at, drop_at}
use Rattle.std.proofs.lemmas.Bool.{cases_lt}
use Rattle.std.proofs.lemmas.Slice.{between_is}
use Rattle.std.proofs.Math.ListN.{drop_of_length-le}
use Rattle.std.specs.List.{between}
use Rattle.circular_buffer.specs.Buffer.{Buffer, buffer, keep_last}

-- without the first n bytes, a part begins n places later
pub drop-between : (n i j : ℕ) (xs : List ℕ) → drop n (between i j xs) ≡ between (i + n) j xs
drop-between n i j xs =
    ap (drop n) (between_is xs i j) ∙ drop-drop n i (take j xs) ∙ sym (between_is xs (i + n) j)

-- bytes that are written to the block from the place where a part ends on, lengthen it
pub between-written : (i j : ℕ) (before after : Buffer ℕ) (ys : List ℕ) → i ≤ j
    → j ≤ length before.items
    → after ≡ buffer (take j before.items ++ (ys ++ drop (j + length ys) before.items))
    before.capacity
    → between i (j + length ys) after.items ≡ between i j before.items ++ ys
between-written i j before after ys le fits is =
    let xs = before.items in
    let zs = drop (j + length ys) xs in
    let long : length (take j xs) ≡ j = length-take-le j xs fits in
    let whole : take (j + length ys) (take j xs ++ (ys ++ zs)) ≡ take j xs ++ ys =
    ap (take (j + length ys)) (sym (append_assoc (take j xs) ys zs))
    ∙ take_at (take j xs ++ ys) zs (j + length ys)
    (omega (arith, length-append (take j xs) ys, long)) in
    ap (λ (b : Buffer ℕ). between i (j + length ys) b.items) is
    ∙ between_is (take j xs ++ (ys ++ zs)) i (j + length ys) ∙ ap (drop i) whole
    ∙ drop-append-le i (take j xs) ys (omega (arith, long))
    ∙ ap (λ l. l ++ ys) (sym (between_is xs i j))

-- where the new bytes are fewer than may be held, all of them stay
few_kept : (m : ℕ) (xs ys : List ℕ) → length ys ≤ m →
    drop (length xs + length (keep_last m ys) - m) xs ++ keep_last m ys ≡ keep_last m (xs ++ ys)
few_kept m xs ys le =
    let none : length ys - m ≡ 0 = omega arith in
    let all : keep_last m ys ≡ ys = ap (λ n. drop n ys) none in
    let over = length xs + length ys - m in
    ap (λ l. drop (length xs + length l - m) xs ++ l) all
    ∙ sym (drop-append-le over xs ys (omega arith))
    ∙ ap (λ n. drop (n - m) (xs ++ ys)) (sym (length-append xs ys))

-- where they are more, nothing else stays
many_kept : (m : ℕ) (xs ys : List ℕ) → m ≤ length ys →
    drop (length xs + length (keep_last m ys) - m) xs ++ keep_last m ys ≡ keep_last m (xs ++ ys)
many_kept m xs ys le =
    let first = length ys - m in
    let long : length xs ≤ length xs + length (keep_last m ys) - m =
    omega (arith, length-drop first ys) in
    let same : length xs + first ≡ length (xs ++ ys) - m = omega (arith, length-append xs ys) in
    ap (λ l. l ++ keep_last m ys) (drop_of_length-le xs long)
    ∙ ap (drop first) (sym (drop_at xs ys (length xs) refl))
    ∙ drop-drop first (length xs) (xs ++ ys) ∙ ap (λ n. drop n (xs ++ ys)) same

kept_by : (m : ℕ) (xs ys : List ℕ) → (m < length ys) ⊎ (length ys ≤ m) →
    drop (length xs + length (keep_last m ys) - m) xs ++ keep_last m ys ≡ keep_last m (xs ++ ys)
kept_by m xs ys (inl more) = many_kept m xs ys (omega (arith, more))
kept_by m xs ys (inr few) = few_kept m xs ys few

-- the last of the bytes held and of new ones, where of each what does not fit goes first
pub kept : (m : ℕ) (xs ys : List ℕ) →
    drop (length xs + length (keep_last m ys) - m) xs ++ keep_last m ys ≡ keep_last m (xs ++ ys)
kept m xs ys = kept_by m xs ys (cases_lt m (length ys))
