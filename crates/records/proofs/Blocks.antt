-- What lies between two places of a block.
use Rattle.std.proofs.Common.{◌≡◌, ◌+◌, ◌-◌, ◌≤◌, ℕ, List, ◌++◌, length, take, drop, sym, ap, ◌∙◌, arith}
use Rattle.std.proofs.Math.Seq.{take-append-add}
use Rattle.std.proofs.lemmas.List.{drop-append-le, drop-drop, drop-take, length-take-le, take-append-le}
use Rattle.std.proofs.lemmas.Slice.{between_is}

-- what is left of a part after n of its bytes
pub left_of_part : (block : List ℕ) (start end n : ℕ) → start + n ≤ end
    → take (end - (start + n)) (drop (start + n) block) ≡ drop n (take (end - start) (drop start block))
left_of_part block start end n within =
    let m = end - (start + n) in
    let whole : end - start ≡ n + m = omega arith in
    sym (ap (λ k. drop n (take k (drop start block))) whole ∙ drop-take n m (drop start block)
    ∙ ap (take m) (drop-drop n start block))

-- a part stays where the block gets longer
pub part_of_longer : (block more : List ℕ) (start end : ℕ) → end ≤ length block
    → take (end - start) (drop start (block ++ more)) ≡ take (end - start) (drop start block)
part_of_longer block more start end within =
    between_is (block ++ more) start end ∙ ap (drop start) (take-append-le end block more within)
    ∙ sym (between_is block start end)

-- a part and what is written behind it
pub part_and_more : (block room rest : List ℕ) (start end n : ℕ) → start ≤ end
    → end ≤ length block → n ≤ length room
    → take (end + n - start) (drop start (take end block ++ (room ++ rest)))
    ≡ take (end - start) (drop start block) ++ take n room
part_and_more block room rest start end n order within short =
    let front = take end block in
    let long = length-take-le end block within in
    between_is (front ++ (room ++ rest)) start (end + n)
    ∙ ap (λ k. drop start (take (k + n) (front ++ (room ++ rest)))) (sym long)
    ∙ ap (drop start) (take-append-add front (room ++ rest) n
    ∙ ap (λ l. front ++ l) (take-append-le n room rest short))
    ∙ drop-append-le start front (take n room) (omega (arith, long))
    ∙ ap (λ l. l ++ take n room) (sym (between_is block start end))
