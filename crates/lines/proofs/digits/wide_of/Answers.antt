use Rattle.std.proofs.Common.{◌≤◌, ◌∙◌, drop, length, sym, take, arith}
use Rattle.std.proofs.lemmas.List.{length-drop, length-take-le, take_all}
use Rattle.lines.proofs.Lanes.{lower_halves}
use Rattle.lines.proofs.digits.wide_of.Goals as goal

pub slice_bounds-bytes_of-end : goal.slice_bounds-bytes_of-end
slice_bounds-bytes_of-end c =
    sym (length-take-le 32 c.args.text.now (omega (arith, c.requires)))

pub bytes_of-requires-clause-enough : goal.bytes_of-requires-clause-enough
bytes_of-requires-clause-enough c =
    omega (arith, length-take-le 32 c.args.text.now (omega (arith, c.requires)))

pub bytes_of-requires-clause-lower : goal.bytes_of-requires-clause-lower
bytes_of-requires-clause-lower c =
    (lower_halves 32 c.args.text.now
    (sym c.marks_of_half.ensures ∙ sym c.are_marked.ensures ∙ c.if-are_marked.true)).0

pub bytes_of-requires-then-are_marked-clause-lower : goal.bytes_of-requires-then-are_marked-clause-lower
bytes_of-requires-then-are_marked-clause-lower c =
    (lower_halves 32 c.args.text.now
    (sym c.marks_of_half.ensures ∙ sym c.are_marked.ensures ∙ c.if-are_marked.true)).1

pub returns-then-are_marked : goal.returns-then-are_marked
returns-then-are_marked c =
    let text = c.args.text.now in
    let front : 32 ≤ length text = omega (arith, c.requires) in
    let back : 32 ≤ length (drop 32 text) = omega (arith, c.requires, length-drop 32 text) in (
      sym (take_all 32 (take 32 text) (omega (arith, length-take-le 32 text front))) ∙ c.bytes_of.ensures.digits,
      c.bytes_of.ensures.small,
      sym (take_all 32 (take 32 (drop 32 text)) (omega (arith, length-take-le 32 (drop 32 text) back))) ∙ c.bytes_of-then-are_marked.ensures.digits,
      c.bytes_of-then-are_marked.ensures.small,
    )

pub returns-else-are_marked : goal.returns-else-are_marked
returns-else-are_marked c =
    sym c.marks_of_half.ensures ∙ sym c.are_marked.ensures ∙ c.if-are_marked.false
