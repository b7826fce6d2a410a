use Rattle.std.proofs.Common.{◌≡◌, ◌+◌, ◌∷◌, true, get_or, take, drop, rules, arith}
use Rattle.std.proofs.lemmas.Grind.{common_steps}
use Rattle.std.specs.List.{slice_split}
use Rattle.pure.specs.Trim.{is_among}
use Rattle.pure.proofs.Cuts.{cut_here, cut_nowhere}
use Rattle.pure.proofs.split.first_piece.Goals as goal

pub returns-then-is_among-clause-pieces : goal.returns-then-is_among-clause-pieces
returns-then-is_among-clause-pieces c =
    let text = c.args.text.now in
    let i = c.loop-place.place in
    let p = is_among c.args.bytes.now in
    let here : p (get_or text i 0) ≡ true = search rules in
    let cut : slice_split p text ≡ take i text ∷ slice_split p (drop (i + 1) text) =
    cut_here p text i (omega arith) c.loop-place.invariant here in
    grind (arith, common_steps)

pub returns-clause-pieces : goal.returns-clause-pieces
returns-clause-pieces c =
    cut_nowhere (is_among c.args.bytes.now) c.args.text.now
    (λ k below. c.loop-place.invariant k (omega arith))
