use Rattle.std.proofs.Common.{◌≡◌, ◌++◌, ◌∷◌, [], ◌+◌, drop}
use Rattle.std.proofs.Math.ListN.{drop_of_length-le}
use Rattle.std.specs.Prelude.{◌↔◌, IsTrue, true, false}
use Rattle.state.proofs.Lists.{split_at}
use Rattle.patterns.specs.Match.{Whole}
use Rattle.variables.proofs.Taking.{all_taken, one_taken, one_passed}
use Rattle.variables.proofs.array.indexes.taken.Goals as goal
use Rattle.variables.proofs.array.indexes.taken.Goals.{then-whole+in_ok-share+in_ok-push, else-whole}

pub loop-text-preserved : goal.loop-text-preserved
loop-text-preserved g c =
    let items = c.args.pattern.now.items in
    let texts = c.args.texts.now in
    let t = c.text-item.result in
    let i = c.loop-text.text-index in
    let found = c.loop-text.found.items in
    let is = split_at texts i t c.loop-text-test.true c.text-item.is in
    elim c.if-whole.branch [
      | then-whole+in_ok-share+in_ok-push w ↦
          let takes : IsTrue true ↔ Whole items t =
          rw (w.if-whole.true, c.as_slice.ensures) at c.whole.ensures in
          let pushed : c.if-whole.found.items ≡ found ++ t ∷ [] =
          cc (w.found-is, w.in_ok-push.ensures.items, w.in_ok-share.ensures) in
          one_taken items texts (drop i texts) (drop (i + 1) texts) found t is
          c.loop-text.invariant c.if-whole.found.items takes pushed
      | else-whole w ↦
          let passes : IsTrue false ↔ Whole items t =
          rw (w.if-whole.false, c.as_slice.ensures) at c.whole.ensures in
          let kept : c.if-whole.found.items ≡ found = cc (w.found-is) in
          rw kept
          (one_passed items texts (drop i texts) (drop (i + 1) texts) found t is
          c.loop-text.invariant passes)
    ]

pub returns : goal.returns
returns g c =
    let texts = c.args.texts.now in
    let rest = drop c.loop-text.text-index texts in
    all_taken c.args.pattern.now.items texts rest c.loop-text.found.items
    (drop_of_length-le texts c.loop-text-test.false) c.loop-text.invariant
