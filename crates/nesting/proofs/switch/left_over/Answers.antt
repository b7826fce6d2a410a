use Rattle.std.proofs.Common.{◌≡◌, ◌∙◌, true, false, sym, ap}
use Rattle.nesting.proofs.Choosing.{even_left, odd_left}
use Rattle.nesting.specs.Switch.{is_shared}
use Rattle.nesting.proofs.switch.left_over.Goals as goal

pub returns-then-arms-eq1 : goal.returns-then-arms-eq1
returns-then-arms-eq1 g c =
    odd_left c.in_ok-last.last.now c.args.arms.now c.in_ok-last.ensures.value c.if-arms-eq1.true

pub returns-then-is_shared : goal.returns-then-is_shared
returns-then-is_shared g c =
    let last = c.in_ok-last.last.now in
    let shared : is_shared last ≡ true =
    ap is_shared (sym c.as_slice.ensures) ∙ sym c.if-is_shared.ensures in
    sym (rw shared at (even_left last c.args.arms.now c.in_ok-last.ensures.value
    c.if-arms-eq1.false))

pub returns-else-is_shared : goal.returns-else-is_shared
returns-else-is_shared g c =
    let last = c.in_ok-last.last.now in
    let plain : is_shared last ≡ false =
    ap is_shared (sym c.as_slice.ensures) ∙ sym c.if-is_shared.ensures in
    sym (rw plain at (even_left last c.args.arms.now c.in_ok-last.ensures.value
    c.if-arms-eq1.false))
