use Rattle.std.proofs.Common.{◌*◌, ◌+◌, ◌∙◌, arith}
use Rattle.std.proofs.lemmas.Bool.{ltb-true}
use Rattle.lines.proofs.HexTexts.{IsBytes-set, byte_read, no_digits}
use Rattle.lines.proofs.Lanes.{lower_at}
use Rattle.lines.proofs.digits.read_rest.Goals as goal

pub loop-place-init : goal.loop-place-init
loop-place-init c = record { read = no_digits; small = λ i. (c.type_inv.bytes i).fits }

pub loop-place-preserved : goal.loop-place-preserved
loop-place-preserved c =
    let digits = c.args.digits.now in
    let place = c.loop-place.place in
    let high = c.value_of-high.result in
    let low = c.value_of-low.result in
    let upper = ltb-true high 16 (c.value_of-high.ensures.lower
    ∙ lower_at digits (2 * place) c.requires.lower (omega arith)) in
    let lower = ltb-true low 16 (c.value_of-low.ensures.lower
    ∙ lower_at digits (2 * place + 1) c.requires.lower (omega arith)) in
    record {
      read = byte_read digits c.loop-place.bytes place high low _ (omega arith) (omega arith) upper
          lower (c.value_of-high.ensures.value upper) (c.value_of-low.ensures.value lower)
          (omega arith) c.loop-place.invariant.read;
      small = IsBytes-set c.loop-place.bytes place _ c.loop-place.invariant.small (omega arith);
    }
