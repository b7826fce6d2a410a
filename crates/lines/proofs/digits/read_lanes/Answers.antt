use Rattle.std.proofs.Common.{◌-◌, ◌*◌, ◌∙◌, length, arith}
use Rattle.std.proofs.lemmas.Simd.{length-put_chunk}
use Rattle.lines.proofs.HexTexts.{IsBytes-put, no_digits}
use Rattle.lines.proofs.Lanes.{front_of_rest, more_read, part_lower, rest_read}
use Rattle.lines.proofs.digits.read_lanes.Goals as goal

pub loop-bytes-init : goal.loop-bytes-init
loop-bytes-init c = record {
  within = omega arith;
  read = no_digits;
  small = λ i. (c.type_inv.bytes i).fits;
}

pub bytes_of-requires-clause-lower : goal.bytes_of-requires-clause-lower
bytes_of-requires-clause-lower c =
    let digits = c.args.digits.now in
    part_lower (2 * c.loop-bytes.done) (length digits - 2 * c.loop-bytes.done) digits
    c.requires.lower

pub loop-bytes-preserved : goal.loop-bytes-preserved
loop-bytes-preserved c =
    let read = c.bytes_of in
    let done = c.loop-bytes.done in
    let bytes = c.loop-bytes.bytes in
    record {
      within = omega (arith, length-put_chunk done bytes read.result);
      read = more_read 16 done bytes c.args.digits.now (omega arith) (omega arith) read.result
          (front_of_rest (2 * done) 32 c.args.digits.now ∙ read.ensures.digits)
          c.loop-bytes.invariant.read;
      small = IsBytes-put bytes read.result done c.loop-bytes.invariant.small read.ensures.small;
    }

pub returns-clause-bytes : goal.returns-clause-bytes
returns-clause-bytes c =
    rest_read (2 * c.loop-bytes.done) c.loop-bytes.done c.args.digits.now c.loop-bytes.bytes
    c.read_rest.new.bytes c.loop-bytes.invariant.read c.read_rest.ensures.bytes

pub read_rest-requires-clause-lower : goal.read_rest-requires-clause-lower
read_rest-requires-clause-lower c =
    let digits = c.args.digits.now in
    part_lower (2 * c.loop-bytes.done) (length digits - 2 * c.loop-bytes.done) digits
    c.requires.lower
