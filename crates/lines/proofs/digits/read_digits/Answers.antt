use Rattle.std.proofs.Common.{◌+◌, ◌-◌, ◌*◌, ◌∙◌, length, arith}
use Rattle.std.proofs.lemmas.Simd.{length-put_chunk}
use lib.Lanes.{put_chunk}
use Rattle.lines.proofs.HexTexts.{IsBytes-put, no_digits}
use Rattle.lines.proofs.Lanes.{front_of_rest, twice_read, part_lower, rest_read}
use Rattle.lines.proofs.digits.read_digits.Goals as goal

pub loop-bytes-init : goal.loop-bytes-init
loop-bytes-init c = record {
  within = omega arith;
  read = no_digits;
  small = λ i. (c.type_inv.bytes i).fits;
}

pub bytes_of-first-requires-clause-lower : goal.bytes_of-first-requires-clause-lower
bytes_of-first-requires-clause-lower c =
    let digits = c.args.digits.now in
    part_lower (2 * c.loop-bytes.done) (length digits - 2 * c.loop-bytes.done) digits
    c.requires.lower

pub bytes_of-second-requires-clause-lower : goal.bytes_of-second-requires-clause-lower
bytes_of-second-requires-clause-lower c =
    let digits = c.args.digits.now in
    let behind = 2 * c.loop-bytes.done + 32 in
    part_lower behind (length digits - behind) digits c.requires.lower

pub loop-bytes-preserved : goal.loop-bytes-preserved
loop-bytes-preserved c =
    let first = c.bytes_of-first in
    let second = c.bytes_of-second in
    let done = c.loop-bytes.done in
    let bytes = c.loop-bytes.bytes in
    let digits = c.args.digits.now in
    let once = put_chunk done bytes first.result in
    record {
      within = omega (
        arith,
        length-put_chunk done bytes first.result,
        length-put_chunk (done + 16) once second.result,
      );
      read = twice_read 16 done bytes digits first.result second.result (omega arith) (omega arith)
          (front_of_rest (2 * done) 32 digits ∙ first.ensures.digits)
          (front_of_rest (2 * done + 32) 32 digits ∙ second.ensures.digits)
          c.loop-bytes.invariant.read;
      small = IsBytes-put once second.result (done + 16)
          (IsBytes-put bytes first.result done c.loop-bytes.invariant.small first.ensures.small)
          second.ensures.small;
    }

pub returns-clause-bytes : goal.returns-clause-bytes
returns-clause-bytes c =
    rest_read (2 * c.loop-bytes.done) c.loop-bytes.done c.args.digits.now c.loop-bytes.bytes
    c.read_lanes.new.bytes c.loop-bytes.invariant.read c.read_lanes.ensures.bytes

pub read_lanes-requires-clause-lower : goal.read_lanes-requires-clause-lower
read_lanes-requires-clause-lower c =
    let digits = c.args.digits.now in
    part_lower (2 * c.loop-bytes.done) (length digits - 2 * c.loop-bytes.done) digits
    c.requires.lower
