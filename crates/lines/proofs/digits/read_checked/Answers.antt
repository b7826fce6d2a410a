use Rattle.std.proofs.Common.{◌+◌, ◌*◌, ◌∙◌, arith}
use Rattle.std.proofs.lemmas.Simd.{length-put_chunk}
use lib.Lanes.{put_chunk}
use Rattle.lines.proofs.HexTexts.{IsBytes-put, no_digits}
use Rattle.lines.proofs.Lanes.{back_of_rest, front_of_rest, rest_read, twice_read}
use Rattle.lines.proofs.digits.read_checked.Goals as goal

pub loop-bytes-init : goal.loop-bytes-init
loop-bytes-init c = record {
  within = omega arith;
  read = no_digits;
  small = λ i. (c.type_inv.bytes i).fits;
}

pub loop-bytes-preserved : goal.loop-bytes-preserved
loop-bytes-preserved c =
    let (front, small, back, small') = rw c.in-Some.is at c.wide_of.ensures in
    let first = c.in-Some.pair.0 in
    let second = c.in-Some.pair.1 in
    let done = c.loop-bytes.done in
    let bytes = c.loop-bytes.bytes in
    let text = c.args.text.now in
    let once = put_chunk done bytes first in
    record {
      within = omega (
        arith,
        length-put_chunk done bytes first,
        length-put_chunk (done + 16) once second,
      );
      read = twice_read 16 done bytes text first second (omega arith) (omega arith)
          (front_of_rest (2 * done) 32 text ∙ front) (back_of_rest (2 * done) 32 text ∙ back)
          c.loop-bytes.invariant.read;
      small = IsBytes-put once second (done + 16)
          (IsBytes-put bytes first done c.loop-bytes.invariant.small small) small';
    }

pub returns : goal.returns
returns c =
    λ _. (
      rest_read (2 * c.loop-bytes.done) c.loop-bytes.done c.args.text.now c.loop-bytes.bytes
          c.read_lanes.new.bytes c.loop-bytes.invariant.read c.read_lanes.ensures.bytes,
      λ i. (c.type_inv.bytes i).fits,
    )
