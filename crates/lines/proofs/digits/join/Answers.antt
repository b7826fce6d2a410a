use Rattle.std.proofs.Common.{◌++◌, arith}
use Rattle.std.proofs.lemmas.List.{length-append}
use Rattle.lines.proofs.Lanes.{joined_small, values_joined}
use Rattle.lines.proofs.digits.join.Goals as goal

pub returns : goal.returns
returns c =
    let values = c.args.first ++ c.args.second in
    let long = length-append c.args.first c.args.second in
    let first = c.fits-first.0 in
    let second = c.fits-second.0 in
    record {
      digits = values_joined values c.requires 16 0 (omega arith);
      small = joined_small values c.requires 16 0 (omega arith);
    }
