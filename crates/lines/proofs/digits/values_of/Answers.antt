use Rattle.std.proofs.Common.{refl}
use Rattle.std.proofs.lemmas.Simd.{zip2_of_maps, zip2_splat}
use Rattle.lines.proofs.Lanes.{chosen, right_lanes, small_lanes}
use Rattle.lines.proofs.digits.values_of.Goals as goal

pub returns : goal.returns
returns c =
    let v = c.args.digits in
    let long = c.fits-digits.0 in
    let are = chosen _ _ _ v
    (zip2_of_maps _ _ _ v (zip2_splat _ v 16 48 long) (zip2_splat _ v 16 87 long))
    (zip2_splat _ v 16 48 long) (zip2_splat _ v 16 87 long) in
    record {
      small = small_lanes _ refl refl v _ are c.fits-digits.1 c.requires;
      values = right_lanes _ refl refl v _ are c.fits-digits.1 c.requires;
    }
