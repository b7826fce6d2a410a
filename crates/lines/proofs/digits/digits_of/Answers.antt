use Rattle.std.proofs.Common.{refl}
use Rattle.std.proofs.lemmas.Simd.{splat_is_map, zip2_of_maps, zip2_splat}
use Rattle.lines.proofs.Lanes.{chosen, itself, same_digits}
use Rattle.lines.proofs.digits.digits_of.Goals as goal

pub returns : goal.returns
returns c =
    let v = c.args.values in
    let long = c.fits-values.0 in
    same_digits _ v _ (zip2_of_maps _ _ _ v (itself v) (chosen _ _ _ v (zip2_splat _ v 16 10 long)
    (splat_is_map v 16 48 long) (splat_is_map v 16 87 long))) c.requires refl
