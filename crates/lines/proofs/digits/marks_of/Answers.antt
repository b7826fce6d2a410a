use Rattle.std.proofs.Common.{refl}
use Rattle.std.proofs.lemmas.Simd.{splat_is_map, zip2_of_maps, zip2_splat}
use Rattle.lines.specs.Digits.{is_mark}
use Rattle.lines.proofs.Lanes.{chosen, lanes_tested}
use Rattle.lines.proofs.digits.marks_of.Goals as goal

pub returns : goal.returns
returns c =
    let v = c.args.bytes in
    let long = c.fits-bytes.0 in
    lanes_tested is_mark _ v _
    (chosen _ _ _ v
    (zip2_of_maps _ _ _ v
    (zip2_splat _ v 16 58 long)
    (zip2_of_maps _ _ _ v
    (chosen _ _ _ v
    (zip2_of_maps _ _ _ v (zip2_splat _ v 16 103 long) (splat_is_map v 16 4 long))
    (splat_is_map v 16 4 long) (zip2_splat _ v 16 103 long))
    (splat_is_map v 16 4 long)))
    (zip2_of_maps _ _ _ v
    (chosen _ _ _ v
    (zip2_of_maps _ _ _ v (zip2_splat _ v 16 103 long) (splat_is_map v 16 4 long))
    (splat_is_map v 16 4 long) (zip2_splat _ v 16 103 long))
    (splat_is_map v 16 4 long))
    (zip2_splat _ v 16 58 long)) c.fits-bytes.1 refl
