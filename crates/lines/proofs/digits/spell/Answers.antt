use Rattle.std.proofs.Common.{◌∙◌, map, refl, ap}
use Rattle.std.proofs.lemmas.Nat.{and_mask}
use Rattle.std.proofs.lemmas.Simd.{map-map, zip2_splat}
use Rattle.lines.proofs.Lanes.{bytes_woven, digit, value_lanes}
use Rattle.lines.proofs.digits.spell.Goals as goal

pub digits_of-high-requires : goal.digits_of-high-requires
digits_of-high-requires c =
    value_lanes _ c.args.bytes _ (zip2_splat _ c.args.bytes 16 4 c.fits-bytes.0) c.fits-bytes.1 refl

pub digits_of-low-requires : goal.digits_of-low-requires
digits_of-low-requires c =
    value_lanes _ c.args.bytes _ (zip2_splat _ c.args.bytes 16 15 c.fits-bytes.0) c.fits-bytes.1
    refl

pub returns-clause-digits : goal.returns-clause-digits
returns-clause-digits c =
    let v = c.args.bytes in
    bytes_woven v c.digits_of-high.result c.digits_of-low.result 16 c.fits-bytes.0
    (c.digits_of-high.ensures ∙ ap (map digit) (zip2_splat _ v 16 4 c.fits-bytes.0)
    ∙ map-map digit _ v)
    (c.digits_of-low.ensures ∙ ap (map digit) (zip2_splat _ v 16 15 c.fits-bytes.0)
    ∙ map-map digit _ v ∙ (λ i. map (λ b. digit (and_mask b 4 i)) v)) 16 0 refl
