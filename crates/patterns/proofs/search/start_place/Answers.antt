use Rattle.std.proofs.Common.{arith, refl}
use Rattle.patterns.proofs.search.start_place.Goals as goal

pub returns-then-fits_at-clause-place : goal.returns-then-fits_at-clause-place
returns-then-fits_at-clause-place g c = (
  c.if-fits_at.ensures.fits.0 refl,
  λ _. refl,
  λ k _ _. omega arith,
)
