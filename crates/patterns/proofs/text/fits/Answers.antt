use Rattle.std.proofs.Common.{List, ℕ, length, map, drop, sym, subst}
use Rattle.std.proofs.lemmas.Slice.Eq.{starts_is}
use Rattle.std.proofs.lemmas.Bool.Decides.{Decides-eqb}
use Rattle.patterns.specs.Item.{literal}
use Rattle.patterns.specs.Runs.{Fits}
use Rattle.patterns.proofs.Texts.{fits_front, front_fits}
use Rattle.patterns.proofs.text.fits.Goals as goal

pub returns-in-Some-clause-fits : goal.returns-in-Some-clause-fits
returns-in-Some-clause-fits c =
    let bytes = c.args.bytes.now in
    let text = c.in-Some.text.now in
    let parts = starts_is Decides-eqb text bytes c.starts_with.result c.starts_with.ensures.value in
    rw (← c.in-Some.ensures) (
      λ t. subst (λ (x : List ℕ). Fits (map literal bytes) x) (sym (parts.0 t))
          (fits_front bytes (drop (length bytes) text)),
      λ fits. parts.1 (drop (length bytes) text) (front_fits bytes text fits),
    )
