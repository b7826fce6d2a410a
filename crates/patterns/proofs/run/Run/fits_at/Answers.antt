use Rattle.std.proofs.Common.{map}
use Rattle.patterns.specs.Item.{literal}
use Rattle.patterns.specs.Runs.{items_of}
use Rattle.patterns.proofs.Places.{fits_iff_place}
use Rattle.patterns.proofs.run.Run.fits_at.Goals as goal

pub returns-in-Text-clause-fits : goal.returns-in-Text-clause-fits
returns-in-Text-clause-fits g c = rw c.in-Text.is
    (fits_iff_place (map literal c.in-Text.bytes.items) c.args.window.now c.behind-text.result
    c.args.place c.fits.result c.requires c.behind-text.ensures
    (rw c.deref.ensures.value at c.fits.ensures.fits))

pub returns-in-Items-clause-fits : goal.returns-in-Items-clause-fits
returns-in-Items-clause-fits g c = rw c.in-Items.is
    (fits_iff_place (items_of c.in-Items.tokens.items) c.args.window.now c.behind-text.result
    c.args.place c.fits-in-Items.result c.requires c.behind-text.ensures
    (rw c.deref-in-Items.ensures.value at c.fits-in-Items.ensures.fits))
