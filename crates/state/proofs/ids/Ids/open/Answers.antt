use Rattle.std.proofs.Common.{sym, ◌∙◌, ap}
use Rattle.state.specs.declared.size.Size.{Size}
use Rattle.state.proofs.FitIds.{fresh_fits, next_is}
use Rattle.state.proofs.ids.Ids.open.Goals as goal

pub returns-clause-opens : goal.returns-clause-opens
returns-clause-opens g c = λ ids fits. (
  sym (c.in_ok-id.ensures.opens ∙ next_is c.args.self.now ids fits),
  fresh_fits c.args.self.now c.note.new.self ids fits c.open.new.self c.in_ok-id.id
      c.args.kind (c.in_ok-id.ensures.fits ids.peers fits.peers) c.in_ok-id.ensures.listing
      c.note.ensures.table c.in_ok-note.ensures.unreaped
      c.note.ensures.standing (ap (λ (size : Size). size.bytes) c.note.ensures.size) c.note.ensures.drops_nulls,
)
