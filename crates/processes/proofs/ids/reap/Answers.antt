use Rattle.std.proofs.Common.{◌∙◌, map, filter, ap, sym}
use Rattle.kinds.proofs.Reaped.{map_filtered, peers_fit, unreaped_gone, is_other}
use Rattle.state.proofs.Fits.{ids_fit}
use Rattle.state.specs.View.{unreaped_of}
use Rattle.processes.proofs.ids.reap.Goals as goal

pub returns-clause-reaps : goal.returns-clause-reaps
returns-clause-reaps g c = λ s fits.
    let ids = c.args.state.now.ids in
    ids_fit c.args.state.now s fits _ _ (record {
      peers = peers_fit c.args.id ids.table.lines s.ids.peers fits.ids.peers;
      unreaped = ap (map unreaped_of) c.remove_unreaped.ensures
          ∙ map_filtered c.args.id ids.unreaped.items
          ∙ ap (filter (is_other c.args.id)) fits.ids.unreaped
          ∙ sym (unreaped_gone c.args.id s.ids.peers);
      standing = fits.ids.standing;
      size = fits.ids.size;
      drops_nulls = fits.ids.drops_nulls;
      next = fits.ids.next;
    })
