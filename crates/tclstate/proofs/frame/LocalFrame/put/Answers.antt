use Rattle.std.proofs.Common.{ap, ◌∙◌}
use Rattle.tclstate.specs.Pairs.{put}
use Rattle.tclstate.specs.Stored.{local_of, locals_of}
use Rattle.tclstate.proofs.Entries.{put_insert}
use Rattle.tclstate.proofs.frame.LocalFrame.put.Goals as goal

pub returns-clause-ok : goal.returns-clause-ok
returns-clause-ok g c =
    ap locals_of c.in_ok-insert.ensures.entries
    ∙ put_insert local_of c.self.inside.variables.entries c.in_ok-key.key c.args.local
    ∙ (λ i. put (c.self.view_is i) (c.in_ok-key.ensures.items i) (local_of c.args.local))
