use Rattle.std.proofs.Common.{ap, ◌∙◌}
use Rattle.tclstate.specs.Pairs.{put}
use Rattle.tclstate.specs.Stored.{variable_of, globals_of}
use Rattle.tclstate.proofs.Entries.{put_insert}
use Rattle.tclstate.proofs.globals.Globals.put.Goals as goal

pub returns-clause-ok : goal.returns-clause-ok
returns-clause-ok g c =
    ap globals_of c.in_ok-insert.ensures.entries
    ∙ put_insert variable_of c.self.inside.variables.entries c.in_ok-key.key c.args.content
    ∙ (λ i. put (c.self.view_is i) (c.in_ok-key.ensures.items i) (variable_of c.args.content))
