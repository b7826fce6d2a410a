use Rattle.std.proofs.Common.{sym}
use Rattle.patterns.proofs.Folds.{compared-range}
use Rattle.patterns.proofs.window.Window.part.Goals as goal

pub returns : goal.returns
returns c = rw (← c.self.view_is)
    (sym (compared-range c.self.inside.folds c.self.inside.bytes.now c.args.from c.args.end))
