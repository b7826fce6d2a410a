use Rattle.std.proofs.Common.{rules}
use Rattle.worlds.proofs.recorded.run_seen.Goals as goal

pub returns : goal.returns
returns g c = (c.begin.new.made, c.begin.ensures, search rules)
