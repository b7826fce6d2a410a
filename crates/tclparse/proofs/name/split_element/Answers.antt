use Rattle.std.proofs.Common.{rules}
use Rattle.tclparse.proofs.Elements.{no_element}
use Rattle.tclparse.proofs.name.split_element.Goals as goal

pub returns-then-not-ends_with : goal.returns-then-not-ends_with
returns-then-not-ends_with c = no_element c.args.name.now (search rules)
