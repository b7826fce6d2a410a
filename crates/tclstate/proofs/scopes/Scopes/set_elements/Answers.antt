use Rattle.tclstate.proofs.InTurn.{all_at_once}
use Rattle.tclstate.proofs.scopes.Scopes.set_elements.Goals as goal

pub returns-in-Err-clause-left : goal.returns-in-Err-clause-left
returns-in-Err-clause-left g c = (
  c.in-Err.ensures.0,
  all_at_once c.args.self.now c.set_in_array.new.self c.args.name.now _ c.in-Err.ensures.1,
)
