use Rattle.code.specs.Switch.{of_list}
use Rattle.code.proofs.arms.elements_of.Goals as goal

pub returns-in-Ok : goal.returns-in-Ok
returns-in-Ok g c = of_list c.in-Ok.ensures.list
