use Rattle.std.proofs.Common.{refl}
use Rattle.live.proofs.processes.spawn.Goals as goal

pub returns-in-Ok-clause-refused : goal.returns-in-Ok-clause-refused
returns-in-Ok-clause-refused g c = λ none. absurd (none c.in-Ok.number refl)

pub returns-in-Ok-clause-kept : goal.returns-in-Ok-clause-kept
returns-in-Ok-clause-kept g c = λ none. absurd (none c.in-Ok.number refl)
