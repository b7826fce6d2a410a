use Rattle.kept.proofs.Entries.{distinct_texts}
use Rattle.kept.proofs.Kept.len.Goals as goal

pub returns-clause-once : goal.returns-clause-once
returns-clause-once g c =
    rw (← c.self.view_is) (distinct_texts c.self.inside.scripts.entries c.len.ensures.unique)
