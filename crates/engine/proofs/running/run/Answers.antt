use Rattle.engine.proofs.Worlds.{began_of, ran_of}
use Rattle.engine.proofs.running.run.Goals as goal

pub returns-clause-ran : goal.returns-clause-ran
returns-clause-ran g c = ran_of c.run_watched.result _ c.run_watched.ensures.ran

pub returns-clause-began : goal.returns-clause-began
returns-clause-began g c = began_of c.run_watched.result _ c.run_watched.ensures.began
