use Rattle.worlds.proofs.recorded.run_recorded.Goals as goal

pub returns : goal.returns
returns g c = c.run_seen.ensures
