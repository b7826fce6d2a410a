use Rattle.readings.proofs.Readings as readings
use Rattle.readings.proofs.laws.one_reading.Goals as goal

pub returns-clause-some : goal.returns-clause-some
returns-clause-some c = readings.has_reading

pub returns-clause-alone : goal.returns-clause-alone
returns-clause-alone c = readings.one_reading
