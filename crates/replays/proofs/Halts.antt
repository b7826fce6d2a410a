-- Why a recorded run that is read as it is replayed comes to a halt.
use Rattle.std.proofs.Common.{ℕ, List, inl, inr}
use Rattle.records.specs.declared.reader.ReadFault.{ReadFault}
use Rattle.records.specs.declared.reader.ReadFault.TheVariants.{GivenUp, Unfit}
use Rattle.records.specs.declared.record.RecordFault.TheVariants as fault
use Rattle.records.specs.Reading.{IsStopped}
use Rattle.replays.specs.Reel.{IsHalt, halt_of}

-- what stops the reading of an entry halts the replay
pub stopped_halts : {S : Type 0} (gives : S → List ℕ → S → Type 0) (up : S → S → Type 0)
    (most : S → ℕ) (before after : S × List ℕ) (found : ReadFault) →
    IsStopped gives up most 0 before after found →
    IsHalt gives up most before after (halt_of found)
stopped_halts gives up most before after (Unfit fault.Header) stopped = absurd stopped
stopped_halts gives up most before after (Unfit (fault.Line n)) (reads, is) =
    inl (reads, inr (n, is))
stopped_halts gives up most before after (Unfit (fault.NoMemory refusal)) stopped = tt
stopped_halts gives up most before after GivenUp given = inr given
