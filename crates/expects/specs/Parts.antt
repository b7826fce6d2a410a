-- How results of parts of the code's turn stand to the definition.
use Rattle.std.specs.Prelude.{◌≡◌, Option, Some, None, Result, Ok, Err}
use Rattle.state.specs.Prelude.{flaw_of, Raises, Raise, Status, Scopes}
use Rattle.acts.specs.declared.raise.Raise.TheVariants as raise
use Rattle.choices.specs.Choice.{Taken}
use Rattle.choices.specs.declared.choice.Taken as coded
use Rattle.readings.specs.Reads as misread
use Rattle.expects.specs.Expect.{told}
use Rattle.expects.specs.Report.{Written}

-- what a choice of the code has for expect_out
abbrev pub taken_of : {A : Type 0} → coded.Taken A → Taken
taken_of t = record {
  id = t.id;
  buffer = t.buffer.items;
  found = t.found;
  tells_places = t.tells_places;
}

-- the writes stopped at this error, unless memory was refused
abbrev pub Stops : {A : Type 0} → Written → Raise A → Scopes → Type 0
Stops meant (raise.Fault why) new = meant ≡ (new, Some (flaw_of why))
Stops meant (raise.NoMemory refusal) new = Unit {0}

-- the variables are those that the writes leave, with the same error, unless memory was refused
abbrev pub Writes : {A T : Type 0} → Written → Result T (Raise A) → Scopes → Type 0
Writes meant (Ok done) new = meant ≡ (new, None)
Writes meant (Err why) new = Stops meant why new

-- the script's error of words that say no branches; want of memory has none
abbrev pub Tells : {A : Type 0} → Option misread.Flaw → Raise A → Status → Type 0
Tells None (raise.Fault why) s = ⊥
Tells None (raise.NoMemory refusal) s = Unit {0}
Tells (Some why) fault s = Raises (told why s) fault
