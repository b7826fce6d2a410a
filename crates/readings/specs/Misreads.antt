-- What the errors of the code stand for.
use Rattle.std.specs.Prelude.{Option, Some, None}
use Rattle.patterns.specs.declared.error.PatternError.{PatternError}
use Rattle.patterns.specs.declared.error.PatternError.TheVariants as pattern
use Rattle.readings.specs.Reads as flaw
use Rattle.readings.specs.Reads.{Flaw}
use Rattle.readings.specs.declared.branch_error.BranchError.{BranchError}
use Rattle.readings.specs.declared.branch_error.BranchError.TheVariants as error

-- the error where a pattern can't be read
abbrev pub of_pattern : PatternError → BranchError
of_pattern pattern.TooLong = error.TooLong
of_pattern (pattern.NoMemory refusal) = error.NoMemory refusal

-- the flaw that an error names; want of memory names none
abbrev pub flaw_of : BranchError → Option Flaw
flaw_of (error.NotIds text) = Some (flaw.NotIds text.now)
flaw_of (error.NotOpen id) = Some (flaw.NotOpen id)
flaw_of error.NoneInForce = Some flaw.NoneInForce
flaw_of error.NoPattern = Some flaw.NoPattern
flaw_of error.RegexNotHere = Some flaw.RegexNotHere
flaw_of (error.BadFlag word) = Some (flaw.BadFlag word.now)
flaw_of error.TooLong = Some flaw.TooLong
flaw_of (error.NoMemory refusal) = None
