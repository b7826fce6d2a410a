-- Why a reader made no formula.
use Rattle.std.specs.Prelude.{◌≡◌}
use Rattle.formulas.specs.declared.error.ReadError.{ReadError}
use Rattle.formulas.specs.declared.error.ReadError.TheVariants.{Memory, Fault}
use Rattle.formulas.specs.declared.fault.Fault.TheVariants.{Words}
use Rattle.tclparse.specs.declared.error.ReadError as of_words
use Rattle.tclparse.specs.declared.error.ReadError.TheVariants as words

-- memory was refused
abbrev pub IsMemory : ReadError → Type 0
IsMemory (Memory refusal) = Unit {0}
IsMemory (Fault fault) = ⊥

-- the error of reading words, as the error of reading a formula
abbrev pub IsSame : of_words.ReadError → ReadError → Type 0
IsSame (words.Memory refusal) error = IsMemory error
IsSame (words.Fault fault) error = error ≡ Fault (Words fault)
