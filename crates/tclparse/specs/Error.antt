-- Why a reader gives no piece of the tree.
use Rattle.tclparse.specs.declared.error.ReadError.{ReadError}
use Rattle.tclparse.specs.declared.error.ReadError.TheVariants.{Memory, Fault}

-- the error says that memory was refused
abbrev pub IsMemory : ReadError → Type 0
IsMemory (Memory refusal) = Unit {0}
IsMemory (Fault fault) = ⊥
