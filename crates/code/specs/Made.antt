-- The code of what is run by itself.
use Rattle.std.specs.Prelude.{List}
use Rattle.code.specs.CodeOf.{IsCodeOf, IsCodeOfArgument, IsCodeOfFormula}
use Rattle.code.specs.Doing.{IsCodeOfDoing, doing_of}
use Rattle.code.specs.declared.instruction.Instruction.{Instruction}
use Rattle.code.specs.declared.made.Entry.{Entry}
use Rattle.code.specs.declared.made.Entry.TheVariants as entry
use Rattle.code.specs.declared.made.Made.{Made}
use Rattle.code.specs.declared.made.Made.TheVariants as made

-- these instructions are the code of a script, or of a formula (this project's own rule)
abbrev pub IsCodeOfMade : {A : Type 0} → List (Instruction A) → Made A → Type 0
IsCodeOfMade code (made.Script tree) = IsCodeOf code tree
IsCodeOfMade code (made.Formula formula) = IsCodeOfFormula code formula

-- the same, or the code of the words of an argument in braces, or of what a command does (this
-- project's own rule)
abbrev pub IsCodeOfEntry : {A : Type 0} → List (Instruction A) → Entry A → Type 0
IsCodeOfEntry code (entry.Made it) = IsCodeOfMade code it
IsCodeOfEntry code (entry.Argument words) = IsCodeOfArgument code words
IsCodeOfEntry code (entry.Does doing) = IsCodeOfDoing code (doing_of doing)
