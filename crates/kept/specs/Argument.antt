-- The words of an argument in braces.
use Rattle.std.specs.Prelude.{ℕ, List, Some, None}
use Rattle.kept.specs.declared.argument.Argument.{Argument}
use Rattle.kept.specs.declared.argument.Argument.TheVariants as argument
use Rattle.tclparse.specs.Grammar.{IsArgument}
use Rattle.tclparse.specs.Seen.{fault_of}
use Rattle.tclparse.specs.Tree.{Words, literals}

-- the words are those of the text, or the text has the fault (expect(1), expect)
abbrev pub IsRead : {A : Type 0} → Argument A → List ℕ → Type 0
IsRead (argument.Texts texts) text = IsArgument (literals texts.value.items) None text
IsRead (argument.Words words) text = IsArgument words None text
IsRead (argument.Faulty fault) text =
    (words : Words) × IsArgument words (Some (fault_of fault)) text
