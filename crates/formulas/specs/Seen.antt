-- What the answers of the code stand for.
use Rattle.std.specs.Prelude.{ℕ, ◌<◌, ◌≤◌, List, length, Option, Some, None, Result, Ok, Err}
use Rattle.std.specs.Borrow.{Bor}
use Rattle.tclparse.specs.Seen as words
use Rattle.tclparse.specs.FormulaFault.{FormulaFault, of_words, syntax}
use Rattle.tclparse.specs.FormulaPiece as piece
use Rattle.tclparse.specs.FormulaGrammar.{FormulaOutcome}
use Rattle.formulas.specs.declared.fault.Fault as the_fault
use Rattle.formulas.specs.declared.fault.Fault.TheVariants.{Words, Syntax}
use Rattle.formulas.specs.declared.piece.Leaf as the_leaf
use Rattle.formulas.specs.declared.piece.Leaf.TheVariants as leaf
use Rattle.formulas.specs.declared.piece.Opening as the_opening
use Rattle.formulas.specs.declared.piece.Opening.TheVariants as opens
use Rattle.formulas.specs.declared.piece.Following as the_following
use Rattle.formulas.specs.declared.piece.Following.TheVariants as follows

-- the fault that one of the code stands for
abbrev pub fault_of : the_fault.Fault → FormulaFault
fault_of (Words f) = of_words (words.fault_of f)
fault_of Syntax = syntax

-- a leaf with the texts that its slices hold
abbrev pub leaf_of : the_leaf.Leaf → piece.Leaf
leaf_of (leaf.Fault f) = piece.no_leaf (fault_of f)
leaf_of (leaf.Numeral s z) = piece.a_numeral s.now z.now
leaf_of (leaf.Word s z) = piece.a_word s.now z.now
leaf_of (leaf.Quotes z) = piece.in_quotes z.now
leaf_of (leaf.Braces z) = piece.in_braces z.now
leaf_of (leaf.Substitution z) = piece.a_substitution z.now

-- how an operand begins, with the texts that the slices hold
abbrev pub opening_of : the_opening.Opening → piece.Opening
opening_of (opens.Leaf l) = piece.a_leaf (leaf_of l)
opening_of (opens.Prefix u z) = piece.a_prefix u z.now
opening_of (opens.Parenthesis z) = piece.a_parenthesis z.now
opening_of (opens.Call g z) = piece.a_call g z.now

-- what stands after an operand, with the texts that the slices hold
abbrev pub following_of : the_following.Following → piece.Following
following_of (follows.End z) = piece.end z.now
following_of (follows.Fault f) = piece.fault (fault_of f)
following_of (follows.Infix i z) = piece.an_infix i z.now
following_of (follows.Choice z) = piece.a_choice z.now

-- a reader's answer as an outcome
abbrev pub outcome : Result (Bor (List ℕ)) the_fault.Fault → FormulaOutcome
outcome (Ok z) = Ok z.now
outcome (Err f) = Err (fault_of f)

-- the text after a leaf has fewer than n bytes; that of a substitution, which begins at its first
-- byte, has at most n
abbrev pub LeavesLess : the_leaf.Leaf → ℕ → Type 0
LeavesLess (leaf.Fault f) n = Unit {0}
LeavesLess (leaf.Numeral s z) n = length z.now < n
LeavesLess (leaf.Word s z) n = length z.now < n
LeavesLess (leaf.Quotes z) n = length z.now < n
LeavesLess (leaf.Braces z) n = length z.now < n
LeavesLess (leaf.Substitution z) n = length z.now ≤ n

-- the text after how an operand begins has fewer than n bytes, and a prefix, a parenthesis or a
-- call opens only where d, how many more may be open, is not 0
abbrev pub OpensWithin : the_opening.Opening → ℕ → ℕ → Type 0
OpensWithin (opens.Leaf l) d n = LeavesLess l n
OpensWithin (opens.Prefix u z) d n = (0 < d) × (length z.now < n)
OpensWithin (opens.Parenthesis z) d n = (0 < d) × (length z.now < n)
OpensWithin (opens.Call g z) d n = (0 < d) × (length z.now < n)

-- the text after what follows an operand has fewer than n bytes, at the formula's end at most n; a
-- choice opens only where d, how many more may be open, is not 0
abbrev pub GoesWithin : the_following.Following → ℕ → ℕ → Type 0
GoesWithin (follows.End z) d n = length z.now ≤ n
GoesWithin (follows.Fault f) d n = Unit {0}
GoesWithin (follows.Infix i z) d n = length z.now < n
GoesWithin (follows.Choice z) d n = (0 < d) × (length z.now < n)

-- the text after a comma, if there is one
abbrev pub comma_seen : Option (Bor (List ℕ)) → Option (List ℕ)
comma_seen None = None
comma_seen (Some z) = Some z.now
