-- Which formula a text is (expr(n)).
use Rattle.std.specs.Prelude.{◌≡◌, ℕ, ◌-◌, ◌==◌, ◌⊎◌, List, [], ◌∷◌, Option, Some, None, Result, Ok, Err, if◌then◌else◌}
use Rattle.tcltext.specs.Balanced.{IsPaired}
use Rattle.tclparse.specs.declared.operator.Function.{Function}
use Rattle.tclparse.specs.declared.operator.Function.TheVariants.{Abs, Min, Max}
use Rattle.tclparse.specs.Fault.{open_brace, open_quote}
use Rattle.tclparse.specs.Tree.{Parts, no_parts, variable, element, script, Commands, bytes_then}
use Rattle.tclparse.specs.Context.{bracketed}
use Rattle.tclparse.specs.Braces.{IsValue}
use Rattle.tclparse.specs.Piece.{within_quotes, within_index, Next, end, fault, a_byte, a_name, an_index, an_element, a_bracket, next_part}
use Rattle.tclparse.specs.Grammar.{Outcome, bracket_closed, index_closed, IsParts, IsCommands}
use Rattle.tclparse.specs.Formula.{Formula, numeral, text}
use Rattle.tclparse.specs.FormulaText.{Operand, leaf, prefixed, enclosed, called, Whole, whole, Rest, over, joined, chosen, Arguments, last, further, nothing, nothing_whole, whole_tree}
use Rattle.tclparse.specs.FormulaFault.{FormulaFault, of_words, syntax}
use Rattle.tclparse.specs.FormulaPiece as piece

-- Reading gives the unread text, or the fault at which it stops.
abbrev pub FormulaOutcome : Type 0
FormulaOutcome = Result (List ℕ) FormulaFault

-- the outcome of reading words, as an outcome of reading a formula
abbrev pub from_words : Outcome → FormulaOutcome
from_words (Ok z) = Ok z
from_words (Err f) = Err (of_words f)

-- Where the outcome is an unread text, more is read from it; after a fault nothing is.
abbrev pub Goes : FormulaOutcome → Type 0 → (List ℕ → Type 0) → FormulaOutcome → Type 0
Goes (Ok z) none more o = more z
Goes (Err f) none more o = none × (o ≡ Err f)

-- after a formula the byte b stands (expr(n))
abbrev pub closed : ℕ → FormulaOutcome → FormulaOutcome
closed b (Ok []) = Err syntax
closed b (Ok (c ∷ z)) = if c == b then Ok z else Err syntax
closed b (Err f) = Err f

-- after a quoted text its quote closes; anything may follow (expr(n), operands)
abbrev pub quote_closed : Outcome → Outcome
quote_closed (Ok []) = Err open_quote
quote_closed (Ok (c ∷ z)) = Ok z
quote_closed (Err f) = Err f

-- after a quote stand parts, and then a quote (expr(n), operands)
abbrev pub IsQuoted : ℕ → Parts → List ℕ → Outcome → Type 0
IsQuoted d ps x o = (r : Outcome) × IsParts within_quotes d ps x r × (o ≡ quote_closed r)

-- after an open brace stands the content of a word in braces, up to the matching brace; anything
-- may follow (expr(n), operands)
abbrev pub IsInBraces : Parts → List ℕ → Outcome → Type 0
IsInBraces ps x o =
    ((content rest value : List ℕ) × IsPaired x content rest × IsValue value content
    × (ps ≡ bytes_then value no_parts) × (o ≡ Ok rest)) ⊎
    (((content rest : List ℕ) → IsPaired x content rest → ⊥) × (ps ≡ no_parts)
    × (o ≡ Err open_brace))

-- one variable, element or script; a dollar without a name is none of them (expr(n), operands)
abbrev pub IsSubstitution : ℕ → Parts → Next → FormulaOutcome → Type 0
IsSubstitution d ps end o = (ps ≡ no_parts) × (o ≡ Err syntax)
IsSubstitution d ps (fault f) o = (ps ≡ no_parts) × (o ≡ Err (of_words f))
IsSubstitution d ps (a_byte b z) o = (ps ≡ no_parts) × (o ≡ Err syntax)
IsSubstitution d ps (a_name n z) o = (ps ≡ variable n no_parts) × (o ≡ Ok z)
IsSubstitution d ps (an_index n z) o =
    (is : Parts) × (r : Outcome) × IsParts within_index (d - 1) is z r
    × (ps ≡ element n is no_parts) × (o ≡ from_words (index_closed r))
IsSubstitution d ps (an_element n i z) o =
    (ps ≡ element n (bytes_then i no_parts) no_parts) × (o ≡ Ok z)
IsSubstitution d ps (a_bracket z) o =
    (cs : Commands) × (r : Outcome) × IsCommands bracketed (d - 1) cs z r
    × (ps ≡ script cs no_parts) × (o ≡ from_words (bracket_closed r))

-- a leaf: a numeral, a truth word, a text in quotes or braces, a substitution (expr(n), operands)
abbrev pub IsLeaf : ℕ → Formula → piece.Leaf → FormulaOutcome → Type 0
IsLeaf d f (piece.no_leaf e) o = (f ≡ nothing) × (o ≡ Err e)
IsLeaf d f (piece.a_numeral s z) o = (f ≡ numeral s) × (o ≡ Ok z)
IsLeaf d f (piece.a_word s z) o = (f ≡ text (bytes_then s no_parts)) × (o ≡ Ok z)
IsLeaf d f (piece.in_quotes z) o =
    (ps : Parts) × (f ≡ text ps) × (r : Outcome) × IsQuoted d ps z r × (o ≡ from_words r)
IsLeaf d f (piece.in_braces z) o =
    (ps : Parts) × (f ≡ text ps) × (r : Outcome) × IsInBraces ps z r × (o ≡ from_words r)
IsLeaf d f (piece.a_substitution z) o =
    (ps : Parts) × (f ≡ text ps) × IsSubstitution d ps (next_part d z) o

-- the operand is a leaf
abbrev pub IsLeafAt : ℕ → Formula → piece.Opening → FormulaOutcome → Type 0
IsLeafAt d f (piece.a_leaf l) o = IsLeaf d f l o
IsLeafAt d f (piece.a_prefix u z) o = ⊥
IsLeafAt d f (piece.a_parenthesis z) o = ⊥
IsLeafAt d f (piece.a_call g z) o = ⊥

-- the formula ends here, or the fault stands here
abbrev pub IsOver : piece.Following → FormulaOutcome → Type 0
IsOver (piece.end z) o = o ≡ Ok z
IsOver (piece.fault e) o = o ≡ Err e
IsOver (piece.an_infix i z) o = ⊥
IsOver (piece.a_choice z) o = ⊥

-- the text of further arguments, if the function takes any: abs takes one argument, min and max
-- take more (mathfunc(n))
abbrev pub takes_more : Function → List ℕ → Option (List ℕ)
takes_more Abs z = None
takes_more Min z = Some z
takes_more Max z = Some z

-- the text after the comma that follows an argument, if there is one and the function takes more
abbrev pub behind_comma : Function → FormulaOutcome → Option (List ℕ)
behind_comma g (Ok []) = None
behind_comma g (Ok (c ∷ z)) = if c == 44 then takes_more g z else None
behind_comma g (Err f) = None

-- Each says: reading the text x gives this syntax and the outcome o. After a formula the unread
-- text has no white space at its front. At most d more brackets, indexes, parentheses, calls,
-- prefixes and choices may be open. `nothing` stands for what is not read because of a fault.
abbrev mutual
  pub IsOperand : ℕ → Operand → List ℕ → FormulaOutcome → Type 0
  IsOperand d (leaf f) x o = IsLeafAt d f (piece.opening d x) o
  IsOperand d (prefixed u a) x o =
      (z : List ℕ) × (piece.opening d x ≡ piece.a_prefix u z) × IsOperand (d - 1) a z o
  IsOperand d (enclosed w) x o =
      (z : List ℕ) × (piece.opening d x ≡ piece.a_parenthesis z) × (r : FormulaOutcome)
      × IsWhole (d - 1) w z r × (o ≡ closed 41 r)
  IsOperand d (called g args) x o =
      (z : List ℕ) × (piece.opening d x ≡ piece.a_call g z) × IsArguments (d - 1) g args z o

  pub IsWhole : ℕ → Whole → List ℕ → FormulaOutcome → Type 0
  IsWhole d (whole a rest) x o =
      (r : FormulaOutcome) × IsOperand d a x r
      × Goes r (rest ≡ over) (λ z. IsRest d rest z o) o

  pub IsRest : ℕ → Rest → List ℕ → FormulaOutcome → Type 0
  IsRest d over x o = IsOver (piece.following d x) o
  IsRest d (joined i a rest) x o =
      (z : List ℕ) × (piece.following d x ≡ piece.an_infix i z) × (r : FormulaOutcome)
      × IsOperand d a z r × Goes r (rest ≡ over) (λ y. IsRest d rest y o) o
  IsRest d (chosen v w) x o =
      (z : List ℕ) × (piece.following d x ≡ piece.a_choice z) × (r : FormulaOutcome)
      × IsWhole (d - 1) v z r
      × Goes (closed 58 r) (w ≡ nothing_whole) (λ y. IsWhole (d - 1) w y o) o

  pub IsArguments : ℕ → Function → Arguments → List ℕ → FormulaOutcome → Type 0
  IsArguments d g (last w) x o =
      (r : FormulaOutcome) × IsWhole d w x r × (behind_comma g r ≡ None) × (o ≡ closed 41 r)
  IsArguments d g (further w args) x o =
      (r : FormulaOutcome) × IsWhole d w x r
      × (z : List ℕ) × (behind_comma g r ≡ Some z) × IsArguments d g args z o

-- after a whole formula the text ends
abbrev pub ended : FormulaOutcome → FormulaOutcome
ended (Ok []) = Ok []
ended (Ok (c ∷ z)) = Err syntax
ended (Err f) = Err f

-- The text is this formula, or has the fault; at most 100 brackets, indexes, parentheses, calls,
-- prefixes and choices are open at one place (this project's own rule).
abbrev pub IsFormula : Result Formula FormulaFault → List ℕ → Type 0
IsFormula (Ok f) x = (w : Whole) × IsWhole 100 w x (Ok []) × (f ≡ whole_tree w)
IsFormula (Err e) x =
    (w : Whole) × (r : FormulaOutcome) × IsWhole 100 w x r × (ended r ≡ Err e)
