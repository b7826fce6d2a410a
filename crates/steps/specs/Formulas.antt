-- What the instructions of formulas do.
use Rattle.std.specs.Prelude.{ℕ, List, ◌∷◌, Bool, true, false, Result, Ok, Err, reverse, take, drop, if◌then◌else◌}
use Rattle.state.specs.Evaluated.{told}
use Rattle.meanings.specs.Meaning.{Meaning, Gives, Raises, Splits, Matches, flaw_of_list, truth}
use Rattle.operators.specs.Binary.{binary}
use Rattle.operators.specs.Function as function
use Rattle.operators.specs.Truth.{truth_of}
use Rattle.operators.specs.Unary.{unary}
use Rattle.operators.specs.Value.{result, written}
use Rattle.state.specs.Piece.{ListText, TestText}
use Rattle.state.specs.Prelude.{Flaw, Status}
use Rattle.steps.specs.Handling.{fails}
use Rattle.steps.specs.Moves.{jumping, on_top, with_operands}
use Rattle.steps.specs.Spot.{Spot, Did, Went, Reads, with_top}
use Rattle.tclparse.specs.declared.operator.Binary.{Binary}
use Rattle.tclparse.specs.declared.operator.Function.{Function}
use Rattle.tclparse.specs.declared.operator.Unary.{Unary}
use Rattle.tcltext.specs.Flaw as list

-- goes on with the elements of a list, or fails with the error that it is none (Tcl_SplitList(3))
abbrev pub on_split : Spot → Status → (List (List ℕ) → Did) → Result (List (List ℕ)) list.Flaw →
    Did
on_split spot s next (Ok elements) = next elements
on_split spot s next (Err why) = fails (flaw_of_list why) spot s

-- goes on with the value of a function of texts, or fails with its error (expr(n))
abbrev pub on_meaning : Meaning → Spot → Status → (List ℕ → Did) → Did
on_meaning (Gives value) spot s next = next value
on_meaning (Raises flaw) spot s next = fails flaw spot s
on_meaning (Splits text more) spot s next =
    Reads (ListText text) (on_split spot s (λ elements. on_meaning (more elements) spot s next))
on_meaning (Matches pattern text more) spot s next =
    Reads (TestText pattern text) (λ takes. on_meaning (more takes) spot s next)

-- goes on with a truth value, or fails with the error that there is none (expr(n), operands)
abbrev pub on_truth : Result Bool Flaw → Spot → Status → (Bool → Did) → Did
on_truth (Ok holds) spot s next = next holds
on_truth (Err flaw) spot s next = fails flaw spot s

-- the value is put on top (expr(n))
abbrev pub gives : Meaning → Spot → Status → Did
gives meaning spot s = on_meaning meaning spot s (λ value. Went (with_top value spot) s)

-- the value of a numeral (expr(n), operands)
abbrev pub putting : List ℕ → Spot → Status → Did
putting digits spot s = gives (written digits) spot s

-- an operator before its operand (expr(n), operators)
abbrev pub prefixing : Unary → Spot → Status → Did
prefixing operator spot s =
    on_top spot.operands (λ value below.
    gives (unary operator value) (with_operands below spot) s)

-- an operator between two operands (expr(n), operators)
abbrev pub joining_both : Binary → Spot → Status → Did
joining_both operator spot s =
    on_top spot.operands (λ right more. on_top more (λ left below.
    gives (binary operator left right) (with_operands below spot) s))

-- a function of all operands above the lowest ones, which are this many (mathfunc(n))
abbrev pub calling : Function → ℕ → Spot → Status → Did
calling f below spot s =
    let all = reverse spot.operands in
    gives (function.call f (drop below all)) (with_operands (reverse (take below all)) spot) s

-- the truth value of an operand as 0 or 1 (expr(n), operators)
abbrev pub telling : Spot → Status → Did
telling spot s =
    on_top spot.operands (λ value below.
    gives (told (truth_of value)) (with_operands below spot) s)

-- the value of a formula is what expr gives: a number in decimal, all else as it stands (expr(n))
abbrev pub resulting : Spot → Status → Did
resulting spot s =
    on_top spot.operands (λ value below. Went (with_operands (result value ∷ below) spot) s)

-- where the left operand has the truth value that decides, that is the operator's value and the
-- place is next (expr(n), operators)
abbrev pub deciding : Bool → Bool → ℕ → Spot → Status → Did
deciding true true place spot s = jumping place (with_top (truth true) spot) s
deciding true false place spot s = Went spot s
deciding false true place spot s = Went spot s
deciding false false place spot s = jumping place (with_top (truth false) spot) s

-- after a left operand of this truth value the operator has its value, else the right operand is
-- evaluated (expr(n), operators)
abbrev pub choosing : ℕ → Bool → Spot → Status → Did
choosing place known spot s =
    on_top spot.operands (λ value below.
    on_truth (truth_of value) (with_operands below spot) s (λ holds.
    deciding known holds place (with_operands below spot) s))

-- where the truth value on top is false, this place is next (expr(n), operators)
abbrev pub unless : ℕ → Spot → Status → Did
unless place spot s =
    on_top spot.operands (λ value below.
    on_truth (truth_of value) (with_operands below spot) s (λ holds.
    if holds then Went (with_operands below spot) s
    else jumping place (with_operands below spot) s))
