-- The result of a function of texts: of a command that is a function of its words, or of an
-- operator of a formula.
use Rattle.std.specs.Prelude.{◌≡◌, ◌↔◌, ℕ, List, codes, Bool, if◌then◌else◌, IsTrue, Result, Ok, Err, MatchResult}
use Rattle.acts.specs.Flaw.{Flaw}
use Rattle.acts.specs.Flaw as flaw
use Rattle.tcltext.specs.Elements.{IsList, HasFlaw}
use Rattle.tcltext.specs.Flaw as list
use Rattle.patterns.specs.Item.{Item}
use Rattle.patterns.specs.Match.{Whole}

-- a value; an error; what follows the elements of a text that is read as a list; what follows the
-- test whether a pattern matches a text (Tcl(n), rule 2; expr(n))
pub data Meaning : Type 0 where
  Gives : (value : List ℕ) → Meaning
  Raises : (flaw : Flaw) → Meaning
  Splits : (text : List ℕ) → (List (List ℕ) → Meaning) → Meaning
  Matches : (pattern : List Item) → (text : List ℕ) → (Bool → Meaning) → Meaning

-- the value, or the error (Tcl(n), rule 2; expr(n))
abbrev pub Answer : Type 0
Answer = Result (List ℕ) Flaw

-- the text of the result of a test (string(n), equal)
abbrev pub truth : Bool → List ℕ
truth holds = if holds then codes "1" else codes "0"

-- why a text is not a list, as the script's error (Tcl_SplitList(3))
abbrev pub flaw_of_list : list.Flaw → Flaw
flaw_of_list list.open_brace = flaw.ListOpenBrace
flaw_of_list list.open_quote = flaw.ListOpenQuote
flaw_of_list list.after_brace = flaw.ListAfterBrace
flaw_of_list list.after_quote = flaw.ListAfterQuote
flaw_of_list list.escape_not_here = flaw.EscapeNotHere

-- the text is this list, or it is not a list, for this reason (Tcl_SplitList(3))
abbrev pub IsSplit : List ℕ → Result (List (List ℕ)) list.Flaw → Type 0
IsSplit text (Ok elements) = IsList elements text
IsSplit text (Err why) = HasFlaw why text

-- the answer that a meaning yields: where a text is not a list, the reason is the error
-- (Tcl_SplitList(3); string(n), match)
abbrev pub Comes : Meaning → Answer → Type 0
Comes (Gives value) answer = answer ≡ Ok value
Comes (Raises flaw) answer = answer ≡ Err flaw
Comes (Splits text next) answer =
    (split : Result (List (List ℕ)) list.Flaw) × IsSplit text split ×
    MatchResult split (λ elements. Comes (next elements) answer)
    (λ why. answer ≡ Err (flaw_of_list why))
Comes (Matches pattern text next) answer =
    (takes : Bool) × (IsTrue takes ↔ Whole pattern text) × Comes (next takes) answer
