-- What catch does.
use Rattle.std.specs.Prelude.{ℕ, List, [], ◌∷◌, codes, decimal, Option, Some, None}
use Rattle.state.specs.Prelude.{Ends, Course, gives, raises, within, Outcome, Gives, Leaves, Stops, Code, Error, Return, Break, Continue, Again, AgainRunning, Status}
use Rattle.acts.specs.Flaw as flaw
use Rattle.state.specs.Variables.{with_name, writes}

-- the number of a code (catch(n); expect(1), exp_continue)
abbrev pub number_of : Code → ℕ
number_of Error = 1
number_of Return = 2
number_of Break = 3
number_of Continue = 4
number_of Again = 5
number_of AgainRunning = 5

-- the value is a code's number, after the value that came with the code is stored, if there is a
-- variable (catch(n))
abbrev pub stores_in : Option (List ℕ) → ℕ → List ℕ → Status → Course
stores_in None number value s = gives (decimal number) s
stores_in (Some word) number value s =
    with_name word s (λ name index. writes name index value s (gives (decimal number)))

-- whatever a script may end with is caught, except a stop (catch(n))
abbrev pub caught : Option (List ℕ) → Status → Outcome → Course
caught word s (Gives value) = stores_in word 0 value s
caught word s (Leaves code value) = stores_in word (number_of code) value s
caught word s (Stops stop) = Ends (s, Stops stop)

-- a script runs whose outcome a variable takes (catch(n))
abbrev pub runs_into : List ℕ → ℕ → List ℕ → Status → Course
runs_into word levels text s =
    with_name word s (λ name index. within levels text s (caught (Some word)))

-- catch s ?n? (catch(n))
abbrev pub catch : ℕ → List (List ℕ) → Status → Course
catch levels (text ∷ []) s = within levels text s (caught None)
catch levels (text ∷ word ∷ []) s = runs_into word levels text s
catch levels _ s = raises (flaw.WrongArgs (codes "catch")) s
