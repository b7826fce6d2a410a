-- What if, while, for and catch do, once their words are read.
use Rattle.std.specs.Prelude.{ℕ, List, [], ◌∷◌, codes, Option, Some, None, Result, Ok, Err}
use Rattle.acts.specs.Flaw as flaw
use Rattle.acts.specs.Flaw.{Flaw}
use Rattle.acts.specs.Raise.{bind}
use Rattle.code.specs.Branches.{Branches, branches}
use Rattle.code.specs.Doing.{Doing, If, While, For, Catch}
use Rattle.nesting.specs.Catch.{caught}
use Rattle.nesting.specs.Conditional.{chooses}
use Rattle.nesting.specs.ForLoop.{for_loop}
use Rattle.nesting.specs.WhileLoop.{while_loop}
use Rattle.state.specs.Prelude.{Course, raises, within, Status}
use Rattle.tclparse.specs.Variable.{named}

-- what is done (if(n); while(n); for(n); catch(n))
abbrev pub done : Doing → ℕ → Status → Course
done (If found) levels s = chooses levels found.tests found.otherwise s
done (While test body) levels s = while_loop levels (test ∷ body ∷ []) s
done (For start test step body) levels s =
    for_loop levels (start ∷ test ∷ step ∷ body ∷ []) s
done (Catch body variable) levels s = within levels body s (caught variable)

-- what is done by what the words are read as, or the error of these
abbrev pub done_by : ℕ → Status → Result Doing Flaw → Course
done_by levels s (Ok doing) = done doing levels s
done_by levels s (Err why) = raises why s

-- the words after if (if(n))
abbrev pub on_branches : Option Branches → Result Doing Flaw
on_branches None = Err (flaw.WrongArgs (codes "if"))
on_branches (Some found) = Ok (If found)

abbrev pub if_words : List (List ℕ) → Result Doing Flaw
if_words args = on_branches (branches args)

-- the words after while (while(n))
abbrev pub while_words : List (List ℕ) → Result Doing Flaw
while_words (test ∷ body ∷ []) = Ok (While test body)
while_words _ = Err (flaw.WrongArgs (codes "while"))

-- the words after for (for(n))
abbrev pub for_words : List (List ℕ) → Result Doing Flaw
for_words (start ∷ test ∷ step ∷ body ∷ []) = Ok (For start test step body)
for_words _ = Err (flaw.WrongArgs (codes "for"))

-- the word, where it names a variable (set(n))
abbrev pub on_taker : List ℕ → Option (List ℕ × Option (List ℕ)) → Result (List ℕ) Flaw
on_taker word None = Err flaw.BadVariable
on_taker word (Some name) = Ok word

abbrev pub taker_of : List ℕ → Result (List ℕ) Flaw
taker_of word = on_taker word (named word)

-- the words after catch; one that names no variable is refused before the script runs (catch(n))
abbrev pub catch_words : List (List ℕ) → Result Doing Flaw
catch_words (body ∷ []) = Ok (Catch body None)
catch_words (body ∷ word ∷ []) = bind (taker_of word) (λ name. Ok (Catch body (Some name)))
catch_words _ = Err (flaw.WrongArgs (codes "catch"))
