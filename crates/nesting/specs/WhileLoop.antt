-- What the command while does.
use Rattle.std.specs.Prelude.{ℕ, List, [], ◌∷◌, codes, None}
use Rattle.state.specs.Prelude.{Reads, Course, raises, ScriptText, Status}
use Rattle.acts.specs.Flaw as flaw
use Rattle.nesting.specs.Formulas.{with_formula}
use Rattle.nesting.specs.Loop.{again}
use Rattle.tclparse.specs.Formula.{Formula}

-- the loop with this test; its body too is read once (while(n))
abbrev pub looped : ℕ → List ℕ → Status → Formula → Course
looped levels body s test =
    Reads (ScriptText body) (λ tree.
    again (record { test = test; body = tree; step = None }) levels s)

-- while test body: the test is read once (while(n))
abbrev pub while_loop : ℕ → List (List ℕ) → Status → Course
while_loop levels (test ∷ body ∷ []) s = with_formula test s (looped levels body s)
while_loop levels _ s = raises (flaw.WrongArgs (codes "while")) s
