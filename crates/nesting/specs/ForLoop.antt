-- What the command for does.
use Rattle.std.specs.Prelude.{ℕ, List, [], ◌∷◌, codes, Some}
use Rattle.state.specs.Prelude.{Reads, Course, on_value, raises, within, ScriptText, Status}
use Rattle.acts.specs.Flaw as flaw
use Rattle.nesting.specs.Formulas.{with_formula}
use Rattle.nesting.specs.Loop.{again}
use Rattle.tclparse.specs.Formula.{Formula}

-- the loop with this test; its scripts too are read once (for(n))
abbrev pub looped : ℕ → List ℕ → List ℕ → Status → Formula → Course
looped levels step body s test =
    Reads (ScriptText step) (λ behind. Reads (ScriptText body) (λ tree.
    again (record { test = test; body = tree; step = Some behind }) levels s))

-- the loop after its start, whose value is ignored: the test is read once (for(n))
abbrev pub started : ℕ → List ℕ → List ℕ → List ℕ → Status → List ℕ → Course
started levels test step body s value = with_formula test s (looped levels step body s)

-- for start test step body; whatever start leaves with is passed on, break and continue too
-- (for(n))
abbrev pub for_loop : ℕ → List (List ℕ) → Status → Course
for_loop levels (start ∷ test ∷ step ∷ body ∷ []) s =
    within levels start s (on_value (started levels test step body))
for_loop levels _ s = raises (flaw.WrongArgs (codes "for")) s
