-- What the command if does.
use Rattle.std.specs.Prelude.{ℕ, List, [], ◌∷◌, codes, Bool, Option, Some, None, if◌then◌else◌}
use Rattle.state.specs.Prelude.{Ends, Course, gives, raises, within, Outcome, Status}
use Rattle.acts.specs.Flaw as flaw
use Rattle.code.specs.Branches.{Branch, Branches, branches}
use Rattle.nesting.specs.Formulas.{with_formula}
use Rattle.state.specs.Evaluated.{tested}

-- the outcome of a body is that of the command if (if(n))
abbrev pub passes : Status → Outcome → Course
passes s o = Ends (s, o)

-- the last body, if there is one, where no test held (if(n))
abbrev pub last : ℕ → Option (List ℕ) → Status → Course
last levels None s = gives [] s
last levels (Some body) s = within levels body s passes

-- the body after the first test that holds; the tests after it are not read (if(n))
abbrev pub chooses : ℕ → List Branch → Option (List ℕ) → Status → Course
chooses levels [] otherwise s = last levels otherwise s
chooses levels (branch ∷ more) otherwise s =
    with_formula branch.test s (λ formula. tested levels formula s (λ t holds.
    if holds then within levels branch.body t passes else chooses levels more otherwise t))

-- the body where its test holds, or else what follows it (if(n))
abbrev pub chosen : ℕ → List ℕ → List Branch → Option (List ℕ) → Status → Bool → Course
chosen levels body more otherwise s holds =
    if holds then within levels body s passes else chooses levels more otherwise s

-- the first test that holds is looked for, where the words make branches; otherwise the command if
-- raises its error (if(n))
abbrev pub on_branches : ℕ → Option Branches → Status → Course
on_branches levels None s = raises (flaw.WrongArgs (codes "if")) s
on_branches levels (Some found) s = chooses levels found.tests found.otherwise s

-- if test ?then? body ?elseif test ?then? body ..? ?else? ?body? (if(n))
abbrev pub conditional : ℕ → List (List ℕ) → Status → Course
conditional levels args s = on_branches levels (branches args) s
