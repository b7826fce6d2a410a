-- Runs that were sought and not found.
use Rattle.std.specs.Prelude.{ℕ, ◌-◌, List}
use Rattle.std.specs.List.{AllByRecursion}
use Rattle.searches.specs.Lead.{run_of}
use Rattle.searches.specs.declared.vain.Vain.{Vain}
use Rattle.patterns.specs.Passed.{Passed}

-- Each run begins nowhere before its place, whatever follows the bytes; the places are counted
-- with the bytes that are gone from the front (this project's own rule).
abbrev pub ArePassed : {A : Type 0} → ℕ → List ℕ → List (Vain A) → Type 0
ArePassed gone bytes vains =
    AllByRecursion (λ vain. Passed (run_of vain.key) bytes (vain.from - gone)) vains
