-- A whole run from its beginning.
use Rattle.std.proofs.Common.{ℕ, List, arith}
use Rattle.plan.specs.Kept.{Keeps}
use Rattle.plan.specs.Paid.{Pays}
use Rattle.runs.specs.Bounds.{most_acts}
use Rattle.runs.specs.Ending.{Over}
use Rattle.runs.specs.Run.{whole}
use Rattle.runs.proofs.Paid.{price, closing_pays}
use Rattle.runs.proofs.Kept.{AnyState, closing_keeps}
use Rattle.state.specs.Prelude.{worth, IsTree}
use Rattle.state.specs.Rows.{Holds}

pub whole_pays : (text : List ℕ) (args : List (List ℕ)) (limit : ℕ) →
    Pays IsTree price worth (λ (o : Over). 0) (most_acts limit) (whole text args limit)
whole_pays text args limit = λ tree is. (
  omega arith,
  λ left outcome less. closing_pays left outcome _ (omega (arith, less)),
)

pub whole_keeps : (text : List ℕ) (args : List (List ℕ)) (limit : ℕ) →
    Keeps IsTree AnyState Holds (λ (o : Over). Unit {0}) (whole text args limit)
whole_keeps text args limit =
    λ tree is. (tt, λ left outcome kept. closing_keeps left outcome)
