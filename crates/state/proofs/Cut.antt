-- Courses that answers cut off.
use Rattle.std.proofs.Common.{ℕ, ◌+◌, ◌-◌}
use Rattle.plan.specs.Last.{Closes}
use Rattle.state.specs.Prelude.{Ends, Asks, Reads, Calls, Behaves, worth, Course, IsTree}
use Rattle.state.specs.Budget.{budget, left_after}
use Rattle.state.specs.Cut.{CutsOff, WasCut}
use Rattle.state.specs.Proceeds.{Proceeds}
use Rattle.state.proofs.Judged.{passes_cut}

-- answers that cut a course off end it
abbrev pub CourseCloses : Course → Type 0
CourseCloses c = Closes IsTree CutsOff WasCut (λ left. WasCut left.1) c

-- an answer that cuts off a course that behaves ends it
pub behaves_closes : (t had : ℕ) (c : Course) → Behaves t had c → CourseCloses c
behaves_closes t had (Ends left) behaves = tt
behaves_closes t had (Asks deed next) behaves =
    λ reply. (behaves_closes t (had - 1) (next reply) (behaves.2 reply), behaves.3 reply)
behaves_closes t had (Reads text next) behaves =
    λ tree is. behaves_closes t had (next tree) (behaves tree is)
behaves_closes t had (Calls piece state next) behaves = absurd behaves

-- the same of a course that proceeds
pub proceeds_closes : (most had : ℕ) (c : Course) → Proceeds most had c → CourseCloses c
proceeds_closes most had (Ends left) proceeds = tt
proceeds_closes most had (Asks deed next) proceeds =
    λ reply. (proceeds_closes most (had - 1) (next reply) (proceeds.2 reply), proceeds.3 reply)
proceeds_closes most had (Reads text next) proceeds =
    λ tree is. proceeds_closes most had (next tree) (proceeds tree is)
proceeds_closes most had (Calls piece state next) proceeds = λ left outcome. (
  proceeds_closes (most + (left_after left outcome - budget piece state))
      (worth left + (had - worth state)) (next left outcome) (proceeds.2 left outcome),
  passes_cut next proceeds.3 left outcome,
)
