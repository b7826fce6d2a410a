-- Courses that proceed, and what the laws of all runs ask of them.
use Rattle.std.proofs.Common.{◌≡◌, ℕ, ◌+◌, ◌-◌, ◌≤◌, subst, arith}
use Rattle.state.specs.Prelude.{Reply, Ends, Asks, Reads, Calls, worth, Course, IsTree, Status}
use Rattle.plan.specs.Finished.{Falls}
use Rattle.plan.specs.Kept.{Keeps}
use Rattle.plan.specs.Paid.{Pays}
use Rattle.state.specs.Budget.{budget, left_after}
use Rattle.state.specs.Piece.{Piece}
use Rattle.state.specs.Proceeds.{Proceeds}
use Rattle.state.specs.Rows.{Holds}

-- a course that proceeds does so with more to leave and with more to pay with, too
pub more_proceeds : (most had more higher : ℕ) (c : Course) → most ≤ more → had ≤ higher →
    Proceeds most had c → Proceeds more higher c
more_proceeds most had more higher (Ends left) le up proceeds =
    let within = proceeds.0 in
    let kept = proceeds.1 in
    (omega (arith, within), omega (arith, kept))
more_proceeds most had more higher (Asks deed next) le up proceeds =
    let one = proceeds.0 in (
      omega (arith, one),
      proceeds.1,
      λ reply. more_proceeds most (had - 1) more (higher - 1) (next reply) le (omega arith)
          (proceeds.2 reply),
      proceeds.3,
    )
more_proceeds most had more higher (Reads text next) le up proceeds =
    λ tree is. more_proceeds most had more higher (next tree) le up (proceeds tree is)
more_proceeds most had more higher (Calls piece state next) le up proceeds =
    let below = proceeds.0 in
    let paid = proceeds.1 in (
      omega (arith, below),
      omega (arith, paid),
      λ left outcome.
          more_proceeds (most + (left_after left outcome - budget piece state))
          (worth left + (had - worth state)) (more + (left_after left outcome - budget piece state))
          (worth left + (higher - worth state)) (next left outcome) (omega arith) (omega arith)
          (proceeds.2 left outcome),
      proceeds.3,
    )

-- the calls of a course that proceeds fall, whatever the ranks of the pieces are
pub proceeds_falls : (rank : Piece → ℕ) (last : Reply) (r most had : ℕ) (c : Course) →
    Proceeds most had c → Falls IsTree budget left_after rank last most r c
proceeds_falls rank last r most had (Ends left) proceeds = proceeds.0
proceeds_falls rank last r most had (Asks deed next) proceeds =
    proceeds_falls rank last r most (had - 1) (next last) (proceeds.2 last)
proceeds_falls rank last r most had (Reads text next) proceeds =
    λ tree is. proceeds_falls rank last r most had (next tree) (proceeds tree is)
proceeds_falls rank last r most had (Calls piece state next) proceeds =
    let below = proceeds.0 in (
      omega (arith, below),
      λ same. absurd (omega (arith, below, same)),
      λ left outcome less.
          let extra : left_after left outcome - budget piece state ≡ 0 = omega (arith, less) in
          let same : most + (left_after left outcome - budget piece state) ≡ most =
          omega (arith, extra) in
          subst (λ m. Falls IsTree budget left_after rank last m r (next left outcome)) same
          (proceeds_falls rank last r (most + (left_after left outcome - budget piece state))
          (worth left + (had - worth state)) (next left outcome) (proceeds.2 left outcome)),
    )

-- a course that proceeds pays for its acts
pub proceeds_pays : (most had : ℕ) (c : Course) → Proceeds most had c →
    Pays IsTree (λ (piece : Piece) state. worth state) worth (λ left. worth left.0) had c
proceeds_pays most had (Ends left) proceeds = proceeds.1
proceeds_pays most had (Asks deed next) proceeds =
    (proceeds.0, λ reply. proceeds_pays most (had - 1) (next reply) (proceeds.2 reply))
proceeds_pays most had (Reads text next) proceeds =
    λ tree is. proceeds_pays most had (next tree) (proceeds tree is)
proceeds_pays most had (Calls piece state next) proceeds = (
  proceeds.1,
  λ left outcome less.
      proceeds_pays (most + (left_after left outcome - budget piece state))
      (worth left + (had - worth state)) (next left outcome) (proceeds.2 left outcome),
)

-- the waits of a course that proceeds hold
pub proceeds_keeps : (most had : ℕ) (c : Course) → Proceeds most had c →
    Keeps IsTree (λ (s : Status). Unit {0}) Holds (λ left. Unit {0}) c
proceeds_keeps most had (Ends left) proceeds = tt
proceeds_keeps most had (Asks deed next) proceeds =
    (proceeds.1, λ reply. proceeds_keeps most (had - 1) (next reply) (proceeds.2 reply))
proceeds_keeps most had (Reads text next) proceeds =
    λ tree is. proceeds_keeps most had (next tree) (proceeds tree is)
proceeds_keeps most had (Calls piece state next) proceeds = (
  tt,
  λ left outcome kept.
      proceeds_keeps (most + (left_after left outcome - budget piece state))
      (worth left + (had - worth state)) (next left outcome) (proceeds.2 left outcome),
)
