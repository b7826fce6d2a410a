-- Silent steps: what a dialogue does before its next command.
use Rattle.plan.specs.Plan.{Calls, Reads, and_then, onward}
use Rattle.runs.specs.Scripts.{plan_of}
use Rattle.state.specs.Piece.{Piece, Text, Tree}
use Rattle.state.specs.Prelude.{Dialogue, IsTree, Outcome, Status}

-- the first dialogue continues as the second, once some pieces have begun and some texts are read
-- (this project's own rule)
pub data Goes {X : Type 0} : Dialogue X → Dialogue X → Type 0 where
  here : {p : Dialogue X} → Goes p p
  calls : {piece : Piece} {s : Status} {next : Status → Outcome → Dialogue X} {q : Dialogue X} →
      Goes (and_then (plan_of piece s) (onward next)) q → Goes (Calls piece s next) q
  reads : {text : Text} (tree : Tree text) {next : Tree text → Dialogue X} {q : Dialogue X} →
      IsTree text tree → Goes (next tree) q → Goes (Reads text next) q
