-- Courses that are equal once some texts are read.
use Rattle.plan.specs.Plan.{Reads}
use Rattle.state.specs.Dialogue.{Course}
use Rattle.state.specs.Piece.{Text, Tree, IsTree}

-- the first course goes on as the second, once some texts are read as trees that these texts have
-- (this project's own rule)
pub data Reaches : Course → Course → Type 0 where
  here : {p : Course} → Reaches p p
  reads : {text : Text} (tree : Tree text) {next : Tree text → Course} {q : Course} →
      IsTree text tree → Reaches (next tree) q → Reaches (Reads text next) q
