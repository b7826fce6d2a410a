-- The result of an instruction once texts are read, and the result of several instructions.
use Rattle.std.specs.Prelude.{List, slice_get}
use Rattle.code.specs.declared.instruction.Instruction.{Instruction}
use Rattle.state.specs.Piece.{Text, Tree}
use Rattle.state.specs.Prelude.{IsTree, Status}
use Rattle.steps.specs.Machine.{machine}
use Rattle.steps.specs.Spot.{Spot, Did, Went, Reads}

-- the first result is the second one, once some texts are read as what they are (this project's
-- own rule)
pub data Does : Did → Did → Type 0 where
  same : {did : Did} → Does did did
  reads : {text : Text} (tree : Tree text) {next : Tree text → Did} {did : Did} →
      IsTree text tree → Does (next tree) did → Does (Reads text next) did

-- this is the result of some instructions, one after the other, from a spot on (this project's own
-- rule)
pub data Arrives {A : Type 0} (code : List (Instruction A)) (from : Spot) (s : Status) :
    Did → Type 0 where
  stays : Arrives code from s (Went from s)
  then : {spot : Spot} {t : Status} {did : Did} → Arrives code from s (Went spot t) →
      Does (machine (slice_get code spot.place) spot t) did → Arrives code from s did
