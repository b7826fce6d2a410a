-- Where the run of a code stands, and the result of an instruction.
use Rattle.std.specs.Prelude.{ℕ, List, [], ◌∷◌}
use Rattle.state.specs.Piece.{Text, Tree}
use Rattle.state.specs.Prelude.{Outcome, Status}
use Rattle.steps.specs.declared.handler.Covered.{Covered}

-- what is open that an outcome may lead out of: what that is; the place after the loop, or after
-- the script of the catch; and how many operands, marks and levels there are outside of it
-- (while(n), for(n), catch(n))
pub record Handler : Type 0 where
  pub covers : Covered
  pub over : ℕ
  pub operands : ℕ
  pub marks : ℕ
  pub levels : ℕ

-- the place of the next instruction; the operands, the top one first; of each command whose words
-- are counted, how many operands stand below its words, and of each foreach how many below its
-- elements, the innermost first; the levels that may still nest; and the handlers of what is open,
-- the innermost first (this project's own rule)
pub record Spot : Type 0 where
  pub place : ℕ
  pub operands : List (List ℕ)
  pub marks : List ℕ
  pub levels : ℕ
  pub handlers : List Handler

-- an instruction leads on; it leads on by what a text is read as; a command begins by its words,
-- whose value is to be put on top; or its branches are given by its name and the words of an
-- argument in braces; or the script of a text runs, within which so many levels may nest, or a text
-- is evaluated as a formula, and that value is to be put on top; the code is over; or an operand is
-- missing (this project's own rule)
pub data Did : Type 0 where
  Went : (spot : Spot) (s : Status) → Did
  Reads : (text : Text) → (Tree text → Did) → Did
  Begins : (words : List (List ℕ)) (spot : Spot) (s : Status) → Did
  Says : (words : List (List ℕ)) (spot : Spot) (s : Status) → Did
  Runs : (text : List ℕ) (levels : ℕ) (spot : Spot) (s : Status) → Did
  Evaluates : (text : List ℕ) (spot : Spot) (s : Status) → Did
  Over : (outcome : Outcome) (s : Status) → Did
  Stuck : Did

-- the same with a value on top
abbrev pub with_top : List ℕ → Spot → Spot
with_top value spot = record spot { operands = value ∷ spot.operands }

-- where a code begins: the empty text, which is the value of a script without commands, is on top
abbrev pub beginning_at : ℕ → Spot
beginning_at levels = record {
  place = 0;
  operands = [] ∷ [];
  marks = [];
  levels = levels;
  handlers = [];
}
