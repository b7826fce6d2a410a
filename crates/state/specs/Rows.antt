-- Waits of which each row says that its buffer holds at most its size.
use Rattle.std.specs.Prelude.{◌≤◌, List, [], ◌∷◌, sum_by}
use Rattle.acts.specs.declared.row.Row.{Row}
use Rattle.acts.specs.Deed.{Deed}
use Rattle.acts.specs.Deed as said

-- each row says that its buffer holds at most its size
abbrev pub RowsHold : List Row → Type 0
RowsHold [] = Unit {0}
RowsHold (row ∷ rows) = (row.held ≤ row.max) × RowsHold rows

-- each row of a wait says that its buffer holds at most its size (expect(1), match_max)
abbrev pub Holds : Deed → Type 0
Holds (said.Wait rows timer) = RowsHold rows
Holds _ = Unit {0}

-- the rows of a wait together hold at most the sum of their sizes (expect(1), match_max)
abbrev pub HoldTogether : Deed → Type 0
HoldTogether (said.Wait rows timer) = sum_by (λ r. r.held) rows ≤ sum_by (λ r. r.max) rows
HoldTogether _ = Unit {0}
