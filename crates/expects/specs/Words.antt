-- The three commands that take branches (expect(1), expect, expect_before and expect_after).
use Rattle.std.specs.Prelude.{ℕ, Bool, true, false, List, codes, Option, Some, None, if◌then◌else◌}
use Rattle.std.specs.Str.{bytes_eq}
use Rattle.dialog.specs.declared.standing.Side.{Side}
use Rattle.dialog.specs.declared.standing.Side.TheVariants.{Before, After}

-- expect, which chooses among its branches, or a command whose branches stand on a side, before or
-- after those of each expect
pub data Form : Type 0 where
  Waits : Form
  Stands : (side : Side) → Form

-- the command of that name, if it is one of the three
abbrev pub named : List ℕ → Option Form
named name =
    if bytes_eq name (codes "expect") then Some Waits
    else if bytes_eq name (codes "expect_before") then Some (Stands Before)
    else if bytes_eq name (codes "expect_after") then Some (Stands After)
    else None

-- whether the branches of the command stand
abbrev pub stands : Form → Bool
stands Waits = false
stands (Stands side) = true
