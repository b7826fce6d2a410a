-- What a pattern is: its items, and where it is tied to the window.
use Rattle.std.specs.Prelude.{ℕ, List, Bool}

-- What one item of a pattern takes: that byte, any one byte, one byte of a set, any run of bytes
-- (string(n), match).
pub data Item : Type 0 where
  literal : ℕ → Item
  any_byte : Item
  one_of : List ℕ → Item
  any_run : Item

-- A pattern as read: its items, whether it is tied to the window's beginning and to its end
-- (expect(1), "^" and "$"), and whether it folds the window's letters (expect(1), -nocase).
pub record Reading : Type 0 where
  pub items : List Item
  pub at_start : Bool
  pub at_end : Bool
  pub folds : Bool
