-- How an element outside braces is spelled (Tcl_SplitList(3)).
use Rattle.std.specs.Prelude.{ℕ, ◌==◌, ◌||◌, Bool}
use Rattle.tcltext.specs.White.{is_white}

-- A bare element goes up to white, one in quotes up to the next quote (Tcl_SplitList(3)).
pub data Style : Type 0 where
  up_to_white : Style
  up_to_quote : Style

-- The bytes at which an element of this style ends (Tcl_SplitList(3)).
abbrev pub stops : Style → ℕ → Bool
stops up_to_white c = is_white c
stops up_to_quote c = c == 34

-- The bytes before which a bare element stands as it is: white, which ends it, and the backslash,
-- with which an escape begins (Tcl_SplitList(3)).
abbrev pub ends_plain : ℕ → Bool
ends_plain c = is_white c || (c == 92)
