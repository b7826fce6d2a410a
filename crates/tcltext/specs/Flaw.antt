-- Why a text is no list (Tcl_SplitList(3)).

-- An open brace or quote that nothing closes, a byte other than white space right after a closing
-- one, or an escape that this profile leaves out (Tcl_SplitList(3); the escape is this project's
-- own rule).
pub data Flaw : Type 0 where
  open_brace : Flaw
  open_quote : Flaw
  after_brace : Flaw
  after_quote : Flaw
  escape_not_here : Flaw
