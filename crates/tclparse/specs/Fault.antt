-- Why a text is not a script.

-- The text ends in a word in braces, in a script in brackets or in a word in quotes; a word goes on
-- after its closing brace or quote (Tcl(n), rules 4, 6 and 7); too much is open at one place
-- (brackets and indexes, in a formula also parentheses, calls, prefixes and choices); an escape or
-- a name is not allowed here (this project's own rules).
pub data Fault : Type 0 where
  open_brace : Fault
  open_bracket : Fault
  open_quote : Fault
  after_brace : Fault
  after_quote : Fault
  too_deep : Fault
  escape_not_here : Fault
  bad_variable : Fault
