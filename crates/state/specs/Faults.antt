-- Why a text is no script, as the script's error.
use Rattle.acts.specs.Flaw as flaw
use Rattle.acts.specs.Flaw.{Flaw}
use Rattle.tclparse.specs.Fault.{Fault, open_brace, open_bracket, open_quote, after_brace, after_quote, too_deep, escape_not_here, bad_variable}

-- why a text is no script, as the script's error (Tcl(n))
abbrev pub flaw_of_fault : Fault → Flaw
flaw_of_fault open_brace = flaw.OpenBrace
flaw_of_fault open_bracket = flaw.OpenBracket
flaw_of_fault open_quote = flaw.OpenQuote
flaw_of_fault after_brace = flaw.AfterBrace
flaw_of_fault after_quote = flaw.AfterQuote
flaw_of_fault too_deep = flaw.TooDeep
flaw_of_fault escape_not_here = flaw.EscapeNotHere
flaw_of_fault bad_variable = flaw.BadVariable
