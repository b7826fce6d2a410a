-- The commands that read and change the variables alone.
use Rattle.std.specs.Prelude.{ℕ, List}
use Rattle.commands.specs.declared.locals.Local.{Local}
use Rattle.commands.specs.declared.locals.Local.TheVariants as local
use Rattle.kinds.specs.Readings.{Done, Reading, Found, kept}
use Rattle.tclstate.specs.Scopes.{Scopes}
use Rattle.variables.specs.Append.{append}
use Rattle.variables.specs.Array.{array}
use Rattle.variables.specs.Global.{global}
use Rattle.variables.specs.Incr.{incr}
use Rattle.variables.specs.Info.{info}
use Rattle.variables.specs.Lappend.{lappend}
use Rattle.variables.specs.Set.{set}
use Rattle.variables.specs.Unset.{unset}

-- what each does with the words after its name (the manual pages of these names)
abbrev pub does : Local → List (List ℕ) → Scopes → Reading (Done Scopes)
does local.Set args v = Found (kept v (set args v))
does local.Append args v = Found (kept v (append args v))
does local.Incr args v = Found (kept v (incr args v))
does local.Lappend args v = lappend args v
does local.Unset args v = Found (unset args v)
does local.Global args v = Found (kept v (global args v))
does local.Array args v = array args v
does local.Info args v = Found (v, info args v)
