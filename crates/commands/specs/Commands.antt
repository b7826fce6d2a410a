-- Which command a name has, and what it does.
use Rattle.std.specs.Prelude.{ℕ, List, [], ◌∷◌, codes, Option, Some, None, option_map, if◌then◌else◌}
use Rattle.std.specs.Option.{option_or}
use Rattle.state.specs.Prelude.{Flaw, Course, gives, raises, Status}
use Rattle.acts.specs.Flaw as flaw
use Rattle.commands.specs.Acting as acting
use Rattle.commands.specs.LeftOut.{is_left_out}
use Rattle.commands.specs.Locals as local
use Rattle.commands.specs.Settings as setting
use Rattle.commands.specs.declared.acting.Acting.TheVariants as acts
use Rattle.commands.specs.declared.builtin.Builtin.{Builtin}
use Rattle.commands.specs.declared.builtin.Builtin.TheVariants as builtin
use Rattle.commands.specs.declared.locals.Local.TheVariants as locals_by
use Rattle.commands.specs.declared.settings.Setting.TheVariants as sets
use Rattle.kinds.specs.Exchange.{talks}
use Rattle.kinds.specs.Kinds.{exits, locals, definings}
use Rattle.leaving.specs.Exits.{leaves}
use Rattle.leaving.specs.declared.exits.Exit.TheVariants as exits_by
use Rattle.names.specs.Tables.{Table, found}
use Rattle.procedures.specs.Proc.{proc}
use Rattle.pure.specs.Pure as pure
use Rattle.state.specs.Meant.{meant}

-- the names of the commands that are no functions of their words
abbrev pub builtins : Table Builtin
builtins =
    (codes "puts", builtin.Acting acts.Puts)
    ∷ (codes "break", builtin.Exit exits_by.Break)
    ∷ (codes "continue", builtin.Exit exits_by.Continue)
    ∷ (codes "return", builtin.Exit exits_by.Return)
    ∷ (codes "error", builtin.Exit exits_by.Error)
    ∷ (codes "exit", builtin.Exit exits_by.Exit)
    ∷ (codes "exp_continue", builtin.Exit exits_by.ExpContinue)
    ∷ (codes "set", builtin.Local locals_by.Set)
    ∷ (codes "append", builtin.Local locals_by.Append)
    ∷ (codes "incr", builtin.Local locals_by.Incr)
    ∷ (codes "lappend", builtin.Local locals_by.Lappend)
    ∷ (codes "unset", builtin.Local locals_by.Unset)
    ∷ (codes "global", builtin.Local locals_by.Global)
    ∷ (codes "array", builtin.Local locals_by.Array)
    ∷ (codes "info", builtin.Local locals_by.Info)
    ∷ (codes "proc", builtin.Proc)
    ∷ (codes "spawn", builtin.Acting acts.Spawn)
    ∷ (codes "send", builtin.Acting acts.Send)
    ∷ (codes "sleep", builtin.Acting acts.Sleep)
    ∷ (codes "socket", builtin.Acting acts.Socket)
    ∷ (codes "close", builtin.Acting acts.Close)
    ∷ (codes "wait", builtin.Acting acts.Wait)
    ∷ (codes "match_max", builtin.Setting sets.MatchMax)
    ∷ (codes "remove_nulls", builtin.Setting sets.RemoveNulls)
    ∷ (codes "send_user", builtin.Acting acts.SendUser)
    ∷ (codes "send_error", builtin.Acting acts.SendError)
    ∷ (codes "send_log", builtin.Acting acts.SendLog)
    ∷ (codes "log_user", builtin.Setting sets.LogUser)
    ∷ (codes "log_file", builtin.Acting acts.LogFile)
    ∷ []

-- the command of a name
abbrev pub named : List ℕ → Option Builtin
named name = option_or (found builtins name) (option_map builtin.Text (pure.named name))

-- what a command does with the words after its name
abbrev pub does : Builtin → List (List ℕ) → Status → Course
does (builtin.Exit own) args s = exits (leaves own args) s
does (builtin.Local own) args s = locals (local.does own args s.scopes) s
does (builtin.Setting own) args s = talks (setting.does own args s) s
does (builtin.Acting own) args s = talks (acting.does own args s) s
does builtin.Proc args s = definings (proc args s.procedures) s
does (builtin.Text own) args s = meant (pure.says own args) s

-- the error of a name that no command has, which distinguishes the names of commands that this
-- profile leaves out from all others (Tcl(n), rule 2)
abbrev pub unknown : List ℕ → Flaw
unknown name = if is_left_out name then flaw.NotInProfile name else flaw.InvalidCommand name

-- the command that a name has (Tcl(n), rule 2)
abbrev pub called : Option Builtin → List ℕ → List (List ℕ) → Status → Course
called (Some found) name args s = does found args s
called None name args s = raises (unknown name) s

-- a command by its words, of which the first names it; where there are none, nothing is done
-- (Tcl(n), rules 1, 2 and 5)
abbrev pub command : Status → List (List ℕ) → Course
command s [] = gives [] s
command s (name ∷ args) = called (named name) name args s
