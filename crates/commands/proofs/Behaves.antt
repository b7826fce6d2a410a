-- Each command behaves.
use Rattle.std.proofs.Common.{ℕ, ◌+◌, List, [], ◌∷◌, Option, Some, None, arith}
use Rattle.commands.specs.Acting as acting
use Rattle.commands.specs.Commands.{named, does, called, command}
use Rattle.commands.specs.Locals as local
use Rattle.commands.specs.Settings as setting
use Rattle.commands.specs.declared.builtin.Builtin.{Builtin}
use Rattle.commands.specs.declared.builtin.Builtin.TheVariants as builtin
use Rattle.kinds.proofs.Behaves.{exits_behave, sets_behave, talks_behave}
use Rattle.kinds.proofs.Locals.{definings_behave, locals_behave}
use Rattle.leaving.specs.Exits.{leaves}
use Rattle.procedures.specs.Proc.{proc}
use Rattle.pure.specs.Pure.{says}
use Rattle.state.proofs.Behaves.{meant_behaves}
use Rattle.state.specs.Prelude.{Behaves, worth, Status}

does_behaves : (builtin : Builtin) (args : List (List ℕ)) (s : Status) →
    Behaves s.left (worth s + 4) (does builtin args s)
does_behaves (builtin.Exit own) args s = exits_behave (leaves own args) s
does_behaves (builtin.Local own) args s =
    locals_behave (local.does own args s.scopes) s (worth s + 4) (omega arith)
does_behaves (builtin.Setting own) args s = sets_behave (setting.does own args s) s
does_behaves (builtin.Acting own) args s = talks_behave (acting.does own args s) s
does_behaves builtin.Proc args s =
    definings_behave (proc args s.procedures) s (worth s + 4) (omega arith)
does_behaves (builtin.Text own) args s =
    meant_behaves s.left (worth s + 4) s (omega arith) (omega arith) (says own args)

called_behaves : (o : Option Builtin) (name : List ℕ) (args : List (List ℕ)) (s : Status) →
    Behaves s.left (worth s + 4) (called o name args s)
called_behaves (Some found) name args s = does_behaves found args s
called_behaves None name args s = (omega arith, omega arith)

pub command_behaves : (s : Status) (words : List (List ℕ)) →
    Behaves s.left (worth s + 4) (command s words)
command_behaves s [] = (omega arith, omega arith)
command_behaves s (name ∷ args) = called_behaves (named name) name args s
