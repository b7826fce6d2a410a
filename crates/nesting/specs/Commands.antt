-- Which command that runs scripts a name has, and what it does.
use Rattle.std.specs.Prelude.{ℕ, List, codes, Option, Some, None, if◌then◌else◌}
use Rattle.state.specs.Prelude.{Course, Status}
use Rattle.std.specs.Str.{bytes_eq}
use Rattle.nesting.specs.Conditional.{conditional}
use Rattle.nesting.specs.Expr.{expr}
use Rattle.nesting.specs.ForLoop.{for_loop}
use Rattle.nesting.specs.WhileLoop.{while_loop}
use Rattle.nesting.specs.Catch.{catch}
use Rattle.nesting.specs.Eval.{eval}
use Rattle.nesting.specs.Control as control
use Rattle.nesting.specs.Control.{Control}
use Rattle.nesting.specs.Foreach.{foreach}
use Rattle.nesting.specs.Switch.{switch}

-- the command of a name
abbrev pub named : List ℕ → Option Control
named name =
    if bytes_eq name (codes "catch") then Some control.Catch
    else if bytes_eq name (codes "eval") then Some control.Eval
    else if bytes_eq name (codes "expr") then Some control.Expr
    else if bytes_eq name (codes "for") then Some control.For
    else if bytes_eq name (codes "foreach") then Some control.Foreach
    else if bytes_eq name (codes "if") then Some control.If
    else if bytes_eq name (codes "switch") then Some control.Switch
    else if bytes_eq name (codes "while") then Some control.While
    else None

-- what a command does with the words after its name, in which this many levels may still nest
abbrev pub does : Control → ℕ → List (List ℕ) → Status → Course
does control.Catch levels args s = catch levels args s
does control.Eval levels args s = eval levels args s
does control.Expr levels args s = expr levels args s
does control.For levels args s = for_loop levels args s
does control.Foreach levels args s = foreach levels args s
does control.If levels args s = conditional levels args s
does control.Switch levels args s = switch levels args s
does control.While levels args s = while_loop levels args s
