-- Which levels stand in a row of operators.
use Rattle.std.specs.Prelude.{ℕ, ◌==◌, ◌||◌, Bool, false}
use Rattle.tclparse.specs.Formula.{Links, no_links, link}
use Rattle.tclparse.specs.Operator.{level}

-- an operator of level n stands among these (expr(n), operators)
abbrev pub has_level : ℕ → Links → Bool
has_level n no_links = false
has_level n (link i f ls) = (level i == n) || has_level n ls
