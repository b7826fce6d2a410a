-- How operators group: each level joins operands that tighter levels have built (expr(n),
-- operators).
use Rattle.std.specs.Prelude.{ℕ, zero, suc, ◌+◌, ◌==◌, if◌then◌else◌}
use Rattle.tclparse.specs.Formula.{Formula, row, Links, no_links, link}
use Rattle.tclparse.specs.Operator.{level}

-- a formula with the operators and operands that are joined to it
abbrev pub row_of : Formula → Links → Formula
row_of f no_links = f
row_of f (link i g ls) = row f (link i g ls)

-- the operators of level n before any other, which belong to the operand before them
abbrev pub front : ℕ → Links → Links
front n no_links = no_links
front n (link i f ls) = if level i == n then link i f (front n ls) else no_links

-- the other operators, each with the operand after it, to which the operators of level n that
-- follow it belong
abbrev pub others : ℕ → Links → Links
others n no_links = no_links
others n (link i f ls) =
    if level i == n then others n ls else link i (row_of f (front n ls)) (others n ls)

-- the operators of level n are joined to their operands
abbrev pub joined_at : ℕ → Formula × Links → Formula × Links
joined_at n p = (row_of p.0 (front n p.1), others n p.1)

-- n levels are joined, from level 2 on
abbrev pub joined_to : ℕ → Formula → Links → Formula × Links
joined_to zero f ls = (f, ls)
joined_to (suc n) f ls = joined_at (n + 2) (joined_to n f ls)

-- the levels from 2 to 13 are joined, from the tightest on (expr(n), operators)
abbrev pub grouped : Formula → Links → Formula
grouped f ls = row_of (joined_to 12 f ls).0 (joined_to 12 f ls).1
