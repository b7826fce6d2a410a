-- The formula that a value of the code stands for.
use Rattle.std.specs.Prelude.{List, [], ◌∷◌, Vec}
use Rattle.std.specs.declared.rc.Rc.{Rc}
use Rattle.tclparse.specs.Formula as tree
use Rattle.tclparse.specs.Formula.{Links, no_links, link, Formulas, no_formulas, formula}
use Rattle.tclparse.specs.View.{parts_of}
use Rattle.formulas.specs.declared.tree.Formula.{Formula, fold-Formula}
use Rattle.formulas.specs.declared.tree.Formula.TheOpen.{Formula-F, Choice-F, Link-F, Row-F}
use Rattle.formulas.specs.declared.tree.Formula.TheFolds.{fold-Choice, fold-Link, fold-Row}
use Rattle.formulas.specs.declared.tree.Choice.{Choice}
use Rattle.formulas.specs.declared.tree.Link.{Link}
use Rattle.formulas.specs.declared.tree.Row.{Row}

-- operators with their operands, put before what follows them
abbrev pub join_links : List (Links → Links) → Links → Links
join_links [] t = t
join_links (f ∷ fs) t = f (join_links fs t)

abbrev pub join_formulas : List tree.Formula → Formulas → Formulas
join_formulas [] t = t
join_formulas (f ∷ fs) t = formula f (join_formulas fs t)

-- one layer of a formula's tree, with what is inside it already seen; an operator with its operand
-- is seen as the function that puts them before the operators after them
abbrev pub formula_step : {A : Type 0}
    → Formula-F A tree.Formula tree.Formula (Links → Links) tree.Formula → tree.Formula
formula_step (Formula-F.Numeral v) = tree.numeral v
formula_step (Formula-F.Text ps) = tree.text (parts_of ps)
formula_step (Formula-F.Call g fs) = tree.call g (join_formulas fs.value.items no_formulas)
formula_step (Formula-F.Prefix u f) = tree.prefix u f.value
formula_step (Formula-F.Row r) = r.value
formula_step (Formula-F.Choice c) = c.value

abbrev pub choice_step : {A : Type 0}
    → Choice-F A tree.Formula tree.Formula (Links → Links) tree.Formula → tree.Formula
choice_step c = tree.choice c.test c.yes c.no

abbrev pub link_step : {A : Type 0}
    → Link-F A tree.Formula tree.Formula (Links → Links) tree.Formula → Links → Links
link_step l t = link l.operator l.operand t

abbrev pub row_step : {A : Type 0}
    → Row-F A tree.Formula tree.Formula (Links → Links) tree.Formula → tree.Formula
row_step r = tree.row r.first (join_links r.links.items no_links)

-- the formula that a value stands for; below, an operator with its operand, put before those after
-- it
abbrev pub formula_of : {A : Type 0} → Formula A → tree.Formula
formula_of {A} =
    fold-Formula A tree.Formula tree.Formula (Links → Links) tree.Formula
    formula_step choice_step link_step row_step

abbrev pub link_view : {A : Type 0} → Link A → Links → Links
link_view {A} =
    fold-Link A tree.Formula tree.Formula (Links → Links) tree.Formula
    formula_step choice_step link_step row_step

-- the formula that a row is; below, the one that a choice is
abbrev pub row_view : {A : Type 0} → Row A → tree.Formula
row_view {A} =
    fold-Row A tree.Formula tree.Formula (Links → Links) tree.Formula
    formula_step choice_step link_step row_step

abbrev pub choice_view : {A : Type 0} → Choice A → tree.Formula
choice_view {A} =
    fold-Choice A tree.Formula tree.Formula (Links → Links) tree.Formula
    formula_step choice_step link_step row_step

-- several operators with their operands, and below several formulas, before what follows
abbrev pub links_then : {A : Type 0} → List (Link A) → Links → Links
links_then [] t = t
links_then (l ∷ ls) t = link_view l (links_then ls t)

abbrev pub formulas_then : {A : Type 0} → List (Formula A) → Formulas → Formulas
formulas_then [] t = t
formulas_then (f ∷ fs) t = formula (formula_of f) (formulas_then fs t)
