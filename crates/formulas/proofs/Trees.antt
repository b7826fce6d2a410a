-- A formula, level by level, and lists that grow at their end.
use Rattle.std.proofs.Common.{◌≡◌, List, [], ◌∷◌, ◌++◌, ℕ, ◌<◌, length, refl, sym, ap, ◌∙◌, arith, rules, Vec, map}
use Rattle.std.specs.declared.rc.Rc.{Rc}
use Rattle.tclparse.specs.declared.operator.Function.{Function}
use Rattle.tclparse.specs.declared.operator.Infix.{Infix}
use Rattle.tclparse.specs.declared.operator.Unary.{Unary}
use Rattle.tclparse.specs.Formula as tree
use Rattle.tclparse.specs.Formula.{Links, no_links, link, Formulas, no_formulas, formula}
use Rattle.tclparse.specs.View.{parts_of}
use Rattle.tclparse.specs.declared.tree.Part.{Part}
use Rattle.formulas.specs.View.{join_links, join_formulas, formula_of, link_view, row_view, choice_view, links_then, formulas_then}
use Rattle.formulas.specs.declared.tree.Formula.{Formula, Text, Call, Row, Choice, Prefix, the_lemmas}
use Rattle.formulas.specs.declared.tree.Formula.TheViews.{roll-Choice, roll-Link, roll-Row}
use Rattle.formulas.specs.declared.tree.Choice as the_choice
use Rattle.formulas.specs.declared.tree.Link.{Link, out-Link}
use Rattle.formulas.specs.declared.tree.Row as the_row
use Rattle.tclparse.specs.Grouping.{row_of}

join_links_view : {A : Type 0} → (ls : List (Link A)) (t : Links) → join_links (map link_view ls) t
    ≡ links_then ls t
join_links_view [] t = refl
join_links_view (l ∷ ls) t = ap (link_view l) (join_links_view ls t)

join_formulas_view : {A : Type 0} → (fs : List (Formula A)) (t : Formulas) →
    join_formulas (map formula_of fs) t ≡ formulas_then fs t
join_formulas_view [] t = refl
join_formulas_view (f ∷ fs) t = ap (formula (formula_of f)) (join_formulas_view fs t)

pub view_Call : {A : Type 0} → (g : Function) (fs : Rc (Vec (Formula A) A) A) →
    formula_of (Call g fs) ≡ tree.call g (formulas_then fs.value.items no_formulas)
view_Call g fs = search (rules, the_lemmas, join_formulas_view)

pub view_of_link : {A : Type 0} → (i : Infix) (f : Formula A) (t : Links) →
    link_view (roll-Link A (record { operator = i; operand = f })) t ≡ link i (formula_of f) t
view_of_link i f t = search (rules, the_lemmas)

pub links_push : {A : Type 0} → (ls : List (Link A)) (l : Link A) (t : Links) →
    links_then (ls ++ l ∷ []) t ≡ links_then ls (link_view l t)
links_push [] l t = refl
links_push (m ∷ ls) l t = ap (link_view m) (links_push ls l t)

pub formulas_push : {A : Type 0} → (fs : List (Formula A)) (f : Formula A) (t : Formulas) →
    formulas_then (fs ++ f ∷ []) t ≡ formulas_then fs (formula (formula_of f) t)
formulas_push [] f t = refl
formulas_push (g ∷ fs) f t = ap (formula (formula_of g)) (formulas_push fs f t)

pub view_Prefix : {A : Type 0} → (u : Unary) (f : Rc (Formula A) A) → formula_of (Prefix u f)
    ≡ tree.prefix u (formula_of f.value)
view_Prefix u f = search (rules, the_lemmas)

-- a prefix before its operand
pub prefix_made : {A : Type 0} → (u : Unary) (r : Rc (Formula A) A) (f : Formula A) → r.value ≡ f →
    formula_of (Prefix u r) ≡ tree.prefix u (formula_of f)
prefix_made u r f is = view_Prefix u r ∙ ap (λ h. tree.prefix u (formula_of h)) is

pub view_Row : {A : Type 0} → (r : Rc (the_row.Row A) A) → formula_of (Row r) ≡ row_view r.value
view_Row r = search (rules, the_lemmas)

pub view_Choice : {A : Type 0} → (c : Rc (the_choice.Choice A) A) → formula_of (Choice c)
    ≡ choice_view c.value
view_Choice c = search (rules, the_lemmas)

row_of_fields : {A : Type 0} → (f : Formula A) (ls : Vec (Link A) A) →
    row_view (roll-Row A (record { first = f; links = ls }))
    ≡ tree.row (formula_of f) (links_then ls.items no_links)
row_of_fields f ls = search (rules, the_lemmas, join_links_view)

choice_of_fields : {A : Type 0} → (t y n : Formula A) →
    choice_view (roll-Choice A (record { test = t; yes = y; no = n }))
    ≡ tree.choice (formula_of t) (formula_of y) (formula_of n)
choice_of_fields t y n = search (rules, the_lemmas)

pub view_Link : {A : Type 0} → (l : Link A) (t : Links) → link_view l t
    ≡ link (out-Link A l).operator (formula_of (out-Link A l).operand) t
view_Link {A} l t = search (rules, the_lemmas)

-- a formula of each kind, from its parts
pub view_Text : {A : Type 0} → (ps : Rc (Vec (Part A) A) A) → formula_of (Text ps)
    ≡ tree.text (parts_of ps)
view_Text ps = search (rules, the_lemmas)

pub row_parts : {A : Type 0} → (r : the_row.Row A) → row_view r
    ≡ tree.row (formula_of (the_row.out-Row A r).first)
    (links_then (the_row.out-Row A r).links.items no_links)
row_parts {A} r = search (rules, the_lemmas, join_links_view)

pub choice_parts : {A : Type 0} → (c : the_choice.Choice A) → choice_view c
    ≡ tree.choice (formula_of (the_choice.out-Choice A c).test)
    (formula_of (the_choice.out-Choice A c).yes) (formula_of (the_choice.out-Choice A c).no)
choice_parts {A} c = search (rules, the_lemmas)

some_links : {A : Type 0} → (f : tree.Formula) (ls : List (Link A)) → 0 < length ls →
    row_of f (links_then ls no_links) ≡ tree.row f (links_then ls no_links)
some_links f [] h = absurd (omega (arith, h))
some_links f (l ∷ ls) h = rw (view_Link l (links_then ls no_links)) refl

-- a row that is made of its fields
pub row_made : {A : Type 0} → (r : Rc (the_row.Row A) A) (f : Formula A) (ls : Vec (Link A) A)
    → r.value ≡ roll-Row A (record { first = f; links = ls }) → 0 < length ls.items
    → formula_of (Row r) ≡ row_of (formula_of f) (links_then ls.items no_links)
row_made r f ls is some = view_Row r ∙ ap row_view is ∙ row_of_fields f ls
    ∙ sym (some_links (formula_of f) ls.items some)

-- a choice that is made of its fields
pub choice_made : {A : Type 0} → (c : Rc (the_choice.Choice A) A) (t y n : Formula A)
    → c.value ≡ roll-Choice A (record { test = t; yes = y; no = n })
    → formula_of (Choice c) ≡ tree.choice (formula_of t) (formula_of y) (formula_of n)
choice_made c t y n is = view_Choice c ∙ ap choice_view is ∙ choice_of_fields t y n
