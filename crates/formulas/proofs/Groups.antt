-- One level is joined from the right, and a level that is not there changes nothing.
use Rattle.std.proofs.Common.{◌≡◌, ℕ, ◌==◌, List, [], ◌∷◌, ◌++◌, Bool, true, false, reverse, refl, sym, ap, subst, ◌∙◌, ◌+◌, suc, arith}
use Rattle.std.proofs.lemmas.List.{reverse-append}
use Rattle.tclparse.specs.declared.operator.Infix.{Infix}
use Rattle.tclparse.specs.Operator.{level}
use Rattle.tclparse.specs.Formula as tree
use Rattle.tclparse.specs.Formula.{Links, no_links, link}
use Rattle.tclparse.specs.Grouping.{row_of, front, others, joined_at, joined_to}
use Rattle.formulas.specs.Group.{has_level}
use Rattle.formulas.specs.View.{formula_of, links_then}
use Rattle.formulas.specs.declared.tree.Formula.{Formula}
use Rattle.formulas.specs.declared.tree.Formula.TheViews.{roll-Link}
use Rattle.formulas.specs.declared.tree.Link.{Link}
use Rattle.formulas.proofs.Trees.{links_push, view_of_link}

front_none : (n : ℕ) (ls : Links) → has_level n ls ≡ false → front n ls ≡ no_links
front_none n no_links h = refl
front_none n (link i f ls) h = let other : (level i == n) ≡ false = grind (arith, h) in
    rw other refl

others_none : (n : ℕ) (ls : Links) → has_level n ls ≡ false → others n ls ≡ ls
others_none n no_links h = refl
others_none n (link i f ls) h =
    let other : (level i == n) ≡ false = grind (arith, h) in
    let behind : has_level n ls ≡ false = grind (arith, h) in
    rw (other, front_none n ls behind, others_none n ls behind) refl

pub joined_none : (n : ℕ) (f : tree.Formula) (ls : Links) → has_level n ls ≡ false →
    joined_at n (f, ls) ≡ (f, ls)
joined_none n f ls h = rw (front_none n ls h, others_none n ls h) refl

pub none_joined : (n : ℕ) (f : tree.Formula) (ls : Links) → has_level n ls ≡ false → (f, ls)
    ≡ joined_at n (f, ls)
none_joined n f ls h = sym (joined_none n f ls h)

-- A level is half joined: the operators ls are still to be taken. Those at the front of the
-- operators S after them are in run and the others of S in rest, both lists in reverse.
abbrev pub IsHalfJoined : {A : Type 0} → ℕ → Links → List (Link A) → List (Link A) → List (Link A) →
    Type 0
IsHalfJoined n whole ls run rest =
    (S : Links) × (whole ≡ links_then ls S) × (links_then (reverse run) no_links ≡ front n S)
    × (links_then (reverse rest) no_links ≡ others n S)

link_last : {A : Type 0} (i : Infix) (f : Formula A) (g : tree.Formula) (ls : List (Link A))
    (t : Links)
    → formula_of f ≡ g → links_then (ls ++ roll-Link A (record { operator = i; operand = f }) ∷ [])
    t ≡ links_then ls (link i g t)
link_last {A} i f g ls t e =
    links_push ls (roll-Link A (record { operator = i; operand = f })) t
    ∙ ap (links_then ls) (view_of_link i f t ∙ ap (λ h. link i h t) e)

-- one more operator, at the end of a list that is in reverse
link_first : {A : Type 0} (i : Infix) (f : Formula A) (g : tree.Formula) (run more : List (Link A))
    (t : Links)
    → formula_of f ≡ g → more ≡ run ++ roll-Link A (record { operator = i; operand = f }) ∷ [] →
    links_then (reverse run) no_links ≡ t
    → links_then (reverse more) no_links ≡ link i g t
link_first {A} i f g run more t e pushed is =
    let l = roll-Link A (record { operator = i; operand = f }) in
    ap (λ m. links_then (reverse m) no_links) pushed
    ∙ ap (λ m. links_then m no_links) (reverse-append run (l ∷ []))
    ∙ view_of_link i f (links_then (reverse run) no_links)
    ∙ ap (λ h. link i h (links_then (reverse run) no_links)) e ∙ ap (link i g) is

pub run_push : {A : Type 0} (n : ℕ) (whole : Links) (ms ls run more rest : List (Link A))
    (i : Infix) (f : Formula A)
    → (level i == n) ≡ true → IsHalfJoined n whole ms run rest → ms ≡ ls
    ++ roll-Link A (record { operator = i; operand = f }) ∷ []
    → more ≡ run ++ roll-Link A (record { operator = i; operand = f }) ∷ [] →
    IsHalfJoined n whole ls more rest
run_push n whole ms ls run more rest i f same h last pushed =
    let T = link i (formula_of f) h.0 in
    let in_front : front n T ≡ link i (formula_of f) (front n h.0) = rw same refl in
    let in_others : others n T ≡ others n h.0 = rw same refl in (
      T,
      h.1 ∙ ap (λ m. links_then m h.0) last ∙ link_last i f (formula_of f) ls h.0 refl,
      link_first i f (formula_of f) run more (front n h.0) refl pushed h.2 ∙ sym in_front,
      h.3 ∙ sym in_others,
    )

pub rest_push : {A : Type 0} (n : ℕ) (whole : Links)
    (ms ls run backwards none rest more : List (Link A)) (i : Infix) (f g : Formula A)
    → (level i == n) ≡ false → IsHalfJoined n whole ms run rest → ms ≡ ls
    ++ roll-Link A (record { operator = i; operand = f }) ∷ []
    → backwards ≡ reverse run → formula_of g ≡ row_of (formula_of f) (links_then backwards no_links)
    → none ≡ []
    → more ≡ rest ++ roll-Link A (record { operator = i; operand = g }) ∷ [] →
    IsHalfJoined n whole ls none more
rest_push n whole ms ls run backwards none rest more i f g other h last turned made empty pushed =
    let T = link i (formula_of f) h.0 in
    let joined : formula_of g ≡ row_of (formula_of f) (front n h.0) =
    made ∙ ap (λ m. row_of (formula_of f) (links_then m no_links)) turned
    ∙ ap (row_of (formula_of f)) h.2 in
    let in_front : front n T ≡ no_links = rw other refl in
    let in_others : others n T ≡ link i (row_of (formula_of f) (front n h.0)) (others n h.0) =
    rw other refl in (
      T,
      h.1 ∙ ap (λ m. links_then m h.0) last ∙ link_last i f (formula_of f) ls h.0 refl,
      ap (λ m. links_then (reverse m) no_links) empty ∙ sym in_front,
      link_first i g (row_of (formula_of f) (front n h.0)) rest more (others n h.0) joined pushed
          h.3 ∙ sym in_others,
    )

pub whole_joined : {A : Type 0} (n : ℕ) (first : tree.Formula) (whole : Links)
    (run rest turned left : List (Link A)) (f : Formula A)
    → IsHalfJoined n whole [] run rest → turned ≡ reverse run → left ≡ reverse rest → formula_of f
    ≡ row_of first (links_then turned no_links)
    → (formula_of f, links_then left no_links) ≡ joined_at n (first, whole)
whole_joined n first whole run rest turned left f h at_run at_rest made =
    let part : formula_of f ≡ row_of first (front n whole) =
    made ∙ ap (λ m. row_of first (links_then m no_links)) at_run
    ∙ ap (row_of first) (h.2 ∙ ap (front n) (sym h.1)) in
    let others_left : links_then left no_links ≡ others n whole =
    ap (λ m. links_then m no_links) at_rest ∙ h.3 ∙ ap (others n) (sym h.1) in
    cc (part, others_left)

-- one level more is joined
pub level_joined : (n : ℕ) (p q : tree.Formula × Links) (f : tree.Formula) (ls : Links)
    → p ≡ joined_to n f ls → q ≡ joined_at (n + 2) p → q ≡ joined_to (n + 1) f ls
level_joined n p q f ls h k =
    let next : n + 1 ≡ suc n = omega arith in
    subst (λ m. q ≡ joined_to m f ls) (sym next) (k ∙ ap (joined_at (n + 2)) h)
