-- What groups level by level can be spelled level by level.
use Rattle.std.proofs.Common.{◌≡◌, ℕ, zero, suc, ◌+◌, ◌-◌, ◌<◌, ◌≤◌, ◌==◌, ◌⊎◌, false, inl, inr, refl, sym, subst, arith}
use Rattle.std.proofs.lemmas.Bool.Decides.{eqb_tells, leb_tells}
use Rattle.tclparse.specs.Operator.{level}
use Rattle.tclparse.specs.Formula.{Formula, numeral, text, call, prefix, row, choice, Links, no_links, link, Formulas, no_formulas, formula}
use Rattle.tclparse.specs.Grouping.{row_of, front, others, joined_at, joined_to, grouped}
use Rattle.tclparse.proofs.Spelling.{if_known, equal_if}
use Rattle.formulas.specs.Spellable.{Stands, IsSpellable, AreLinksSpellable, AreAllSpellable}
use Rattle.formulas.proofs.RowTexts.{level_range}
use Rattle.formulas.proofs.SpellableParts.{parts_more}

-- Levels up to m instead of n may stand, and e instead of d more may be open, and neither is less;
-- or more may be open, which leaves room for parentheses.
abbrev pub IsWider : ℕ → ℕ → ℕ → ℕ → Type 0
IsWider n m d e = ((n ≤ m) × (d ≤ e)) ⊎ (d < e)

wider_depth : (n m d e : ℕ) → IsWider n m d e → d ≤ e
wider_depth n m d e (inl h) = h.1
wider_depth n m d e (inr h) = omega (arith, h)

stands_wider : (n m d e l i : ℕ) → IsWider n m d e → Stands n l d i → (j : ℕ) × Stands m l e j
    × (i ≤ j)
stands_wider n m d e l i (inl w) (inl s) =
    (e, inl (omega (arith, w.0, s.0), refl), omega (arith, w.1, s.1))
stands_wider n m d e l i (inl w) (inr s) =
    (e - 1, inr (omega (arith, w.1, s)), omega (arith, w.1, s))
stands_wider n m d e l i (inr w) (inl s) =
    (e - 1, inr (omega (arith, w)), omega (arith, w, s.1))
stands_wider n m d e l i (inr w) (inr s) = (e - 1, inr (omega (arith, w)), omega (arith, w, s))

mutual
  pub formula_more : (f : Formula) (n m d e : ℕ) → IsWider n m d e → IsSpellable n d f →
      IsSpellable m e f
  formula_more (numeral s) n m d e w h = h
  formula_more (text ps) n m d e w h = parts_more ps d e (wider_depth n m d e w) h
  formula_more (call g fs) n m d e w h =
      let less = wider_depth n m d e w in (
        omega (arith, less, h.0),
        h.1,
        all_more fs (d - 1) (e - 1) (omega (arith, less)) h.2,
      )
  formula_more (prefix u f) n m d e w h =
      let less = wider_depth n m d e w in (
        omega (arith, less, h.0),
        formula_more f 1 1 (d - 1) (e - 1) (inl (omega arith, omega (arith, less))) h.1,
      )
  formula_more (row f ls) n m d e w h =
      let s = stands_wider n m d e h.0 h.1 w h.2 in (
        h.0,
        s.0,
        s.1,
        h.3,
        formula_more f (h.0 - 1) (h.0 - 1) h.1 s.0 (inl (omega arith, s.2)) h.4,
        links_more ls h.0 h.1 s.0 s.2 h.5,
      )
  formula_more (choice f g k) n m d e w h =
      let s = stands_wider n m d e 14 h.0 w h.1 in (
        s.0,
        s.1,
        omega (arith, s.2, h.2),
        formula_more f 13 13 h.0 s.0 (inl (omega arith, s.2)) h.3,
        formula_more g 14 14 (h.0 - 1) (s.0 - 1) (inl (omega arith, omega (arith, s.2))) h.4,
        formula_more k 14 14 (h.0 - 1) (s.0 - 1) (inl (omega arith, omega (arith, s.2))) h.5,
      )

  links_more : (ls : Links) (m d e : ℕ) → d ≤ e → AreLinksSpellable m d ls → AreLinksSpellable m e ls
  links_more no_links m d e less h = tt
  links_more (link i f ls) m d e less h = (
    h.0,
    formula_more f (m - 1) (m - 1) d e (inl (omega arith, less)) h.1,
    links_more ls m d e less h.2,
  )

  all_more : (fs : Formulas) (d e : ℕ) → d ≤ e → AreAllSpellable d fs → AreAllSpellable e fs
  all_more no_formulas d e less h = tt
  all_more (formula f fs) d e less h =
      (formula_more f 14 14 d e (inl (omega arith, less)) h.0, all_more fs d e less h.1)

-- operators of levels above n, and operands in which levels up to n stand
abbrev pub AreAbove : ℕ → ℕ → Links → Type 0
AreAbove n d no_links = Unit {0}
AreAbove n d (link i f ls) = (n < level i) × IsSpellable n d f × AreAbove n d ls

not_next : (n l : ℕ) → n < l → (l == n + 1) ≡ false → n + 1 < l
not_next n l h other = elim (leb_tells l (n + 1)) [
  | inl p ↦ elim (eqb_tells l (n + 1)) [
    | inl q ↦ absurd (cc (q.0, other))
    | inr q ↦ absurd (q.1 (omega (arith, h, p.1)))
  ]
  | inr p ↦ p.1
]

front_spells : (n d : ℕ) (ls : Links) → AreAbove n d ls →
    AreLinksSpellable (n + 1) d (front (n + 1) ls)
front_spells n d no_links h = tt
front_spells n d (link i f ls) h =
    if_known (AreLinksSpellable (n + 1) d) (level i == n + 1) (link i f (front (n + 1) ls)) no_links
    (λ e. (
      equal_if (level i) (n + 1) e,
      formula_more f n (n + 1 - 1) d d (inl (omega arith, omega arith)) h.1,
      front_spells n d ls h.2,
    ))
    (λ _. tt)

row_spells : (n d : ℕ) (f : Formula) (ls : Links) → IsSpellable n d f →
    AreLinksSpellable (n + 1) d ls → IsSpellable (n + 1) d (row_of f ls)
row_spells n d f no_links h k = formula_more f n (n + 1) d d (inl (omega arith, omega arith)) h
row_spells n d f (link i g ls) h k = (
  n + 1,
  d,
  inl (omega arith, refl),
  λ none. absurd (cc (none)),
  formula_more f n (n + 1 - 1) d d (inl (omega arith, omega arith)) h,
  k,
)

others_spell : (n d : ℕ) (ls : Links) → AreAbove n d ls → AreAbove (n + 1) d (others (n + 1) ls)
others_spell n d no_links h = tt
others_spell n d (link i f ls) h =
    if_known (AreAbove (n + 1) d) (level i == n + 1) (others (n + 1) ls)
    (link i (row_of f (front (n + 1) ls)) (others (n + 1) ls)) (λ _. others_spell n d ls h.2)
    (λ e. (
      not_next n (level i) h.0 e,
      row_spells n d f (front (n + 1) ls) h.1 (front_spells n d ls h.2),
      others_spell n d ls h.2,
    ))

-- a part of level n and operators of the levels above it
abbrev IsPart : ℕ → ℕ → Formula × Links → Type 0
IsPart n d p = IsSpellable n d p.0 × AreAbove n d p.1

level_spells : (n d : ℕ) (p : Formula × Links) → IsPart n d p → IsPart (n + 1) d (joined_at (n + 1) p)
level_spells n d p h = (
  row_spells n d p.0 (front (n + 1) p.1) h.0 (front_spells n d p.1 h.1),
  others_spell n d p.1 h.1,
)

levels_spell : (k d : ℕ) (f : Formula) (ls : Links) → IsPart 1 d (f, ls) →
    IsPart (k + 1) d (joined_to k f ls)
levels_spell zero d f ls h = let one : 1 ≡ 0 + 1 = omega arith in
    subst (λ n. IsPart n d (f, ls)) one h
levels_spell (suc k) d f ls h =
    let at : k + 1 + 1 ≡ k + 2 = omega arith in
    let next : k + 1 + 1 ≡ suc k + 1 = omega arith in
    subst (λ n. IsPart n d (joined_at (k + 2) (joined_to k f ls))) next
    (subst (λ n. IsPart (k + 1 + 1) d (joined_at n (joined_to k f ls))) at
    (level_spells (k + 1) d (joined_to k f ls) (levels_spell k d f ls h)))

none_above : (d : ℕ) (ls : Links) → AreAbove 13 d ls → ls ≡ no_links
none_above d no_links h = refl
none_above d (link i f ls) h = let range = level_range i in absurd (omega (arith, range.1, h.0))

pub grouped_spells : (d : ℕ) (f : Formula) (ls : Links) → IsSpellable 1 d f → AreAbove 1 d ls →
    IsSpellable 13 d (grouped f ls)
grouped_spells d f ls h k =
    let p = levels_spell 12 d f ls (h, k) in
    let none = none_above d (joined_to 12 f ls).1 p.1 in
    subst (λ l. IsSpellable 13 d (row_of (joined_to 12 f ls).0 l)) (sym none) p.0
