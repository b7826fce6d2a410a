-- Operators that stand in a row are joined level by level, each level from parts of tighter ones.
use Rattle.std.proofs.Common.{◌≡◌, ℕ, zero, suc, ◌+◌, ◌<◌, ◌≤◌, ◌==◌, true, false, inl, inr, refl, ap, subst, ◌∙◌, arith}
use Rattle.std.proofs.lemmas.Bool.Decides.{eqb_tells}
use Rattle.tclparse.specs.declared.operator.Binary.{Binary}
use Rattle.tclparse.specs.declared.operator.Binary.TheVariants.{Multiply, Divide, Remainder, Add, Subtract, ShiftLeft, ShiftRight, Less, Greater, LessEqual, GreaterEqual, Equal, NotEqual, TextEqual, TextNotEqual, In, NotIn, And, Xor, Or}
use Rattle.tclparse.specs.declared.operator.Infix.{Infix}
use Rattle.tclparse.specs.declared.operator.Infix.TheVariants.{Both, AndAlso, OrElse}
use Rattle.tclparse.specs.Operator.{binary_level, level}
use Rattle.tclparse.specs.Formula.{Formula, row, Links, no_links, link}
use Rattle.tclparse.specs.Grouping.{row_of, front, others, joined_at, joined_to, grouped}

binary_range : (b : Binary) → (2 ≤ binary_level b) × (binary_level b ≤ 13)
binary_range Multiply = (omega arith, omega arith)
binary_range Divide = (omega arith, omega arith)
binary_range Remainder = (omega arith, omega arith)
binary_range Add = (omega arith, omega arith)
binary_range Subtract = (omega arith, omega arith)
binary_range ShiftLeft = (omega arith, omega arith)
binary_range ShiftRight = (omega arith, omega arith)
binary_range Less = (omega arith, omega arith)
binary_range Greater = (omega arith, omega arith)
binary_range LessEqual = (omega arith, omega arith)
binary_range GreaterEqual = (omega arith, omega arith)
binary_range Equal = (omega arith, omega arith)
binary_range NotEqual = (omega arith, omega arith)
binary_range TextEqual = (omega arith, omega arith)
binary_range TextNotEqual = (omega arith, omega arith)
binary_range In = (omega arith, omega arith)
binary_range NotIn = (omega arith, omega arith)
binary_range And = (omega arith, omega arith)
binary_range Xor = (omega arith, omega arith)
binary_range Or = (omega arith, omega arith)

pub level_range : (i : Infix) → (2 ≤ level i) × (level i ≤ 13)
level_range (Both b) = binary_range b
level_range AndAlso = (omega arith, omega arith)
level_range OrElse = (omega arith, omega arith)

same_level : (m n : ℕ) → m ≡ n → (m == n) ≡ true
same_level m n h = elim (eqb_tells m n) [
  | inl p ↦ p.0
  | inr p ↦ absurd (p.1 h)
]

other_level : (m n : ℕ) → n < m → (m == n) ≡ false
other_level m n h = elim (eqb_tells m n) [
  | inl p ↦ absurd (omega (arith, h, p.1))
  | inr p ↦ p.0
]

-- the first operators, put before the others
abbrev pub links_before : Links → Links → Links
links_before no_links n = n
links_before (link i f ls) n = link i f (links_before ls n)

links_before_none : (ls : Links) → links_before ls no_links ≡ ls
links_before_none no_links = refl
links_before_none (link i f ls) = ap (link i f) (links_before_none ls)

-- the first operator is of none of the k levels that are joined first
abbrev pub Starts : ℕ → Links → Type 0
Starts k no_links = Unit {0}
Starts k (link i f ls) = k + 1 < level i

pub starts_less : (k : ℕ) (ls : Links) → Starts (suc k) ls → Starts k ls
starts_less k no_links h = tt
starts_less k (link i f ls) h = omega (arith, h)

-- what such operators are once the k levels are joined
abbrev pub after : ℕ → Links → Links
after k no_links = no_links
after k (link i f ls) = link i (joined_to k f ls).0 (joined_to k f ls).1

front_after : (k : ℕ) (ls : Links) → Starts (suc k) ls → front (k + 2) (after k ls) ≡ no_links
front_after k no_links h = refl
front_after k (link i f ls) h =
    let other : (level i == k + 2) ≡ false = other_level (level i) (k + 2) (omega (arith, h)) in
    rw other refl

others_after : (k : ℕ) (ls : Links) → Starts (suc k) ls → others (k + 2) (after k ls)
    ≡ after (suc k) ls
others_after k no_links h = refl
others_after k (link i f ls) h =
    let other : (level i == k + 2) ≡ false = other_level (level i) (k + 2) (omega (arith, h)) in
    rw other refl

-- The operand f with the operators that t puts before others is the part g once k levels are joined.
abbrev pub IsJoined : ℕ → Formula → (Links → Links) → Formula → Type 0
IsJoined k f t g = (ls : Links) → Starts k ls → joined_to k f (t ls) ≡ (g, after k ls)

pair_is : (k : ℕ) (f : Formula) (ls : Links) → Starts (suc k) ls →
    joined_at (k + 2) (f, after k ls) ≡ (f, after (suc k) ls)
pair_is k f ls h =
    ap (λ m. (row_of f m, others (k + 2) (after k ls))) (front_after k ls h)
    ∙ ap (λ m. (f, m)) (others_after k ls h)

pub joined_more : (k : ℕ) (f g : Formula) (t : Links → Links) → IsJoined k f t g →
    IsJoined (suc k) f t g
joined_more k f g t h ls s =
    ap (joined_at (k + 2)) (h ls (starts_less k ls s)) ∙ pair_is k g ls s

pub joined_less : (n k : ℕ) (f g : Formula) (t : Links → Links) → IsJoined k f t g →
    IsJoined (n + k) f t g
joined_less zero k f g t h =
    let same : k ≡ 0 + k = omega arith in subst (λ j. IsJoined j f t g) same h
joined_less (suc n) k f g t h =
    let next : suc (n + k) ≡ suc n + k = omega arith in
    subst (λ j. IsJoined j f t g) next (joined_more (n + k) f g t (joined_less n k f g t h))

after_none : (ls : Links) → ls ≡ after zero ls
after_none no_links = refl
after_none (link i f ls) = refl

-- an operand alone is a part of every level
pub operand_joined : (k : ℕ) (f : Formula) → IsJoined k f (λ ls. ls) f
operand_joined zero f ls s = ap (λ m. (f, m)) (after_none ls)
operand_joined (suc k) f ls s = joined_more k f f (λ m. m) (operand_joined k f) ls s

-- the operators that t puts before others are ls, all of level k + 2, once k levels are joined
abbrev pub AreJoined : ℕ → (Links → Links) → Links → Type 0
AreJoined k t ls =
    (ms : Links) → Starts (suc k) ms
    → Starts k (t ms) × (after k (t ms) ≡ links_before ls (after k ms))

pub none_joined : (k : ℕ) → AreJoined k (λ ls. ls) no_links
none_joined k ms s = (starts_less k ms s, refl)

pub link_joined : (k : ℕ) (i : Infix) (f g : Formula) (ls : Links) (t u : Links → Links) →
    level i ≡ k + 2 → IsJoined k f t g → AreJoined k u ls →
    AreJoined k (λ ms. link i f (t (u ms))) (link i g ls)
link_joined k i f g ls t u is part more ms s =
    let behind = more ms s in (
      omega (arith, is),
      ap (λ p. link i p.0 p.1) (part (u ms) behind.0) ∙ ap (link i g) behind.1,
    )

-- all operators are of level n
abbrev pub AreOfLevel : ℕ → Links → Type 0
AreOfLevel n no_links = Unit {0}
AreOfLevel n (link i f ls) = (level i ≡ n) × AreOfLevel n ls

front_all : (n : ℕ) (ls ms : Links) → AreOfLevel n ls → front n (links_before ls ms)
    ≡ links_before ls (front n ms)
front_all n no_links ms h = refl
front_all n (link i f ls) ms h =
    let same = same_level (level i) n h.0 in rw (same, front_all n ls ms h.1) refl

others_all : (n : ℕ) (ls ms : Links) → AreOfLevel n ls → others n (links_before ls ms)
    ≡ others n ms
others_all n no_links ms h = refl
others_all n (link i f ls) ms h =
    let same = same_level (level i) n h.0 in rw (same, others_all n ls ms h.1) refl

row_made : (f : Formula) (ls : Links) → (ls ≡ no_links → ⊥) → row_of f ls ≡ row f ls
row_made f no_links some = absurd (some refl)
row_made f (link i g ls) some = refl

-- a part of a tighter level with operators of level k + 2 is a row
pub row_joined : (k : ℕ) (f g : Formula) (ls : Links) (t u : Links → Links) →
    (ls ≡ no_links → ⊥) → AreOfLevel (k + 2) ls → IsJoined k f t g → AreJoined k u ls →
    IsJoined (suc k) f (λ ms. t (u ms)) (row g ls)
row_joined k f g ls t u some levels part more ms s =
    let behind = more ms s in
    let first : front (k + 2) (links_before ls (after k ms)) ≡ ls =
    front_all (k + 2) ls (after k ms) levels ∙ ap (links_before ls) (front_after k ms s)
    ∙ links_before_none ls in
    let rest : others (k + 2) (links_before ls (after k ms)) ≡ after (suc k) ms =
    others_all (k + 2) ls (after k ms) levels ∙ others_after k ms s in
    ap (joined_at (k + 2)) (part (u ms) behind.0 ∙ ap (λ m. (g, m)) behind.1)
    ∙ ap (λ m. (row_of g m, others (k + 2) (links_before ls (after k ms)))) first
    ∙ ap (λ m. (row_of g ls, m)) rest ∙ ap (λ r. (r, after (suc k) ms)) (row_made g ls some)

-- with nothing after it, a part in which all levels are joined is the whole
pub all_grouped : (f g : Formula) (t : Links → Links) → IsJoined 12 f t g →
    grouped f (t no_links) ≡ g
all_grouped f g t h = ap (λ p. row_of p.0 p.1) (h no_links tt)
