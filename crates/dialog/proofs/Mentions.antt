-- The first mentions of ids, one list after another.
use Rattle.std.proofs.Common.{◌≡◌, ℕ, ◌==◌, ◌<◌, Bool, true, false, List, [], ◌∷◌, ◌++◌, if◌then◌else◌, refl, sym, ap, ◌∙◌, append_assoc, append-nil, arith, rules}
use Rattle.std.proofs.lemmas.Bool.Decides.{nat_tests}
use Rattle.acts.specs.declared.id.Id.{Id}
use Rattle.choices.specs.Branches.{Pair, Branches}
use Rattle.dialog.specs.Standing.{Standing, RiseAfter, is_among, first_mentions, ids_of, waited}

-- one id further
pub mentioned : (seen new : List Id) (i : Id) (is : List Id) →
    new ≡ seen ++ first_mentions seen (i ∷ []) →
    new ++ first_mentions new is ≡ seen ++ first_mentions seen (i ∷ is)
mentioned seen new i is same = by (is_among seen i) refl
  where
    chosen : List Id → Bool → List Id
    chosen js b = if b then first_mentions seen js else i ∷ first_mentions (seen ++ i ∷ []) js

    by : (b : Bool) → is_among seen i ≡ b →
        new ++ first_mentions new is ≡ seen ++ first_mentions seen (i ∷ is)
    by true at =
        let e : new ≡ seen = same ∙ ap (λ b. seen ++ chosen [] b) at ∙ append-nil seen in
        (λ k. e k ++ first_mentions (e k) is) ∙ ap (λ b. seen ++ chosen is b) (sym at)
    by false at =
        let e : new ≡ seen ++ i ∷ [] = same ∙ ap (λ b. seen ++ chosen [] b) at in
        (λ k. e k ++ first_mentions (e k) is)
        ∙ append_assoc seen (i ∷ []) (first_mentions (seen ++ i ∷ []) is)
        ∙ ap (λ b. seen ++ chosen is b) (sym at)

-- one list and then another
both : (seen a b : List Id) → first_mentions seen (a ++ b)
    ≡ first_mentions seen a ++ first_mentions (seen ++ first_mentions seen a) b
both seen [] b = ap (λ js. first_mentions js b) (sym (append-nil seen))
both seen (i ∷ a) b = by (is_among seen i) (both seen a b) (both (seen ++ i ∷ []) a b)
  where
    fm : List Id → List Id → List Id
    fm js is = first_mentions js is

    by : (c : Bool) → fm seen (a ++ b) ≡ fm seen a ++ fm (seen ++ fm seen a) b →
        fm (seen ++ i ∷ []) (a ++ b) ≡ fm (seen ++ i ∷ []) a
        ++ fm ((seen ++ i ∷ []) ++ fm (seen ++ i ∷ []) a) b →
        (if c then fm seen (a ++ b) else i ∷ fm (seen ++ i ∷ []) (a ++ b))
        ≡ (if c then fm seen a else i ∷ fm (seen ++ i ∷ []) a)
        ++ fm (seen ++ (if c then fm seen a else i ∷ fm (seen ++ i ∷ []) a)) b
    by true old new = old
    by false old new = ap (λ js. i ∷ js) (new
        ∙ ap (λ js. fm (seen ++ i ∷ []) a ++ fm js b)
        (append_assoc seen (i ∷ []) (fm (seen ++ i ∷ []) a)))

-- three lists, one after the other
pub three : (a b c x y z : List Id) → x ≡ [] ++ first_mentions [] a → y ≡ x ++ first_mentions x b →
    z ≡ y ++ first_mentions y c → z ≡ first_mentions [] (a ++ (b ++ c))
three a b c x y z is_x is_y is_z =
    is_z ∙ (λ k. is_y k ++ first_mentions (is_y k) c)
    ∙ append_assoc x (first_mentions x b) (first_mentions (x ++ first_mentions x b) c)
    ∙ ap (λ js. x ++ js) (sym (both x b c))
    ∙ (λ k. is_x k ++ first_mentions (is_x k) (b ++ c))
    ∙ sym (both [] a (b ++ c))

-- the ids that are waited for
pub waited_is : (s : Standing) (b : Branches) (before after : List Pair) (named v x y z : List Id) →
    v ≡ [] → before ≡ s.before → named ≡ b.named → after ≡ s.after →
    x ≡ v ++ first_mentions v (ids_of before) → y ≡ x ++ first_mentions x named →
    z ≡ y ++ first_mentions y (ids_of after) → z ≡ waited s b
waited_is s b before after named v x y z none is_b is_n is_a ix iy iz =
    three (ids_of before) named (ids_of after) x y z
    (ix ∙ (λ k. none k ++ first_mentions (none k) (ids_of before))) iy iz
    ∙ (λ k. first_mentions [] (ids_of (is_b k) ++ (is_n k ++ ids_of (is_a k))))

-- each of these ids has a lower number
abbrev AreBelow : List Id → Id → Type 0
AreBelow [] i = Unit {0}
AreBelow (j ∷ js) i = (j.0 < i.0) × AreBelow js i

below_more : (js : List Id) (i k : Id) → AreBelow js i → i.0 < k.0 → AreBelow (js ++ i ∷ []) k
below_more [] i k below lt = (lt, tt)
below_more (j ∷ js) i k below lt =
    let first : j.0 < i.0 = below.0 in
    let beyond : j.0 < k.0 = omega arith in
    (beyond, below_more js i k below.1 lt)

not_same : (n m : ℕ) → n < m → (n == m) ≡ false
not_same n m lt = grind (arith, nat_tests)

-- an id above all others is not among them
not_among : (js : List Id) (i : Id) → AreBelow js i → is_among js i ≡ false
not_among [] i below = refl
not_among (j ∷ js) i below =
    let first : (j.0 == i.0) ≡ false = not_same j.0 i.0 below.0 in
    let rest : is_among js i ≡ false = not_among js i below.1 in
    search (rules, first, rest)

-- ids that rise, after lower ones, are all mentioned for the first time
all_first : (seen : List Id) (i : Id) (is : List Id) → AreBelow seen i → RiseAfter i is →
    first_mentions seen (i ∷ is) ≡ i ∷ is
all_first seen i [] below rise =
    ap (λ b. if b then first_mentions seen [] else i ∷ first_mentions (seen ++ i ∷ []) [])
    (not_among seen i below)
all_first seen i (j ∷ is) below rise =
    ap (λ b. if b then first_mentions seen (j ∷ is)
    else i ∷ first_mentions (seen ++ i ∷ []) (j ∷ is)) (not_among seen i below)
    ∙ ap (λ js. i ∷ js)
    (all_first (seen ++ i ∷ []) j is (below_more seen i j below rise.0) rise.1)

pub rising : (i : Id) (is : List Id) → RiseAfter i is → first_mentions [] (i ∷ is) ≡ i ∷ is
rising i is rise = all_first [] i is tt rise
