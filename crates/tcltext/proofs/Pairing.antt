-- The brace that pairs up, found by counting.
use Rattle.std.proofs.Common.{◌≡◌, ℕ, zero, suc, ◌+◌, ◌-◌, ◌==◌, List, [], ◌∷◌, ◌++◌, ◌⊎◌, inl, inr, Bool, true, false, cond, Option, Some, None, refl, sym, ap, ◌||◌, rules, subst, ◌∙◌, append_assoc, append-nil, length, get_or, take, drop, ◌<◌, ◌≤◌, length-drop, add-one, arith}
use Rattle.std.proofs.lemmas.Bool.Decides.{eqb_tells, nat_tests}
use Rattle.std.proofs.Math.Seq.{drop-cons, take-length}
use Rattle.std.proofs.Math.ListN.{drop_of_length-le}
use Rattle.tcltext.proofs.Choices.{or_false}
use Rattle.tcltext.specs.Balanced.{is_brace_byte, IsBalanced, nothing, a_byte, a_pair, a_group, IsPaired}

abbrev pub Found : Type 0
Found = Option (List ℕ × List ℕ)

abbrev pub keep : ℕ → Found → Found
keep c None = None
keep c (Some r) = Some (c ∷ r.0, r.1)

abbrev pub keep_all : List ℕ → Found → Found
keep_all front None = None
keep_all front (Some r) = Some (front ++ r.0, r.1)

-- With k braces open: the bytes up to the brace that closes them all, and what follows it.
-- hidden: a backslash stands before.
abbrev pub pairing : ℕ → Bool → List ℕ → Found
pairing k hidden [] = None
pairing k true (c ∷ x) = keep c (pairing k false x)
pairing k false (c ∷ x) =
    cond (c == 92) (keep c (pairing k true x)) (cond (c == 123) (keep c (pairing (k + 1) false x)) (
    cond (c == 125) (cond (k == 0) (Some ([], x)) (keep c (pairing (k - 1) false x)))
    (keep c (pairing k false x))))

keep_keep_all : (c : ℕ) (x : List ℕ) (r : Found) → keep c (keep_all x r) ≡ keep_all (c ∷ x) r
keep_keep_all c x None = refl
keep_keep_all c x (Some r) = refl

keep_none : (r : Found) → r ≡ keep_all [] r
keep_none None = refl
keep_none (Some r) = refl

keep_append : (x y : List ℕ) (r : Found) → keep_all x (keep_all y r) ≡ keep_all (x ++ y) r
keep_append x y None = refl
keep_append x y (Some r) = ap (λ z. Some (z, r.1)) (sym (append_assoc x y r.0))

-- a byte that counts for nothing
other_byte : (k c : ℕ) (x : List ℕ) → is_brace_byte c ≡ false → pairing k false (c ∷ x)
    ≡ keep c (pairing k false x)
other_byte k c x h =
    let a = or_false (c == 92) ((c == 123) || (c == 125)) h in
    let b = or_false (c == 123) (c == 125) a.1 in
    rw (a.0, b.0, b.1) refl

close_byte : (k : ℕ) (x : List ℕ) → pairing (k + 1) false (125 ∷ x) ≡ keep 125 (pairing k false x)
close_byte k x =
    let more : (k + 1 == 0) ≡ false = search (rules, nat_tests) in
    let back : k + 1 - 1 ≡ k = omega arith in
    rw (more, back) refl

-- a balanced text is passed over as a whole
pub balanced_kept : (e : List ℕ) → IsBalanced e → (k : ℕ) (y : List ℕ) → pairing k false (e ++ y)
    ≡ keep_all e (pairing k false y)
balanced_kept _ nothing k y = keep_none (pairing k false y)
balanced_kept _ (a_byte c x p b) k y = other_byte k c (x ++ y) p
    ∙ ap (keep c) (balanced_kept x b k y) ∙ keep_keep_all c x (pairing k false y)
balanced_kept _ (a_pair c x b) k y =
    ap (λ r. keep 92 (keep c r)) (balanced_kept x b k y)
    ∙ ap (keep 92) (keep_keep_all c x (pairing k false y))
    ∙ keep_keep_all 92 (c ∷ x) (pairing k false y)
balanced_kept _ (a_group x z b d) k y =
    let rest = pairing k false y in
    ap (λ w. keep 123 (pairing (k + 1) false w)) (append_assoc x (125 ∷ z) y)
    ∙ ap (keep 123) (balanced_kept x b (k + 1) (125 ∷ (z ++ y))
    ∙ ap (keep_all x) (close_byte k (z ++ y) ∙ ap (keep 125) (balanced_kept z d k y)
    ∙ keep_keep_all 125 z rest)
    ∙ keep_append x (125 ∷ z) rest) ∙ keep_keep_all 123 (x ++ 125 ∷ z) rest

-- the rests of k open groups, with a closing brace after each, and then a balanced text
abbrev pub Closes : ℕ → List ℕ → Type 0
Closes zero e = IsBalanced e
Closes (suc k) e = (a b : List ℕ) × (e ≡ a ++ 125 ∷ b) × IsBalanced a × Closes k b

pub closes_byte : (k c : ℕ) (e : List ℕ) → is_brace_byte c ≡ false → Closes k e → Closes k (c ∷ e)
closes_byte zero c e p h = a_byte c e p h
closes_byte (suc k) c e p h = (c ∷ h.0, h.1, ap (λ z. c ∷ z) h.2, a_byte c h.0 p h.3, h.4)

pub closes_pair : (k c : ℕ) (e : List ℕ) → Closes k e → Closes k (92 ∷ c ∷ e)
closes_pair zero c e h = a_pair c e h
closes_pair (suc k) c e h = (92 ∷ c ∷ h.0, h.1, ap (λ z. 92 ∷ c ∷ z) h.2, a_pair c h.0 h.3, h.4)

pub closes_open : (k : ℕ) (e : List ℕ) → Closes (suc k) e → Closes k (123 ∷ e)
closes_open zero e h = subst IsBalanced (sym (ap (λ z. 123 ∷ z) h.2)) (a_group h.0 h.1 h.3 h.4)
closes_open (suc k) e h =
    let inner = h.4 in (
      123 ∷ h.0 ++ 125 ∷ inner.0,
      inner.1,
      ap (λ z. 123 ∷ z) (h.2 ∙ ap (λ z. h.0 ++ 125 ∷ z) inner.2
          ∙ sym (append_assoc h.0 (125 ∷ inner.0) (125 ∷ inner.1))),
      a_group h.0 inner.0 h.3 inner.3,
      inner.4,
    )

pub closes_close : (k : ℕ) (e : List ℕ) → Closes k e → Closes (suc k) (125 ∷ e)
closes_close k e h = ([], e, refl, nothing, h)

pub same_pair : (p q : List ℕ × List ℕ) → Some p ≡ Some q → (p.0 ≡ q.0) × (p.1 ≡ q.1)
same_pair p q h = let e : p ≡ q = cc in (ap (λ r. r.0) e, ap (λ r. r.1) e)

keep_found : (c : ℕ) (r : Found) (e z : List ℕ) → keep c r ≡ Some (e, z) → (d : List ℕ)
    × (r ≡ Some (d, z)) × (e ≡ c ∷ d)
keep_found c None e z h = absurd (cc)
keep_found c (Some r) e z h =
    let same = same_pair (c ∷ r.0, r.1) (e, z) h in
    (r.0, ap (λ y. Some (r.0, y)) same.1, sym same.0)

byte_cases : (c : ℕ) → (c ≡ 92) ⊎ ((c ≡ 123) ⊎ ((c ≡ 125) ⊎ (is_brace_byte c ≡ false)))
byte_cases c = elim (eqb_tells c 92) [
  | inl p ↦ inl p.1
  | inr p ↦ elim (eqb_tells c 123) [
    | inl q ↦ inr (inl q.1)
    | inr q ↦ elim (eqb_tells c 125) [
      | inl r ↦ inr (inr (inl r.1))
      | inr r ↦ inr (inr (inr (rw (p.0, q.0, r.0) refl)))
    ]
  ]
]

-- The found text closes each of the k open braces, and a closing brace follows it
abbrev pub IsFound : ℕ → List ℕ → List ℕ → List ℕ → Type 0
IsFound k x e z = (x ≡ e ++ 125 ∷ z) × Closes k e

-- a closing brace
found_close : (k : ℕ) (x e z : List ℕ) → pairing k false (125 ∷ x) ≡ Some (e, z) →
    ((j : ℕ) (d y : List ℕ) → pairing j false x ≡ Some (d, y) → IsFound j x d y) →
    IsFound k (125 ∷ x) e z
found_close zero x e z h so =
    let same = same_pair ([], x) (e, z) h in
    (ap (λ y. 125 ∷ y) same.1 ∙ ap (λ y. y ++ 125 ∷ z) same.0, subst IsBalanced same.0 nothing)
found_close (suc k) x e z h so =
    let is : keep 125 (pairing k false x) ≡ Some (e, z) =
    sym (close_byte k x) ∙ ap (λ j. pairing j false (125 ∷ x)) (add-one k) ∙ h in
    let found = keep_found 125 (pairing k false x) e z is in
    let rest = so k found.0 z found.1 in (
      ap (λ y. 125 ∷ y) rest.0 ∙ ap (λ y. y ++ 125 ∷ z) (sym found.2),
      subst (Closes (suc k)) (sym found.2) (closes_close k found.0 rest.1),
    )

mutual
  pub found_closes : (x : List ℕ) (k : ℕ) (e z : List ℕ) → pairing k false x ≡ Some (e, z) →
      IsFound k x e z
  found_closes [] k e z h = absurd (cc)
  found_closes (c ∷ x) k e z h = elim (byte_cases c) [
    | inl p ↦ subst (λ b. IsFound k (b ∷ x) e z) (sym p)
        (found_hidden x k e z (ap (λ b. pairing k false (b ∷ x)) (sym p) ∙ h))
    | inr p ↦ elim p [
      | inl q ↦ subst (λ b. IsFound k (b ∷ x) e z) (sym q) (
          let found = keep_found 123 (pairing (k + 1) false x) e z
          (ap (λ b. pairing k false (b ∷ x)) (sym q) ∙ h) in
          let rest = found_closes x (k + 1) found.0 z found.1 in (
            ap (λ y. 123 ∷ y) rest.0 ∙ ap (λ y. y ++ 125 ∷ z) (sym found.2),
            subst (Closes k) (sym found.2) (closes_open k found.0
                (subst (λ j. Closes j found.0) (add-one k) rest.1)),
          ))
      | inr q ↦ elim q [
        | inl r ↦ subst (λ b. IsFound k (b ∷ x) e z) (sym r)
            (found_close k x e z (ap (λ b. pairing k false (b ∷ x)) (sym r) ∙ h)
            (λ j d y is. found_closes x j d y is))
        | inr r ↦
            let found = keep_found c (pairing k false x) e z (sym (other_byte k c x r) ∙ h) in
            let rest = found_closes x k found.0 z found.1 in (
              ap (λ y. c ∷ y) rest.0 ∙ ap (λ y. y ++ 125 ∷ z) (sym found.2),
              subst (Closes k) (sym found.2) (closes_byte k c found.0 r rest.1),
            )
      ]
    ]
  ]

  found_hidden : (x : List ℕ) (k : ℕ) (e z : List ℕ) → keep 92 (pairing k true x) ≡ Some (e, z) →
      IsFound k (92 ∷ x) e z
  found_hidden [] k e z h = absurd (cc)
  found_hidden (c ∷ x) k e z h =
      let outer = keep_found 92 (keep c (pairing k false x)) e z h in
      let found = keep_found c (pairing k false x) outer.0 z outer.1 in
      let rest = found_closes x k found.0 z found.1 in
      let is : e ≡ 92 ∷ c ∷ found.0 = outer.2 ∙ ap (λ y. 92 ∷ y) found.2 in (
        ap (λ y. 92 ∷ c ∷ y) rest.0 ∙ ap (λ y. y ++ 125 ∷ z) (sym is),
        subst (Closes k) (sym is) (closes_pair k c found.0 rest.1),
      )

-- A brace is found exactly where the text before it is balanced.
pub found_pairs : (x e z : List ℕ) → pairing 0 false x ≡ Some (e, z) → IsPaired x e z
found_pairs x e z h = found_closes x 0 e z h

pub pairs_found : (x e z : List ℕ) → IsPaired x e z → pairing 0 false x ≡ Some (e, z)
pairs_found x e z h = ap (pairing 0 false) h.0 ∙ balanced_kept e h.1 0 (125 ∷ z)
    ∙ ap (λ y. Some (y, z)) (append-nil e)

pub pairs_nowhere : (x : List ℕ) → pairing 0 false x ≡ None → (e z : List ℕ) → IsPaired x e z → ⊥
pairs_nowhere x h e z p = let found = pairs_found x e z p in cc

-- A text pairs up in one way or in none.
pub one_pair : (x d y e z : List ℕ) → IsPaired x d y → IsPaired x e z → (d ≡ e) × (y ≡ z)
one_pair x d y e z h k = same_pair (d, y) (e, z) (sym (pairs_found x d y h) ∙ pairs_found x e z k)

found_or_none : (x : List ℕ) (r : Found) → pairing 0 false x ≡ r →
    ((e z : List ℕ) × IsPaired x e z) ⊎ ((e z : List ℕ) → IsPaired x e z → ⊥)
found_or_none x None h = inr (pairs_nowhere x h)
found_or_none x (Some p) h = inl (p.0, p.1, found_pairs x p.0 p.1 h)

pub pair_or_none : (x : List ℕ) → ((e z : List ℕ) × IsPaired x e z) ⊎ ((e z : List ℕ) →
    IsPaired x e z → ⊥)
pair_or_none x = found_or_none x (pairing 0 false x) refl

-- the text from a place on, as a range
pub range_rest : (x : List ℕ) (i : ℕ) → take (length x - i) (drop i x) ≡ drop i x
range_rest x i = ap (λ n. take n (drop i x)) (sym (length-drop i x)) ∙ take-length (drop i x)

-- The loop has come to the closing brace.
pub found_here : (x : List ℕ) (i depth : ℕ) (hidden : Bool) →
    keep_all (take i x) (pairing depth hidden (drop i x)) ≡ pairing 0 false x → i < length x
    → hidden ≡ false → depth ≡ 0 → get_or x i 0 ≡ 125 →
    IsPaired x (take i x) (take (length x - (i + 1)) (drop (i + 1) x))
found_here x i depth hidden h within unhidden none closes =
    let rest = drop (i + 1) x in
    let at : drop i x ≡ 125 ∷ rest = drop-cons x i 0 within ∙ ap (λ c. c ∷ drop (suc i) x) closes
    ∙ ap (λ j. 125 ∷ drop j x) (sym (add-one i)) in
    let found : pairing depth hidden (drop i x) ≡ Some ([], rest) =
    ap (λ y. pairing depth hidden y) at ∙ ap (λ b. pairing depth b (125 ∷ rest)) unhidden
    ∙ ap (λ k. pairing k false (125 ∷ rest)) none in
    let whole : pairing 0 false x ≡ Some (take i x, rest) =
    sym h ∙ ap (keep_all (take i x)) found ∙ ap (λ y. Some (y, rest)) (append-nil (take i x)) in
    let pair = found_pairs x (take i x) rest whole in
    (pair.0 ∙ ap (λ y. take i x ++ 125 ∷ y) (sym (range_rest x (i + 1))), pair.1)

-- The loop has come to the text's end.
pub found_nowhere : (x : List ℕ) (i depth : ℕ) (hidden : Bool) →
    keep_all (take i x) (pairing depth hidden (drop i x)) ≡ pairing 0 false x → length x ≤ i
    → (e z : List ℕ) → IsPaired x e z → ⊥
found_nowhere x i depth hidden h end =
    pairs_nowhere x (sym h ∙ ap (λ y. keep_all (take i x) (pairing depth hidden y))
    (drop_of_length-le x end))
