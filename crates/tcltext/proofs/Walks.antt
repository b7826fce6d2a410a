-- The steps of reading a list whose elements are not stored.
use Rattle.std.proofs.Common.{◌≡◌, ℕ, zero, suc, ◌+◌, ◌-◌, ◌<◌, ◌≤◌, ◌==◌, ◌⊎◌, inl, inr, Bool, true, false, List, [], ◌∷◌, ◌++◌, length, take, drop, slice_get, Option, Some, Ok, refl, sym, ap, subst, ◌∙◌, append-nil, append_assoc, if◌then◌else◌, arith}
use Rattle.std.proofs.lemmas.Bool.Decides.{eqb_tells}
use Rattle.std.proofs.lemmas.List.{length-append, length-drop, drop-append-le, take-append-le, take_all, drop_all}
use Rattle.tcltext.specs.Canonical.{canonical, written}
use Rattle.tcltext.specs.Elements.{IsElement}
use Rattle.tcltext.specs.Joined.{separated}
use Rattle.tcltext.specs.White.{skip_white}
use Rattle.tcltext.proofs.Behind.{more_behind}
use Rattle.tcltext.proofs.Elements.{ListSoFar, after_element}

-- one element more is read
pub one_more : (x y z w : List ℕ) (es : List (List ℕ)) (e : List ℕ) → ListSoFar x y es →
    skip_white y ≡ y → IsElement y (Ok (e, z)) → w ≡ skip_white z → ListSoFar x w (es ++ e ∷ [])
one_more x y z w es e so_far skipped is rest =
    after_element x y z w es (es ++ e ∷ []) e so_far skipped is refl rest

pub counted : (es : List (List ℕ)) (e : List ℕ) (n : ℕ) → n ≡ length es →
    n + 1 ≡ length (es ++ e ∷ [])
counted es e n is = let all = length-append es (e ∷ []) in omega arith

-- the element that is sought is the one read now, or it was read before or comes later
found_here : (es : List (List ℕ)) (e : List ℕ) → Some e ≡ slice_get (es ++ e ∷ []) (length es)
found_here [] e = refl
found_here (d ∷ es) e = found_here es e

found_there : (es : List (List ℕ)) (e : List ℕ) (k : ℕ) → (length es ≡ k → ⊥) →
    slice_get es k ≡ slice_get (es ++ e ∷ []) k
found_there [] e zero apart = absurd (apart refl)
found_there [] e (suc k) apart = refl
found_there (d ∷ es) e zero apart = refl
found_there (d ∷ es) e (suc k) apart = found_there es e k (λ is. apart (ap suc is))

pub found : (es : List (List ℕ)) (e : List ℕ) (n k : ℕ) (r now : Option (List ℕ)) →
    n ≡ length es → r ≡ slice_get es k → now ≡ (if n == k then Some e else r) →
    now ≡ slice_get (es ++ e ∷ []) k
found es e n k r now many so is =
    elim (eqb_tells n k) [
      | inl p ↦
          let here : now ≡ Some e = rw p.0 at is in
          here ∙ found_here es e ∙ ap (slice_get (es ++ e ∷ [])) (sym many ∙ p.1)
      | inr p ↦
          let there : now ≡ r = rw p.0 at is in
          there ∙ so ∙ found_there es e k (λ same. p.1 (many ∙ same))
    ]

-- no elements have no part
pub no_part : (from most : ℕ) → take {A = List ℕ} most (drop from []) ≡ []
no_part from most =
    ap (take most) (drop_all {X = List ℕ} from [] (omega arith)) ∙ take_all most [] (omega arith)

-- an element of the part comes behind those before it
pub part_grows : (v : List (List ℕ)) (e : List ℕ) (from most : ℕ) → from ≤ length v →
    length v - from < most →
    take most (drop from (v ++ e ∷ [])) ≡ take most (drop from v) ++ e ∷ []
part_grows v e from most begun more =
    let long = length-drop from v in
    let whole : (u : List (List ℕ)) → length u ≤ most → take most u ≡ u = λ u fits. take_all most u fits in
    let all = length-append (drop from v) (e ∷ []) in
    ap (take most) (drop-append-le from v (e ∷ []) begun)
    ∙ whole (drop from v ++ e ∷ []) (omega arith)
    ∙ ap (λ u. u ++ e ∷ []) (sym (whole (drop from v) (omega arith)))

-- an element before the part or behind it changes nothing
pub part_stays : (v : List (List ℕ)) (e : List ℕ) (from most : ℕ) →
    (length v < from) ⊎ (most ≤ length v - from) →
    take most (drop from (v ++ e ∷ [])) ≡ take most (drop from v)
part_stays v e from most (inl before) =
    let all = length-append v (e ∷ []) in
    ap (take most) (drop_all from (v ++ e ∷ []) (omega arith) ∙ sym (drop_all from v (omega arith)))
part_stays v e from most (inr behind) =
    elim (eqb_tells most 0) [
      | inl p ↦ subst (λ n. take n (drop from (v ++ e ∷ [])) ≡ take n (drop from v)) (sym p.1) refl
      | inr p ↦
          let long = length-drop from v in
          ap (take most) (drop-append-le from v (e ∷ []) (omega arith))
          ∙ take-append-le most (drop from v) (e ∷ []) (omega arith)
    ]

-- the text of the part with an element written behind it
pub part_written : (v : List (List ℕ)) (e text new : List ℕ) (from most : ℕ) (first : Bool) →
    from ≤ length v → length v - from < most → text ≡ canonical (take most (drop from v)) →
    first ≡ (length text == 0) →
    new ≡ text ++ ((if first then [] else 32 ∷ []) ++ written first e) →
    new ≡ canonical (take most (drop from (v ++ e ∷ [])))
part_written v e text new from most first begun more is empty grown =
    grown
    ∙ ap (λ t. text ++ ((if first then [] else 32 ∷ []) ++ t)) (sym (append-nil (written first e)))
    ∙ more_behind (take most (drop from v)) (e ∷ []) text first is empty
    ∙ ap canonical (sym (part_grows v e from most begun more))

-- the text of the elements read so far, before whatever comes
abbrev pub Joins : List (List ℕ) → List ℕ → List ℕ → Bool → Type 0
Joins es separator text first = (v : List (List ℕ)) →
    text ++ separated first separator v ≡ separated true separator (es ++ v)

pub joins_one : (es : List (List ℕ)) (e separator text new : List ℕ) (first : Bool) →
    Joins es separator text first → new ≡ text ++ ((if first then [] else separator) ++ e) →
    Joins (es ++ e ∷ []) separator new false
joins_one es e separator text new first so_far grown v =
    let between = if first then [] else separator in
    let more = separated false separator v in
    ap (λ t. t ++ more) grown ∙ append_assoc text (between ++ e) more
    ∙ ap (λ t. text ++ t) (append_assoc between e more) ∙ so_far (e ∷ v)
    ∙ ap (separated true separator) (sym (append_assoc es (e ∷ []) v))

pub joins_all : (es : List (List ℕ)) (separator text : List ℕ) (first : Bool) →
    Joins es separator text first → text ≡ separated true separator es
joins_all es separator text first so_far =
    sym (append-nil text) ∙ so_far [] ∙ ap (separated true separator) (append-nil es)
