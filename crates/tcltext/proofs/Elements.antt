-- The steps of reading a list.
use Rattle.std.proofs.Common.{◌≡◌, ℕ, ◌==◌, ◌<◌, length, arith, rules, List, [], ◌∷◌, ◌++◌, Bool, true, false, cond, Option, Some, None, Result, Ok, Err, IsErrAnd, IfSome, IfErr, Vec, refl, sym, ap, subst, ◌∙◌, append-nil, append_assoc}
use Rattle.tcltext.specs.Flaw.{Flaw}
use Rattle.std.proofs.lemmas.Result.{err_from_is_err_and}
use Rattle.std.proofs.lemmas.Bool.Decides.{nat_tests}
use Rattle.tcltext.specs.White.{is_white, skip_white}
use Rattle.tcltext.specs.Elements.{opening, IsOpened, IsElement, IsElements, IsList, HasFlaw}
use Rattle.tcltext.specs.declared.list.fault.ListFault.{ListFault}
use Rattle.tcltext.specs.Seen.{texts, flaw_of}

skip_twice_at : (c : ℕ) (x : List ℕ) (b : Bool) → is_white c ≡ b → skip_white (skip_white x)
    ≡ skip_white x → skip_white (cond b (skip_white x) (c ∷ x)) ≡ cond b (skip_white x) (c ∷ x)
skip_twice_at c x true e h = h
skip_twice_at c x false e h = rw e refl

pub skip_twice : (x : List ℕ) → skip_white (skip_white x) ≡ skip_white x
skip_twice [] = refl
skip_twice (c ∷ x) = skip_twice_at c x (is_white c) refl (skip_twice x)

-- white before the elements makes no difference
pub elements_skipped : (v : List (List ℕ)) (o : Option Flaw) (x : List ℕ) →
    IsElements v o (skip_white x) → IsElements v o x
elements_skipped [] None x h = sym (skip_twice x) ∙ h
elements_skipped [] (Some f) x h = subst (λ y. IsElement y (Err f)) (skip_twice x) h
elements_skipped (e ∷ v) o x h = (
  h.0,
  subst (λ y. IsElement y (Ok (e, h.0))) (skip_twice x) h.1,
  h.2,
)

-- Whatever elements y has, x has the elements es before them.
abbrev pub ListSoFar : List ℕ → List ℕ → List (List ℕ) → Type 0
ListSoFar x y es = (v : List (List ℕ)) (o : Option Flaw) → IsElements v o y →
    IsElements (es ++ v) o x

pub texts_push : {A : Type 0} (es : List (Vec ℕ A)) (e : Vec ℕ A) → texts (es ++ e ∷ []) ≡ texts es
    ++ e.items ∷ []
texts_push [] e = refl
texts_push (d ∷ es) e = ap (λ t. d.items ∷ t) (texts_push es e)

pub list_begins : (x y : List ℕ) → y ≡ skip_white x → ListSoFar x y []
list_begins x y is v o h = elements_skipped v o x (subst (λ z. IsElements v o z) is h)

pub after_element : (x y z w : List ℕ) (es ds : List (List ℕ)) (e : List ℕ) → ListSoFar x y es →
    skip_white y ≡ y → IsElement y (Ok (e, z))
    → ds ≡ es ++ e ∷ [] → w ≡ skip_white z → ListSoFar x w ds
after_element x y z w es ds e so_far skipped is pushed rest v o h =
    let next : IsElements (e ∷ v) o y = (
      z,
      subst (λ u. IsElement u (Ok (e, z))) (sym skipped) is,
      elements_skipped v o z (subst (λ u. IsElements v o u) rest h),
    ) in
    let same : es ++ e ∷ v ≡ ds ++ v = sym (append_assoc es (e ∷ []) v)
    ∙ ap (λ t. t ++ v) (sym pushed) in
    subst (λ t. IsElements t o x) same (so_far (e ∷ v) o next)

pub list_ends : (x y : List ℕ) (es : List (List ℕ)) → ListSoFar x y es → y ≡ [] → IsList es x
list_ends x y es so_far none = subst (λ t. IsElements t None x) (append-nil es)
    (so_far [] None (ap skip_white none))

-- the element's flaw, if there is one, is the list's
pub list_flaw : (x y : List ℕ) (es : List (List ℕ)) (o : Option Flaw) → ListSoFar x y es →
    skip_white y ≡ y → IfSome o (λ f. IsOpened (opening y) (Err f)) → IfSome o (λ f. HasFlaw f x)
list_flaw x y es None so_far skipped h = h
list_flaw x y es (Some f) so_far skipped h =
    (es ++ [], so_far [] (Some f) (subst (λ u. IsElement u (Err f)) (sym skipped) h))

pub skipped_is : (x y : List ℕ) → y ≡ skip_white x → skip_white y ≡ y
skipped_is x y e = ap skip_white e ∙ skip_twice x ∙ sym e

-- an error that is passed on
pub passed_on : {T : Type 0} (r : Result T ListFault) (f : ListFault) → IsErrAnd r (λ g. g ≡ f) → r
    ≡ Err f
passed_on r f h = let q = err_from_is_err_and r h in rw q.2 at q.1

pub split_fault : {T : Type 0} (x y : List ℕ) (es : List (List ℕ)) (f : ListFault)
    (r : Result T ListFault) → ListSoFar x y es → skip_white y ≡ y
    → IfSome (flaw_of f) (λ w. IsOpened (opening y) (Err w)) → r ≡ Err f →
    IfErr r (λ g. IfSome (flaw_of g) (λ w. HasFlaw w x))
split_fault {T} x y es f r so_far skipped h is =
    let P : Result T ListFault → Type 0 =
    λ q. IfErr q (λ g. IfSome (flaw_of g) (λ w. HasFlaw w x)) in
    subst P (sym is) (list_flaw x y es (flaw_of f) so_far skipped h)

pub none_left : (x : List ℕ) → true ≡ (length x == 0) → x ≡ []
none_left [] h = refl
none_left (c ∷ x) h = absurd (search (rules, nat_tests))

pub some_left : (x : List ℕ) → false ≡ (length x == 0) → 0 < length x
some_left [] h = absurd (cc)
some_left (c ∷ x) h = omega arith
