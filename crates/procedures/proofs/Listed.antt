-- Which formals a text is read as, where it is known whether it is a list of formals.
use Rattle.std.proofs.Common.{◌≡◌, ℕ, List, [], ◌∷◌, Option, Some, None, Result, Ok, Err, ◌⊎◌, inl, inr, refl}
use Rattle.acts.specs.Flaw as acts
use Rattle.kinds.proofs.Readings.{bind_comes, bind_fails, list_comes}
use Rattle.kinds.specs.Readings.{Reading, ComesTo, Found, and_bind, elements}
use Rattle.procedures.specs.Formals.{bad_formals, each_of, formal_in, formal_of, listed}
use Rattle.tclstate.specs.Formals.{Formal, IsFormal, AreFormals, IsFormals, HasBadFormal, parts}
use Rattle.tcltext.specs.Elements.{IsList, HasFlaw}
use Rattle.tcltext.specs.Flaw.{Flaw}
use Rattle.tcltext.proofs.Total.{list_or_flaw}

-- text is the whole text of the formals
module _ (text : List ℕ) where
  -- a name, and its default if it has one, are a formal
  formal_is : (name : List ℕ) (default : Option (List ℕ)) →
      formal_in text (Ok (parts name default)) ≡ Ok (record { name = name; default = default })
  formal_is name None = refl
  formal_is name (Some default) = refl

  -- an element that is a formal
  formal_comes : (f : Formal) (e : List ℕ) → IsFormal f e → ComesTo (formal_of text e) (Ok f)
  formal_comes f e is = (Ok (parts f.name f.default), is, formal_is f.name f.default)

  -- an element that is read as no formal
  abbrev IsNone : List ℕ → Type 0
  IsNone e = ComesTo (formal_of text e) (Err (bad_formals text))

  decided : (e : List ℕ) →
      ((v : List (List ℕ)) × IsList v e) ⊎ ((why : Flaw) × HasFlaw why e) →
      ((f : Formal) × IsFormal f e) ⊎ IsNone e
  decided e (inl ([], is)) = inr (Ok [], is, refl)
  decided e (inl (name ∷ [], is)) = inl (record { name = name; default = None }, is)
  decided e (inl (name ∷ default ∷ [], is)) =
      inl (record { name = name; default = Some default }, is)
  decided e (inl (name ∷ default ∷ other ∷ more, is)) =
      inr (Ok (name ∷ default ∷ other ∷ more), is, refl)
  decided e (inr (why, has)) = inr (Err why, has, refl)

  -- a formal, and what the others are read as
  module _ (e : List ℕ) (es : List (List ℕ)) (f : Formal) (is : IsFormal f e) where
    abbrev others : Formal → Reading (Result (List Formal) acts.Flaw)
    others first = and_bind (each_of text es) (λ fs. Found (Ok (first ∷ fs)))

    one_more : (fs : List Formal) → ComesTo (each_of text es) (Ok fs) →
        ComesTo (each_of text (e ∷ es)) (Ok (f ∷ fs))
    one_more fs comes =
        bind_comes (formal_of text e) others f (Ok (f ∷ fs)) (formal_comes f e is)
        (bind_comes (each_of text es) (λ fs. Found (Ok (f ∷ fs))) fs (Ok (f ∷ fs)) comes refl)

    none_more : ComesTo (each_of text es) (Err (bad_formals text)) →
        ComesTo (each_of text (e ∷ es)) (Err (bad_formals text))
    none_more fails =
        bind_comes (formal_of text e) others f (Err (bad_formals text)) (formal_comes f e is)
        (bind_fails (each_of text es) (λ fs. Found (Ok (f ∷ fs))) (bad_formals text) fails)

  -- elements that are formals
  each_comes : (fs : List Formal) (es : List (List ℕ)) → AreFormals fs es →
      ComesTo (each_of text es) (Ok fs)
  each_comes [] [] are = refl
  each_comes (f ∷ fs) (e ∷ es) are = one_more e es f are.0 fs (each_comes fs es are.1)
  each_comes [] (e ∷ es) are = absurd are
  each_comes (f ∷ fs) [] are = absurd are

  -- elements that are not all read as formals
  abbrev AreNone : List (List ℕ) → Type 0
  AreNone es = ComesTo (each_of text es) (Err (bad_formals text))

  all_decided : (es : List (List ℕ)) → ((fs : List Formal) × AreFormals fs es) ⊎ AreNone es
  all_decided [] = inl ([], tt)
  all_decided (e ∷ es) = both (decided e (list_or_flaw e)) (all_decided es)
    where
      both : ((f : Formal) × IsFormal f e) ⊎ IsNone e →
          ((fs : List Formal) × AreFormals fs es) ⊎ AreNone es →
          ((fs : List Formal) × AreFormals fs (e ∷ es)) ⊎ AreNone (e ∷ es)
      both (inl f) (inl fs) = inl (f.0 ∷ fs.0, (f.1, fs.1))
      both (inl f) (inr none) = inr (none_more e es f.0 f.1 none)
      both (inr bad) rest =
          let others : Formal → Reading (Result (List Formal) acts.Flaw) =
          λ first. and_bind (each_of text es) (λ fs. Found (Ok (first ∷ fs))) in
          inr (bind_fails (formal_of text e) others (bad_formals text) bad)

  -- a text that is a list of formals
  pub formals_come : (fs : List Formal) → IsFormals fs text → ComesTo (listed text) (Ok fs)
  formals_come fs is =
      bind_comes (elements text) (λ es. each_of text es) is.0 (Ok fs) (list_comes text is.0 is.1)
      (each_comes fs is.0 is.2)

  -- a list of which some element is no formal
  pub no_formals_come : HasBadFormal text → ComesTo (listed text) (Err (bad_formals text))
  no_formals_come bad = by (all_decided bad.0)
    where
      by : ((fs : List Formal) × AreFormals fs bad.0) ⊎ AreNone bad.0 →
          ComesTo (listed text) (Err (bad_formals text))
      by (inl fs) = absurd (bad.2 fs.0 fs.1)
      by (inr none) =
          bind_comes (elements text) (λ es. each_of text es) bad.0 (Err (bad_formals text))
          (list_comes text bad.0 bad.1) none
