-- A meaning yields only one answer.
use Rattle.std.proofs.Common.{◌≡◌, ◌↔◌, ℕ, Bool, true, false, List, Result, Ok, Err, MatchResult, IsTrue, refl, sym, ap, subst, ◌∙◌}
use Rattle.meanings.specs.Meaning.{Answer, Meaning, Gives, Raises, Splits, Matches, Comes, IsSplit, flaw_of_list}
use Rattle.tcltext.specs.Flaw.{Flaw}
use Rattle.tcltext.proofs.Unique.{one_list, one_flaw, no_list_with_flaw}

-- two tests of the same thing have the same result
pub same_truth : (p q : Bool) (P : Type 0) → IsTrue p ↔ P → IsTrue q ↔ P → p ≡ q
same_truth true true P one other = refl
same_truth true false P one other = sym (other.1 (one.0 refl))
same_truth false true P one other = one.1 (other.0 refl)
same_truth false false P one other = refl

-- a text is read as a list in one way, so that what follows has one answer
split_once : (text : List ℕ) (next : List (List ℕ) → Meaning) →
    ((v : List (List ℕ)) (a b : Answer) → Comes (next v) a → Comes (next v) b → a ≡ b) →
    (s t : Result (List (List ℕ)) Flaw) → IsSplit text s → IsSplit text t → (a b : Answer) →
    MatchResult s (λ v. Comes (next v) a) (λ why. a ≡ Err (flaw_of_list why)) →
    MatchResult t (λ v. Comes (next v) b) (λ why. b ≡ Err (flaw_of_list why)) → a ≡ b
split_once text next each (Ok v) (Ok u) is it a b x y =
    each v a b x (subst (λ w. Comes (next w) b) (sym (one_list text v u is it)) y)
split_once text next each (Ok v) (Err g) is it a b x y =
    absurd (no_list_with_flaw text v g is it)
split_once text next each (Err f) (Ok u) is it a b x y =
    absurd (no_list_with_flaw text u f it is)
split_once text next each (Err f) (Err g) is it a b x y =
    x ∙ ap (λ (h : Flaw). let told : Answer = Err (flaw_of_list h) in told)
    (one_flaw text f g is it) ∙ sym y

pub once : (m : Meaning) (a b : Answer) → Comes m a → Comes m b → a ≡ b
once (Gives value) a b x y = x ∙ sym y
once (Raises flaw) a b x y = x ∙ sym y
once (Splits text next) a b x y =
    split_once text next (λ v. once (next v)) x.0 y.0 x.1 y.1 a b x.2 y.2
once (Matches pattern text next) a b x y =
    let same : x.0 ≡ y.0 = same_truth x.0 y.0 _ x.1 y.1 in
    once (next x.0) a b x.2 (subst (λ v. Comes (next v) b) (sym same) y.2)
