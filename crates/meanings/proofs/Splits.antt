-- What is said of a text that is read as a list.
use Rattle.std.proofs.Common.{◌≡◌, ℕ, List, Option, Some, None, option_map, IfSome, Result, Ok, Err, IsErrAnd, ap}
use Rattle.acts.specs.Flaw.{flaw_of}
use Rattle.acts.specs.declared.raise.Raise.{Raise}
use Rattle.acts.specs.declared.raise.Raise.TheVariants as raise
use Rattle.meanings.specs.Meaning.{Meaning, Splits, flaw_of_list}
use Rattle.meanings.specs.View.{Answers, Tells, IsNoList}
use Rattle.tcltext.specs.Elements.{IsList, HasFlaw}
use Rattle.tcltext.specs.Flaw.{Flaw}

-- the text has a flaw, and the fault reports it
pub is_no_list : {A : Type 0} (text : List ℕ) (told : Raise A) (seen : Option Flaw) →
    Tells told (option_map flaw_of_list seen) → IfSome seen (λ flaw. HasFlaw flaw text) →
    IsNoList text told
is_no_list text (raise.Fault why) None tells has next = absurd (cc)
is_no_list text (raise.Fault why) (Some flaw) tells has next =
    let same : flaw_of why ≡ flaw_of_list flaw = cc in (Err flaw, has, ap Err same)
is_no_list text (raise.NoMemory refusal) seen tells has next = tt

module _ {A : Type 0} (text : List ℕ) (next : List (List ℕ) → Meaning) where
  -- the text is not a list, and the reason is passed on
  pub no_list : (r : Result (List ℕ) (Raise A)) (why : Raise A) →
      IsNoList text why → IsErrAnd r (λ passed. passed ≡ why) → Answers (Splits text next) r
  no_list (Ok value) why is passed = absurd passed
  no_list (Err passed) why is same = rw same (is next)

  -- the text is a list, and the answer is that which follows its elements
  pub follows : (r : Result (List ℕ) (Raise A)) (elements : List (List ℕ)) →
      IsList elements text → Answers (next elements) r → Answers (Splits text next) r
  follows (Ok value) elements is says = (Ok elements, is, says)
  follows (Err (raise.Fault told)) elements is says = (Ok elements, is, says)
  follows (Err (raise.NoMemory refusal)) elements is says = tt
