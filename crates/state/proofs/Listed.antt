-- What follows a text that is read as a list, where it is known whether it is one.
use Rattle.std.proofs.Common.{◌≡◌, ℕ, List, [], Result, Ok, Err, MatchResult, sym, ap}
use Rattle.state.specs.Prelude.{Fault, flaw_of, Course, raises, ListText, Reaches, here, Status}
use Rattle.acts.specs.Flaw as acts
use Rattle.acts.specs.declared.raise.Raise.TheVariants as raise
use Rattle.meanings.specs.Meaning.{Answer, Comes, Gives, IsSplit, flaw_of_list}
use Rattle.meanings.specs.View.{IsNoList}
use Rattle.state.proofs.Reaches.{same_reaches}
use Rattle.state.specs.Listed.{with_list}
use Rattle.state.specs.Reaches.{reads}
use Rattle.tcltext.specs.Elements.{IsList}
use Rattle.tcltext.specs.Flaw.{Flaw}

module _ (text : List ℕ) (s : Status) (next : List (List ℕ) → Course) where
  -- the text is a list
  pub list_reaches : (elements : List (List ℕ)) → IsList elements text →
      Reaches (with_list text s next) (next elements)
  list_reaches elements is = reads {text = ListText text} (Ok elements) is here

  unsplit_reaches : (flaw : acts.Flaw) (split : Result (List (List ℕ)) Flaw) →
      IsSplit text split → (let answer : Answer = Err flaw in
      MatchResult split (λ elements. Comes (Gives []) answer)
      (λ why. answer ≡ Err (flaw_of_list why))) →
      Reaches (with_list text s next) (raises flaw s)
  unsplit_reaches flaw (Ok elements) is differs = absurd (cc)
  unsplit_reaches flaw (Err why) is same =
      let told : flaw ≡ flaw_of_list why = cc in
      reads {text = ListText text} (Err why) is (same_reaches (ap (λ f. raises f s) (sym told)))

  -- the text is no list, for a reason that is reported
  pub no_list_reaches : {A : Type 0} (why : Fault A) → IsNoList text (raise.Fault why) →
      Reaches (with_list text s next) (raises (flaw_of why) s)
  no_list_reaches why is =
      let none = is (λ elements. Gives []) in unsplit_reaches (flaw_of why) none.0 none.1 none.2
