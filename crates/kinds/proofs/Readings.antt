-- The answers of readings, where those of their parts are known.
use Rattle.std.proofs.Common.{◌≡◌, ℕ, List, [], Result, Ok, Err, MatchResult, refl, sym, ap, subst}
use Rattle.acts.specs.Flaw as acts
use Rattle.state.specs.Prelude.{flaw_of, Answers, Raises, Fault, Raise}
use Rattle.acts.specs.declared.raise.Raise.TheVariants as raise
use Rattle.kinds.specs.Readings.{Reading, Found, Reads, ComesTo, Finds, and_bind, and_then, carried, elements}
use Rattle.meanings.specs.Meaning.{Answer, Comes, Gives, IsSplit, flaw_of_list}
use Rattle.meanings.specs.View.{IsNoList}
use Rattle.tcltext.specs.Elements.{IsList}
use Rattle.tcltext.specs.Flaw.{Flaw}

-- one reading, and then another
pub then_comes : {X Y : Type 0} (r : Reading X) (next : X → Reading Y) (x : X) (y : Y) →
    ComesTo r x → ComesTo (next x) y → ComesTo (and_then r next) y
then_comes (Found z) next x y first second = subst (λ w. ComesTo (next w) y) (sym first) second
then_comes (Reads text more) next x y first second =
    (first.0, first.1, then_comes (more first.0) next x y first.2 second)

module _ {X Y : Type 0} (r : Reading (Result X acts.Flaw))
    (next : X → Reading (Result Y acts.Flaw)) where
  -- a value, and what follows it
  pub bind_comes : (x : X) (y : Result Y acts.Flaw) → ComesTo r (Ok x) → ComesTo (next x) y →
      ComesTo (and_bind r next) y
  bind_comes x y first second = then_comes r (λ x. carried x next) (Ok x) y first second

  -- an error, which is passed on
  pub bind_fails : (flaw : acts.Flaw) → ComesTo r (Err flaw) → ComesTo (and_bind r next) (Err flaw)
  bind_fails flaw fails = then_comes r (λ x. carried x next) (Err flaw) (Err flaw) fails refl

-- the same of the code's answers
module _ {A X Y Z W : Type 0} (seen : Y → X) (view : W → Z) (r : Reading (Result X acts.Flaw))
    (next : X → Reading (Result Z acts.Flaw)) where
  pub bind_finds : (y : Y) (answer : Result W (Raise A)) → ComesTo r (Ok (seen y)) →
      Finds view (next (seen y)) answer → Finds view (and_bind r next) answer
  bind_finds y (Ok w) first second = bind_comes r next (seen y) (Ok (view w)) first second
  bind_finds y (Err (raise.Fault why)) first second =
      bind_comes r next (seen y) (Err (flaw_of why)) first second
  bind_finds y (Err (raise.NoMemory refusal)) first second = tt

  pub bind_finds_none : (why : Raise A) → Finds {Y = Y} seen r (Err why) →
      Finds {Y = W} view (and_bind r next) (Err why)
  bind_finds_none (raise.Fault why) fails = bind_fails r next (flaw_of why) fails
  bind_finds_none (raise.NoMemory refusal) fails = tt

-- an answer without a reading
pub answers_find : {A X Y : Type 0} (view : Y → X) (meant : Result X acts.Flaw)
    (answer : Result Y (Raise A)) → Answers view meant answer → Finds view (Found meant) answer
answers_find view meant (Ok y) is = is
answers_find view meant (Err (raise.Fault why)) is = is
answers_find view meant (Err (raise.NoMemory refusal)) is = tt

-- an error that is raised
pub raised_finds : {A X Y : Type 0} (view : Y → X) (meant : Reading (Result X acts.Flaw))
    (flaw : acts.Flaw) (why : Raise A) → Raises flaw why → ComesTo meant (Err flaw) →
    Finds {Y = Y} view meant (Err why)
raised_finds view meant flaw (raise.Fault why) is comes =
    subst (λ f. ComesTo meant (Err f)) (sym is) comes
raised_finds view meant flaw (raise.NoMemory refusal) is comes = tt

module _ (text : List ℕ) where
  -- a text that is a list
  pub list_comes : (es : List (List ℕ)) → IsList es text → ComesTo (elements text) (Ok es)
  list_comes es is = (Ok es, is, refl)

  unsplit : (flaw : acts.Flaw) (split : Result (List (List ℕ)) Flaw) → IsSplit text split →
      (let answer : Answer = Err flaw in
      MatchResult split (λ elements. Comes (Gives []) answer)
      (λ why. answer ≡ Err (flaw_of_list why))) → ComesTo (elements text) (Err flaw)
  unsplit flaw (Ok es) is differs = absurd (cc)
  unsplit flaw (Err why) is same =
      let told : flaw ≡ flaw_of_list why = cc in (Err why, is, ap Err (sym told))

  -- a text that is no list, for a reason that is reported
  pub no_list_comes : {A : Type 0} (why : Fault A) → IsNoList text (raise.Fault why) →
      ComesTo (elements text) (Err (flaw_of why))
  no_list_comes why is =
      let none = is (λ elements. Gives []) in unsplit (flaw_of why) none.0 none.1 none.2

  pub no_list_finds : {A Y : Type 0} (view : Y → List (List ℕ)) (why : Raise A) →
      IsNoList text why → Finds {Y = Y} view (elements text) (Err why)
  no_list_finds view (raise.Fault why) is = no_list_comes why is
  no_list_finds view (raise.NoMemory refusal) is = tt
