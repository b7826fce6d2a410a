-- Which list a variable has.
use Rattle.std.proofs.Common.{◌≡◌, ℕ, List, [], Option, Some, None, Result, Ok, Err, IfErr, IfOk, refl, sym, subst}
use Rattle.state.specs.Prelude.{Flaw, flaw_of, Fails, bind, Raise, Scopes}
use Rattle.acts.specs.declared.raise.Raise.TheVariants as raise
use Rattle.kinds.proofs.Readings.{list_comes, no_list_comes}
use Rattle.kinds.specs.Readings.{Reading, ComesTo, Finds, carried, elements}
use Rattle.meanings.specs.View.{IsNoList}
use Rattle.tcltext.proofs.Behind.{one_list_of}
use Rattle.tcltext.proofs.Written.{reads_back}
use Rattle.tcltext.specs.Canonical.{IsCanonical, IsListOf}
use Rattle.variables.specs.Lappend.{elements_in}
use Rattle.variables.specs.Lists.{HoldsList}
use Rattle.variables.specs.Values.{held, or_empty}

-- the text of a list is canonical
pub canonical_list : {A : Type 0} (text : List ℕ) (r : Result (List ℕ) (Raise A)) →
    IfOk r (IsListOf text) → IfOk r IsCanonical
canonical_list text (Ok list) is = (is.0, is.2)
canonical_list text (Err why) is = tt

module _ (name : List ℕ) (index : Option (List ℕ)) (v : Scopes) where
  -- what is read, by what the variable holds
  abbrev of_held : Result (Option (List ℕ)) Flaw → Reading (Result (List (List ℕ)) Flaw)
  of_held r =
      let given : Option (List ℕ) → Result (List ℕ) Flaw = λ text. Ok (or_empty text) in
      carried (bind r given) elements

  by_held : (r : Result (Option (List ℕ)) Flaw) (answer : Result (List (List ℕ)) Flaw) →
      held name index v ≡ r → ComesTo (of_held r) answer →
      ComesTo (elements_in name index v) answer
  by_held r answer is comes = subst (λ h. ComesTo (of_held h) answer) (sym is) comes

  -- the list of a variable's text is that of the variable
  pub held_list : {A : Type 0} (text : List ℕ) (r : Result (List ℕ) (Raise A)) →
      IfOk r (IsListOf text) → IfErr r (IsNoList text) → held name index v ≡ Ok (Some text) →
      HoldsList r name index v
  held_list text (Ok list) is none holds = λ es same.
      by_held (Ok (Some text)) (Ok es) holds
      (list_comes text es (one_list_of text list es is same))
  held_list text (Err (raise.Fault why)) is none holds =
      by_held (Ok (Some text)) (Err (flaw_of why)) holds (no_list_comes text why none)
  held_list text (Err (raise.NoMemory refusal)) is none holds = tt

  -- a missing variable has the empty list
  pub missing_list : (A : Type 0) (list : List ℕ) → list ≡ [] → held name index v ≡ Ok None →
      HoldsList {A = A} (Ok list) name index v
  missing_list A list empty holds = λ es same.
      by_held (Ok None) (Ok es) holds
      (list_comes [] es (one_list_of [] list es ([], reads_back [], empty) same))

  -- a variable that can't be read has no list
  pub unheld : {A : Type 0} (why : Raise A) → Fails (held name index v) why →
      HoldsList {A = A} (Err why) name index v
  unheld (raise.Fault why) fails = by_held (Err (flaw_of why)) (Err (flaw_of why)) fails refl
  unheld (raise.NoMemory refusal) fails = tt

-- the error of the code is that of the reading
pub unlisted : {A : Type 0} (name : List ℕ) (index : Option (List ℕ)) (v : Scopes)
    (why : Raise A) → HoldsList {A = A} (Err why) name index v →
    Finds {Y = List (List ℕ)} (λ es. es) (elements_in name index v) (Err why)
unlisted name index v (raise.Fault why) holds = holds
unlisted name index v (raise.NoMemory refusal) holds = tt
