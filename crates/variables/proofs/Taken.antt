-- What follows where a text is taken out of a variable, or let go of, and written back.
use Rattle.std.proofs.Common.{◌≡◌, ℕ, List, [], Option, Result, Ok, Err, IfOk, OnOk, OnErr, refl, sym, ap, ◌∙◌}
use Rattle.state.specs.Prelude.{Flaw, flaw_of, bind, Raise, Scopes}
use Rattle.acts.specs.declared.raise.Raise.TheVariants as raise
use Rattle.kinds.specs.Answers.{Keeps, Stores}
use Rattle.kinds.specs.Variables.{put}
use Rattle.tclstate.proofs.Rewritten.{written_again, can_write}
use Rattle.tclstate.specs.Scopes.{read, written}
use Rattle.variables.specs.Taken.{Rewrites}
use Rattle.variables.specs.Values.{puts}

-- once a text was taken, a write in its place gives what it would have given before
pub rewrites : (old new : Scopes) (name : List ℕ) (index : Option (List ℕ)) (text : List ℕ) →
    read old name index ≡ Ok text → written old name index [] ≡ Ok new →
    Rewrites name index old new
rewrites old new name index text is emptied = record {
  same = λ value.
      let can = can_write old name index text value is in
      let again = written_again old new name index text [] value is emptied in
      rw (again, can.1) refl;
  stays = λ value flaw fails.
      let can = can_write old name index text value is in
      let none : put name index value old ≡ Ok can.0 = rw can.1 refl in
      absurd (cc);
}

-- nothing was taken
pub unchanged : (old new : Scopes) (name : List ℕ) (index : Option (List ℕ)) → new ≡ old →
    Rewrites name index old new
unchanged old new name index same = record {
  same = λ value. ap (λ v. put name index value v) same;
  stays = λ value flaw fails. same;
}

-- a text is written in the place of one that was taken, as it would have been before; where it
-- can't be written, nothing was taken
module _ (old mid : Scopes) (name : List ℕ) (index : Option (List ℕ)) (value : List ℕ)
    (back : Rewrites name index old mid) where
  same_puts : puts name index value mid ≡ puts name index value old
  same_puts =
      let given : Scopes → Result (Scopes × List ℕ) Flaw = λ v. Ok (v, value) in
      ap (λ (r : Result Scopes Flaw). bind r given) (back.same value)

  none_taken : (flaw : Flaw) (r : Result Scopes Flaw) → put name index value old ≡ r →
      (let given : Scopes → Result (Scopes × List ℕ) Flaw = λ v. Ok (v, value) in
      bind r given ≡ Err flaw) → mid ≡ old
  none_taken flaw (Ok v) made fails = absurd (cc)
  none_taken flaw (Err why) made fails = back.stays value why made

  pub put_back : {A : Type 0} (new : Scopes) (r : Result (List ℕ) (Raise A)) →
      Stores (puts name index value mid) mid r new → Keeps (puts name index value old) old r new
  put_back new (Ok given) stored = sym same_puts ∙ stored
  put_back new (Err (raise.Fault why)) stored =
      let flawed : puts name index value old ≡ Err (flaw_of why) = sym same_puts ∙ stored.0 in
      (flawed, stored.1 ∙ none_taken (flaw_of why) (put name index value old) refl flawed)
  put_back new (Err (raise.NoMemory refusal)) stored = tt

-- what was there was taken, or nothing has changed
pub let_go_if : {E : Type 0} (old new : Scopes) (name : List ℕ) (index : Option (List ℕ))
    (r : Result (List ℕ) E) → IfOk r (λ text. read old name index ≡ Ok text) →
    OnOk r (written old name index [] ≡ Ok new) → OnErr r (new ≡ old) →
    Rewrites name index old new
let_go_if old new name index (Ok text) is emptied same = rewrites old new name index text is emptied
let_go_if old new name index (Err e) is emptied same = unchanged old new name index same
