-- The code of what a command does.
use Rattle.std.proofs.Common.{◌≡◌, ◌∙◌, ℕ, zero, suc, ◌+◌, ◌*◌, ◌≤◌, Bool, true, false, List, [], ◌∷◌, ◌++◌, Option, None, Some, Result, Ok, Err, length, refl, sym, ap, subst, arith, length-append}
use Rattle.code.specs.Branches.{Branch, Branches}
use Rattle.code.specs.Code.{At, BranchesAt, HasFormula, LacksFormula, branch, no_else, at_last, BodyAt, by_text, from_text, dropped, taken, turns, no_turns, no_step, steps}
use Rattle.code.specs.Doing.{If, While, For, Catch, IsCodeOfDoing, Tells, are_still, branch_code, last_code, taker}
use Rattle.code.specs.declared.instruction.Instruction.{Instruction}
use Rattle.code.specs.declared.instruction.Instruction.TheVariants as i
use Rattle.formulas.specs.Reads.{ReadsFormula}
use Rattle.formulas.specs.Seen.{fault_of}
use Rattle.formulas.specs.View.{formula_of}
use Rattle.formulas.specs.declared.error.ReadError.{ReadError}
use Rattle.formulas.specs.declared.error.ReadError.TheVariants as error
use Rattle.formulas.specs.declared.fault.Fault.{Fault}
use Rattle.formulas.specs.declared.tree.Formula.{Formula}

-- the code of branches from this place on, which ends at that one
abbrev pub branches_code : {A : Type 0} → ℕ → ℕ → List Branch → Option (List ℕ) →
    List (Instruction A)
branches_code place end [] otherwise = last_code otherwise
branches_code place end (it ∷ more) otherwise =
    branch_code place end it ++ branches_code (place + 4) end more otherwise

-- no command begins by it
branches_still : (A : Type 0) (place end : ℕ) (tests : List Branch) (otherwise : Option (List ℕ)) →
    are_still (branches_code {A = A} place end tests otherwise) ≡ true
branches_still A place end [] None = refl
branches_still A place end [] (Some body) = refl
branches_still A place end (it ∷ more) otherwise =
    branches_still A (place + 4) end more otherwise

branches_length : (A : Type 0) (place end : ℕ) (tests : List Branch)
    (otherwise : Option (List ℕ)) →
    length (branches_code {A = A} place end tests otherwise) ≡ 4 * length tests + 1
branches_length A place end [] None = omega arith
branches_length A place end [] (Some body) = omega arith
branches_length A place end (it ∷ more) otherwise =
    let rest = branches_length A (place + 4) end more otherwise in omega (arith, rest)

module _ {A : Type 0} where
  -- while
  pub while_loop : (code : List (Instruction A)) (test body : List ℕ) → HasFormula test →
      code ≡ i.Discard ∷ i.Jump 4 ∷ i.Run body 0 ∷ i.EndTurn ∷ i.Evaluate test ∷ i.Turn 2 3
      ∷ i.Text [] ∷ [] →
      IsCodeOfDoing code (While test body)
  while_loop code test body has is =
      subst (λ c. IsCodeOfDoing c (While test body)) (sym is) (record {
        drops = refl;
        lies = turns has refl (by_text refl) (no_step refl) (from_text refl) refl refl;
        still = refl;
        short = omega arith;
      })

  pub while_alone : (code : List (Instruction A)) (test body : List ℕ) → LacksFormula test →
      code ≡ i.Discard ∷ i.Evaluate test ∷ [] → IsCodeOfDoing code (While test body)
  while_alone code test body lacks is =
      subst (λ c. IsCodeOfDoing c (While test body)) (sym is) (record {
        drops = refl;
        lies = no_turns lacks refl;
        still = refl;
        short = omega arith;
      })

  -- for
  pub for_loop : (code : List (Instruction A)) (start test step body : List ℕ) → HasFormula test →
      code ≡ i.Discard ∷ i.Run start 0 ∷ i.Discard ∷ i.Jump 8 ∷ i.Run body 0 ∷ i.Step
      ∷ i.Run step 0 ∷ i.EndTurn ∷ i.Evaluate test ∷ i.Turn 4 5 ∷ i.Text [] ∷ [] →
      IsCodeOfDoing code (For start test step body)
  for_loop code start test step body has is =
      subst (λ c. IsCodeOfDoing c (For start test step body)) (sym is) (record {
        drops = refl;
        lies = (
          2,
          by_text refl,
          refl,
          turns has refl (by_text refl) (steps refl (by_text refl) refl) (from_text refl) refl refl,
        );
        still = refl;
        short = omega arith;
      })

  pub for_alone : (code : List (Instruction A)) (start test step body : List ℕ) →
      LacksFormula test → code ≡ i.Discard ∷ i.Run start 0 ∷ i.Discard ∷ i.Evaluate test ∷ [] →
      IsCodeOfDoing code (For start test step body)
  for_alone code start test step body lacks is =
      subst (λ c. IsCodeOfDoing c (For start test step body)) (sym is) (record {
        drops = refl;
        lies = (2, by_text refl, refl, no_turns lacks refl);
        still = refl;
        short = omega arith;
      })

  -- catch
  pub catch_so : (code : List (Instruction A)) (body : List ℕ) (variable : Option (List ℕ)) →
      code ≡ i.Discard ∷ i.Catch 4 ∷ i.Run body 0 ∷ i.EndCatch ∷ taker variable ∷ [] →
      IsCodeOfDoing code (Catch body variable)
  catch_so code body None is =
      subst (λ c. IsCodeOfDoing c (Catch body None)) (sym is) (record {
        drops = refl;
        lies = (3, refl, by_text refl, refl, dropped refl);
        still = refl;
        short = omega arith;
      })
  catch_so code body (Some name) is =
      subst (λ c. IsCodeOfDoing c (Catch body (Some name))) (sym is) (record {
        drops = refl;
        lies = (3, refl, by_text refl, refl, taken refl);
        still = refl;
        short = omega arith;
      })

  -- what stands after others
  after_front : (front rest : List (Instruction A)) (k n : ℕ) (it : Instruction A) →
      n ≡ length front + k → At rest k it → At (front ++ rest) n it
  after_front [] rest k n it is at = subst (λ m. At rest m it) (omega (arith, is)) at
  after_front (x ∷ front) rest k zero it is at = absurd (omega (arith, is))
  after_front (x ∷ front) rest k (suc n) it is at =
      after_front front rest k n it (omega (arith, is)) at

  stands : (code front rest : List (Instruction A)) (k n : ℕ) (it : Instruction A) →
      code ≡ front ++ rest → n ≡ length front + k → At rest k it → At code n it
  stands code front rest k n it is at_n at =
      subst (λ c. At c n it) (sym is) (after_front front rest k n it at_n at)

  joins : (front more rest : List (Instruction A)) →
      front ++ (more ++ rest) ≡ (front ++ more) ++ rest
  joins [] more rest = refl
  joins (x ∷ front) more rest = ap (λ xs. x ∷ xs) (joins front more rest)

  -- it is the code of these branches
  pub branches_at : (code front : List (Instruction A)) (place end : ℕ) (tests : List Branch)
      (otherwise : Option (List ℕ)) → code ≡ front ++ branches_code place end tests otherwise →
      place ≡ length front → end ≡ place + 4 * length tests + 1 →
      BranchesAt code place tests otherwise end
  branches_at code front place end [] None is at ends =
      let there = stands code front (i.Text [] ∷ []) 0 place (i.Text []) is (omega (arith, at)) refl in
      subst (λ n. BranchesAt code place [] None n) (omega (arith, ends)) (no_else there)
  branches_at code front place end [] (Some body) is at ends =
      let there = stands code front (i.Run body 0 ∷ []) 0 place (i.Run body 0) is (omega (arith, at))
      refl in
      at_last (subst (λ n. BodyAt code place body n) (omega (arith, ends)) (by_text there))
  branches_at code front place end (it ∷ more) otherwise is at ends =
      let rest : List (Instruction A) = branches_code (place + 4) end more otherwise in
      let these : List (Instruction A) = branch_code place end it in
      let all : List (Instruction A) = these ++ rest in
      let whole : code ≡ front ++ all = is in
      let split : code ≡ (front ++ these) ++ rest = whole ∙ joins front these rest in
      let unless = stands code front all 1 (place + 1) (i.Unless (place + 4)) whole
      (omega (arith, at)) refl in
      let later = branches_at code (front ++ these) (place + 4) end more otherwise split
      (omega (arith, at, length-append front these)) (omega (arith, ends)) in
      branch
      (from_text (stands code front all 0 place (i.Evaluate it.test) whole (omega (arith, at)) refl))
      (subst (λ n. At code (place + 1) (i.Unless n)) (omega arith) unless)
      (by_text (stands code front all 2 (place + 1 + 1) (i.Run it.body 0) whole (omega (arith, at))
      refl))
      (stands code front all 3 (place + 1 + 1 + 1) (i.Jump end) whole (omega (arith, at)) refl)
      (subst (λ n. BranchesAt code n more otherwise end) (omega arith) later)

  -- if
  pub conditional : (code : List (Instruction A)) (end : ℕ) (found : Branches) →
      code ≡ i.Discard ∷ branches_code 1 end found.tests found.otherwise →
      end ≡ 2 + 4 * length found.tests → IsCodeOfDoing code (If found)
  conditional code end found is ends =
      let long : length code ≡ end =
      omega (
        arith,
        ap length is,
        branches_length A 1 end found.tests found.otherwise,
        ends,
      ) in
      record {
        drops = subst (λ c. At c 0 i.Discard) (sym is) refl;
        lies = subst (λ n. BranchesAt code 1 found.tests found.otherwise n) (sym long)
            (branches_at code (i.Discard ∷ []) 1 end found.tests found.otherwise is refl
            (omega (arith, ends)));
        still = ap are_still is ∙ branches_still A 1 end found.tests found.otherwise;
        short = omega (arith, long, ends);
      }

  -- one branch more is put, and the others are still to be put
  pub one_put : (code new : List (Instruction A)) (end : ℕ) (it : Branch) (more : List Branch)
      (otherwise : Option (List ℕ)) → new ≡ code ++ branch_code (length code) end it →
      new ++ branches_code (length new) end more otherwise
      ≡ code ++ branches_code (length code) end (it ∷ more) otherwise
  one_put code new end it more otherwise is =
      let these : List (Instruction A) = branch_code (length code) end it in
      let rest : List (Instruction A) = branches_code (length code + 4) end more otherwise in
      let longer : length new ≡ length code + 4 =
      omega (arith, ap length is, length-append code these) in
      let first : new ++ branches_code (length new) end more otherwise ≡ new ++ rest =
      ap (λ n. new ++ branches_code n end more otherwise) longer in
      let second : new ++ rest ≡ (code ++ these) ++ rest = ap (λ cs. cs ++ rest) is in
      let third : (code ++ these) ++ rest ≡ code ++ (these ++ rest) = sym (joins code these rest) in
      first ∙ second ∙ third

-- no branch is left
pub none_left : {X : Type 0} (xs : List X) → length xs ≡ 0 → xs ≡ []
none_left [] none = refl
none_left (x ∷ xs) none = absurd (omega (arith, none))

-- a text that was read is a formula, or is none
pub is_formula : {A : Type 0} (text : List ℕ) (read : Result (Formula A) ReadError)
    (f : Formula A) → read ≡ Ok f → ReadsFormula text read → Tells true text
is_formula text read f is reads = (formula_of f, subst (λ r. ReadsFormula text r) is reads)

pub no_formula : {A : Type 0} (text : List ℕ) (read : Result (Formula A) ReadError)
    (why : ReadError) (fault : Fault) → read ≡ Err why → why ≡ error.Fault fault →
    ReadsFormula text read → Tells false text
no_formula {A = A} text read why fault is also reads =
    let by_why : ReadError → Type 0 = λ e. ReadsFormula {A = A} text (Err e) in
    (fault_of fault, subst by_why also (subst (λ r. ReadsFormula text r) is reads))
