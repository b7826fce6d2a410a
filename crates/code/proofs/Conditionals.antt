-- The code of if.
use Rattle.std.proofs.Common.{◌≡◌, ℕ, ◌+◌, ◌<◌, zero, suc, List, [], ◌∷◌, ◌++◌, Option, Some, None, drop, get_or, length, map, sym, ap, subst, arith}
use Rattle.std.specs.Prelude.{slice_set}
use Rattle.code.specs.Blocks.{BodyBlock, BranchesBlock, ExpressionBlock}
use Rattle.code.specs.Branches.{Branch}
use Rattle.code.specs.Code.{BodyAt, BranchesAt, at_last, branch, no_else}
use Rattle.code.specs.declared.instruction.Instruction.{Instruction}
use Rattle.code.specs.declared.instruction.Instruction.TheVariants as i
use Rattle.code.proofs.Built.{extended, kept_on, longer, onward, stands}
use Rattle.code.proofs.Forks.{filled_length, forked, second_begins}

module _ {A : Type 0} where
  -- no body is left: the value is empty
  pub none_block : (old new : List (Instruction A)) (otherwise : Option (List ℕ)) →
      otherwise ≡ None → new ≡ old ++ i.Text [] ∷ [] → BranchesBlock old new [] otherwise
  none_block old new otherwise none put = record {
    extends = extended old new (i.Text []) put;
    lies = λ later kept. subst (λ o. BranchesAt later (length old) [] o (length new)) (sym none)
        (subst (λ n. BranchesAt later (length old) [] None n) (sym (longer old new (i.Text []) put))
        (no_else (stands old new later (i.Text []) tt put kept)));
  }

  -- the last body
  pub last_block : (old new : List (Instruction A)) (body : List ℕ)
      (otherwise : Option (List ℕ)) → otherwise ≡ Some body → BodyBlock old new body →
      BranchesBlock old new [] otherwise
  last_block old new body otherwise some block = record {
    extends = block.extends;
    lies = λ later kept. subst (λ o. BranchesAt later (length old) [] o (length new)) (sym some)
        (at_last (block.lies later kept));
  }

  -- a test and its body, and what is done where the test does not hold
  pub branch_block : (old tested hole one two filled_one all new : List (Instruction A))
      (it : Branch) (more : List Branch) (otherwise : Option (List ℕ)) →
      ExpressionBlock old tested it.test → hole ≡ tested ++ i.Hole ∷ [] →
      BodyBlock hole one it.body → two ≡ one ++ i.Hole ∷ [] →
      filled_one ≡ slice_set two (length tested) (i.Unless (length two)) →
      BranchesBlock filled_one all more otherwise →
      new ≡ slice_set all (length one) (i.Jump (length all)) →
      BranchesBlock old new (it ∷ more) otherwise
  branch_block old tested hole one two filled_one all new it more otherwise tests put_one bodies
      put_two fill_one rest fill_two =
      let fork = forked tested hole one two filled_one all new (λ n. i.Unless n) (λ n. tt)
      (λ later. BodyAt later (length hole) it.body (length one))
      (λ later. BranchesAt later (length filled_one) more otherwise (length all))
      put_one bodies put_two fill_one rest fill_two in
      record {
        extends = onward tests.extends fork.extends;
        lies = λ later kept.
            let lies = fork.lies later kept in
            branch (tests.lies later (kept_on fork.extends kept)) lies.0
            (subst (λ k. BodyAt later k it.body (length one)) (longer tested hole i.Hole put_one)
            lies.1)
            lies.2
            (subst (λ k. BranchesAt later (length one + 1) more otherwise k)
            (sym (filled_length all new (length one) (i.Jump (length all)) fill_two))
            (subst (λ k. BranchesAt later k more otherwise (length all))
            (second_begins one two filled_one (length tested) (i.Unless (length two)) put_two
            fill_one)
            lies.3));
      }

module _ {X Y : Type 0} (f : X → Y) where
  -- a list from a place on begins with what stands there
  pub from_place : (xs : List X) (n : ℕ) (x : X) → n < length xs → x ≡ get_or xs n x →
      drop n (map f xs) ≡ f x ∷ drop (suc n) (map f xs)
  from_place [] n x less is = absurd (omega (arith, less))
  from_place (y ∷ ys) zero x less is = ap (λ z. f z ∷ map f ys) (sym is)
  from_place (y ∷ ys) (suc n) x less is = from_place ys n x (omega (arith, less)) is
