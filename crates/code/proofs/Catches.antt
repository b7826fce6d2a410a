-- The code of catch.
use Rattle.std.proofs.Common.{◌≡◌, ℕ, ◌+◌, List, [], ◌∷◌, ◌++◌, Option, Some, None, length, codes, sym, subst}
use Rattle.std.proofs.Common.{◌∙◌}
use Rattle.std.specs.Prelude.{slice_set}
use Rattle.code.specs.Blocks.{BodyBlock, ItsBlock, TakenBlock}
use Rattle.code.specs.Code.{At, BodyAt, IsTaker, TakenAt, caught, dropped, taken}
use Rattle.code.specs.Own.{IsOwn, name_of}
use Rattle.code.specs.declared.catch.Catch.{Catch}
use Rattle.code.specs.declared.instruction.Instruction.{Instruction}
use Rattle.code.specs.declared.instruction.Instruction.TheVariants as i
use Rattle.code.specs.declared.own.Own.{Own}
use Rattle.code.specs.declared.own.Own.TheVariants as read
use Rattle.code.proofs.Built.{extended, longer, stands}
use Rattle.code.proofs.Forks.{filled_length}
use Rattle.code.proofs.Sequences.{filled_then, then_block, then_put}

module _ {A : Type 0} where
  -- a variable takes the value
  pub taken_block : (old new : List (Instruction A)) (variable : Option (List ℕ)) (word : List ℕ) →
      variable ≡ Some word → new ≡ old ++ i.Store word ∷ [] → TakenBlock old new variable
  taken_block old new variable word is put =
      let it : Instruction A = i.Store word in record {
        extends = extended old new it put;
        lies = λ later kept.
            subst (λ v. TakenAt later (length old) v (length new)) (sym is)
            (subst (λ n. TakenAt later (length old) (Some word) n) (sym (longer old new it put))
            (taken (stands old new later it tt put kept)));
      }

  -- the value is dropped
  pub dropped_block : (old new : List (Instruction A)) (variable : Option (List ℕ)) →
      variable ≡ None → new ≡ old ++ i.Discard ∷ [] → TakenBlock old new variable
  dropped_block old new variable is put = record {
    extends = extended old new i.Discard put;
    lies = λ later kept.
        subst (λ v. TakenAt later (length old) v (length new)) (sym is)
        (subst (λ n. TakenAt later (length old) None n) (sym (longer old new i.Discard put))
        (dropped (stands old new later i.Discard tt put kept)));
  }

  -- the script, its end, and what is done with the value that it ended with
  pub catch_block : (old hole bodied ended filled_one new : List (Instruction A)) (text : List ℕ)
      (more : List (List ℕ)) (variable : Option (List ℕ)) → IsTaker variable more →
      hole ≡ old ++ i.Hole ∷ [] → BodyBlock hole bodied text →
      ended ≡ bodied ++ i.EndCatch ∷ [] →
      filled_one ≡ slice_set ended (length old) (i.Catch (length ended)) →
      TakenBlock filled_one new variable → ItsBlock (codes "catch") old new (text ∷ more)
  catch_block old hole bodied ended filled_one new text more variable is put_hole bodies put_end
      fill takes =
      let n = length old in
      let mid = length bodied in
      let catch : Instruction A = i.Catch (length ended) in
      let at_body : length hole ≡ n + 1 = longer old hole i.Hole put_hole in
      let at_end : length ended ≡ mid + 1 = longer bodied ended i.EndCatch put_end in
      let at_taker : length filled_one ≡ mid + 1 =
      filled_length ended filled_one n catch fill ∙ at_end in
      let all = then_block old filled_one new
      (λ later. At later n catch × (BodyAt later (length hole) text mid × At later mid i.EndCatch))
      (λ later. TakenAt later (length filled_one) variable (length new))
      (filled_then old hole ended filled_one catch
      (λ later. BodyAt later (length hole) text mid × At later mid i.EndCatch) tt put_hole
      (then_put hole bodied ended i.EndCatch (λ later. BodyAt later (length hole) text mid) tt
      bodies put_end)
      fill)
      takes in
      record {
        extends = all.extends;
        lies = λ later kept.
            let lies = all.lies later kept in
            caught is (subst (λ k. At later n (i.Catch k)) at_end lies.0.0)
            (subst (λ k. BodyAt later k text mid) at_body lies.0.1.0) lies.0.1.1
            (subst (λ k. TakenAt later k variable (length new)) at_taker lies.1);
      }

  -- what catch does
  pub catch_own_block : (old new : List (Instruction A)) (known : Own A) (it : Catch A) →
      known ≡ read.Catch it →
      ((more : List (List ℕ)) → IsTaker it.variable more →
      ItsBlock (codes "catch") old new (it.body ∷ more)) →
      (args : List (List ℕ)) → IsOwn known args → ItsBlock (name_of known) old new args
  catch_own_block old new known it is block args read_as =
      subst (λ o. IsOwn o args → ItsBlock (name_of o) old new args) (sym is)
      (λ r. subst (λ texts. ItsBlock (codes "catch") old new texts) (sym r.2) (block r.0 r.1))
      read_as
