-- Code of which one of two blocks is done: both jumps are filled once their places are known.
use Rattle.std.proofs.Common.{◌≡◌, ◌∙◌, ℕ, ◌+◌, List, [], ◌∷◌, ◌++◌, length, sym, ap, subst, arith}
use Rattle.std.specs.Prelude.{slice_set}
use Rattle.std.proofs.lemmas.List.{length-set}
use Rattle.code.specs.Blocks.{Block, Extends, IsReal, Keeps}
use Rattle.code.specs.Code.{At}
use Rattle.code.specs.declared.instruction.Instruction.{Instruction}
use Rattle.code.specs.declared.instruction.Instruction.TheVariants as i
use Rattle.code.proofs.Built.{extended, filled, filled_after, grows, holes, kept_on, kept_set, kept_then, longer, onward, stands_filled}

module _ {A : Type 0} where
  -- code is as long once a place of it is filled
  pub filled_length : (code new : List (Instruction A)) (n : ℕ) (it : Instruction A) →
      new ≡ slice_set code n it → length new ≡ length code
  filled_length code new n it fill = ap length fill ∙ length-set code n it

  -- where the second block begins
  pub second_begins : (one two filled_one : List (Instruction A)) (n : ℕ) (it : Instruction A) →
      two ≡ one ++ i.Hole ∷ [] → filled_one ≡ slice_set two n it →
      length filled_one ≡ length one + 1
  second_begins one two filled_one n it put fill =
      filled_length two filled_one n it fill ∙ longer one two i.Hole put

  -- A jump before the first block leads to the second one, and a jump after the first block leads
  -- behind both.
  pub forked : (old hole one two filled_one all new : List (Instruction A))
      (jump : ℕ → Instruction A) → ((n : ℕ) → IsReal (jump n)) →
      (First Second : List (Instruction A) → Type 0) →
      hole ≡ old ++ i.Hole ∷ [] → Block hole one First → two ≡ one ++ i.Hole ∷ [] →
      filled_one ≡ slice_set two (length old) (jump (length two)) →
      Block filled_one all Second → new ≡ slice_set all (length one) (i.Jump (length all)) →
      Block old new (λ later. At later (length old) (jump (length one + 1)) × First later
      × At later (length one) (i.Jump (length new)) × Second later)
  forked old hole one two filled_one all new jump real First Second put_one first put_two fill_one
      second fill_two =
      let n = length old in
      let m = length one in
      let there : Instruction A = jump (length two) in
      let behind : Instruction A = i.Jump (length all) in
      let holed = extended old hole i.Hole put_one in
      let again = extended one two i.Hole put_two in
      let hole_one : At two n i.Hole =
      again.kept n i.Hole (first.extends.kept n i.Hole (holes old hole put_one)) in
      let longer_one = longer old hole i.Hole put_one in
      let longer_two = longer one two i.Hole put_two in
      let far = grows hole one first.extends in
      let hole_two : At all m i.Hole =
      second.extends.kept m i.Hole
      (subst (λ code. At code m i.Hole) (sym fill_one)
      (kept_set two n m there i.Hole
      (λ same. absurd (omega (arith, same, far, longer_one)))
      (holes one two put_two))) in
      let up_to_two = onward holed (onward first.extends again) in
      let up_to_filled : Extends old filled_one =
      subst (λ code. Extends old code) (sym fill_one)
      (filled_after old two n there (omega arith) up_to_two) in
      let up_to_new : Extends old new =
      subst (λ code. Extends old code) (sym fill_two)
      (filled_after old all m behind (omega (arith, far, longer_one))
      (onward up_to_filled second.extends)) in
      record {
        extends = up_to_new;
        lies = λ later kept.
            let kept_all : Keeps all later =
            kept_then (subst (λ code. Keeps all code) (sym fill_two) (filled all m behind hole_two))
            kept in
            let kept_filled = kept_on second.extends kept_all in
            let kept_two : Keeps two later =
            kept_then (subst (λ code. Keeps two code) (sym fill_one) (filled two n there hole_one))
            kept_filled in (
              subst (λ k. At later n (jump k)) longer_two
                  (stands_filled two later n there (real (length two)) hole_one
                  (subst (λ code. Keeps code later) fill_one kept_filled)),
              first.lies later (kept_on again kept_two),
              subst (λ k. At later m (i.Jump k)) (sym (filled_length all new m behind fill_two))
                  (stands_filled all later m behind tt hole_two
                  (subst (λ code. Keeps code later) fill_two kept)),
              second.lies later kept_all,
            );
      }
