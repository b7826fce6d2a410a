-- Blocks of code one after the other.
use Rattle.std.proofs.Common.{◌≡◌, List, [], ◌∷◌, ◌++◌, length, sym, subst, arith}
use Rattle.std.specs.Prelude.{slice_set}
use Rattle.code.specs.Blocks.{Block, Extends, IsReal, Keeps}
use Rattle.code.specs.Code.{At}
use Rattle.code.specs.declared.instruction.Instruction.{Instruction}
use Rattle.code.specs.declared.instruction.Instruction.TheVariants as i
use Rattle.code.proofs.Built.{extended, filled, filled_after, holes, kept_on, kept_then, onward, stands, stands_filled}

module _ {A : Type 0} where
  -- a block, and then an instruction
  pub then_put : (old mid new : List (Instruction A)) (it : Instruction A)
      (Lies : List (Instruction A) → Type 0) → IsReal it → Block old mid Lies →
      new ≡ mid ++ it ∷ [] → Block old new (λ later. Lies later × At later (length mid) it)
  then_put old mid new it Lies real block put =
      let more = extended mid new it put in record {
        extends = onward block.extends more;
        lies = λ later kept. (
          block.lies later (kept_on more kept),
          stands mid new later it real put kept,
        );
      }

  -- a block, and then another
  pub then_block : (old mid new : List (Instruction A))
      (First Second : List (Instruction A) → Type 0) → Block old mid First →
      Block mid new Second → Block old new (λ later. First later × Second later)
  then_block old mid new First Second first second = record {
    extends = onward first.extends second.extends;
    lies = λ later kept. (
      first.lies later (kept_on second.extends kept),
      second.lies later kept,
    );
  }

  -- an instruction, whose place is filled after the block that follows it
  pub filled_then : (old hole all new : List (Instruction A)) (it : Instruction A)
      (Lies : List (Instruction A) → Type 0) → IsReal it → hole ≡ old ++ i.Hole ∷ [] →
      Block hole all Lies → new ≡ slice_set all (length old) it →
      Block old new (λ later. At later (length old) it × Lies later)
  filled_then old hole all new it Lies real put block fill =
      let n = length old in
      let hole_at : At all n i.Hole = block.extends.kept n i.Hole (holes old hole put) in
      record {
        extends = subst (λ code. Extends old code) (sym fill)
            (filled_after old all n it (omega arith)
            (onward (extended old hole i.Hole put) block.extends));
        lies = λ later kept. (
          stands_filled all later n it real hole_at
              (subst (λ code. Keeps code later) fill kept),
          block.lies later
              (kept_then (subst (λ code. Keeps all code) (sym fill) (filled all n it hole_at))
              kept),
        );
      }
