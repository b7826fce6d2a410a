-- The code of a script: its commands, and its fault.
use Rattle.std.proofs.Common.{◌≡◌, List, [], ◌∷◌, ◌++◌, length, Some, None, sym, subst}
use Rattle.code.specs.Blocks.{CommandsBlock, ScriptBlock}
use Rattle.code.specs.Code.{FaultAt, none, fault}
use Rattle.code.specs.declared.instruction.Instruction.{Instruction}
use Rattle.code.specs.declared.instruction.Instruction.TheVariants as i
use Rattle.code.proofs.Built.{extended, kept_on, longer, onward, stands}
use Rattle.tclparse.specs.Seen.{fault_of}
use Rattle.tclparse.specs.Tree.{Commands}
use Rattle.tclparse.specs.declared.fault.Fault as read

module _ {A : Type 0} where
  -- a script without a fault
  pub without_fault : (old new : List (Instruction A)) (cs : Commands) → CommandsBlock old new cs →
      ScriptBlock old new cs None
  without_fault old new cs block = record {
    extends = block.extends;
    lies = λ later kept. record {
      mid = length new;
      commands = block.lies later kept;
      ends = none;
    };
  }

  -- a script with a fault
  pub with_fault : (old between new : List (Instruction A)) (cs : Commands) (f : read.Fault) →
      CommandsBlock old between cs → new ≡ between ++ i.Fault f ∷ [] →
      ScriptBlock old new cs (Some (fault_of f))
  with_fault old between new cs f block put = record {
    extends = onward block.extends (extended between new (i.Fault f) put);
    lies = λ later kept. record {
      mid = length between;
      commands = block.lies later (kept_on (extended between new (i.Fault f) put) kept);
      ends = subst (λ n. FaultAt later (Some (fault_of f)) (length between) n)
          (sym (longer between new (i.Fault f) put))
          (fault (stands between new later (i.Fault f) tt put kept));
    };
  }
