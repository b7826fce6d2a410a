-- The code of eval and of expr.
use Rattle.std.proofs.Common.{◌≡◌, ℕ, List, [], ◌∷◌, ◌++◌, codes, length, sym, subst}
use Rattle.code.specs.Blocks.{BodyBlock, ExpressionBlock, ItsBlock}
use Rattle.code.specs.Code.{BodyAt, ExpressionAt, OwnAt, evaluated, valued}
use Rattle.code.specs.Own.{IsOwn, name_of}
use Rattle.code.specs.declared.instruction.Instruction.{Instruction}
use Rattle.code.specs.declared.instruction.Instruction.TheVariants as i
use Rattle.code.specs.declared.own.Own.{Own}
use Rattle.code.specs.declared.own.Own.TheVariants as read
use Rattle.code.proofs.Built.{extended, kept_on, longer, onward, stands}
use Rattle.pure.specs.Concat.{concatenated}

module _ {A : Type 0} where
  -- what eval does
  pub eval_block : (old new : List (Instruction A)) (known : Own A) (joined : List ℕ) →
      known ≡ read.Eval joined → BodyBlock old new joined →
      (args : List (List ℕ)) → IsOwn known args → ItsBlock (name_of known) old new args
  eval_block old new known joined is put args read_as =
      subst (λ o. IsOwn o args → ItsBlock (name_of o) old new args) (sym is)
      (λ r. subst (λ texts. ItsBlock (codes "eval") old new texts) (sym r.1)
      (record {
        extends = put.extends;
        lies = λ later kept. evaluated
            (subst (λ t. BodyAt later (length old) t (length new)) r.2 (put.lies later kept));
      }))
      read_as

  -- an expression, and its value as text
  pub expr_block : (old between new : List (Instruction A)) (text joined : List ℕ) →
      joined ≡ concatenated (text ∷ []) → ExpressionBlock old between joined →
      new ≡ between ++ i.Result ∷ [] → ItsBlock (codes "expr") old new (text ∷ [])
  expr_block old between new text joined is block put = record {
    extends = onward block.extends (extended between new i.Result put);
    lies = λ later kept.
        subst (λ n. OwnAt later (codes "expr") (length old) (text ∷ []) n)
        (sym (longer between new i.Result put))
        (valued
        (subst (λ t. ExpressionAt later (length old) t (length between)) is
        (block.lies later (kept_on (extended between new i.Result put) kept)))
        (stands between new later i.Result tt put kept));
  }

  -- what expr does
  pub expr_own_block : (old new : List (Instruction A)) (known : Own A) (joined : List ℕ) →
      known ≡ read.Expr joined →
      ((text : List ℕ) → joined ≡ concatenated (text ∷ []) →
      ItsBlock (codes "expr") old new (text ∷ [])) →
      (args : List (List ℕ)) → IsOwn known args → ItsBlock (name_of known) old new args
  expr_own_block old new known joined is block args read_as =
      subst (λ o. IsOwn o args → ItsBlock (name_of o) old new args) (sym is)
      (λ r. subst (λ texts. ItsBlock (codes "expr") old new texts) (sym r.1) (block r.0 r.2))
      read_as
