-- What the turns of a loop do.
use Rattle.std.proofs.Common.{◌≡◌, ℕ, suc, List, [], map, refl}
use Rattle.nesting.specs.Foreach.{Pair, assigns, behind, row, rows, turns}
use Rattle.state.specs.Turn.{on_turn}
use Rattle.state.specs.Prelude.{Course, gives, inside, leaves, Leaves, ScriptTree, Status}
use Rattle.state.specs.Dialogue.{tick}
use Rattle.state.specs.View.{code_of}
use Rattle.state.specs.declared.outcome.Code as coded
use Rattle.state.specs.declared.outcome.Code.TheVariants as code

-- a code other than those of loops passes
pub passes : (c : coded.Code) (value : List ℕ) (next : Status → Course) (s : Status) →
    (c ≡ code.Break → ⊥) → (c ≡ code.Continue → ⊥) →
    on_turn next s (Leaves (code_of c) value) ≡ leaves (code_of c) value s
passes code.Error value next s broken continued = refl
passes code.Return value next s broken continued = refl
passes code.Break value next s broken continued = absurd (broken refl)
passes code.Continue value next s broken continued = absurd (continued refl)
passes code.Again value next s broken continued = refl
passes code.AgainRunning value next s broken continued = refl

module _ (levels : ℕ) (body : ScriptTree) (n : ℕ) (pairs : List Pair) (s : Status) where
  -- no turn is left
  pub turns_over : n ≡ 0 → turns levels body (rows n pairs) s ≡ gives [] s
  turns_over is = rw is refl

  -- one turn, and those after it
  pub turns_next : (m : ℕ) → n ≡ suc m → turns levels body (rows n pairs) s
      ≡ assigns (row pairs) s (λ t. tick t (λ u.
      inside levels body u (on_turn (turns levels body (rows m (map behind pairs))))))
  turns_next m is = rw is refl
