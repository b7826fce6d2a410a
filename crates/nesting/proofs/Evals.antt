-- What eval does, where it is known whether it has words.
use Rattle.std.proofs.Common.{◌≡◌, ℕ, suc, ◌==◌, true, false, List, [], ◌∷◌, length, refl, arith}
use Rattle.std.specs.Prelude.{codes}
use Rattle.std.proofs.lemmas.Bool.Decides.{nat_tests}
use Rattle.acts.specs.Flaw as flaw
use Rattle.nesting.specs.Eval.{eval, passed}
use Rattle.pure.specs.Concat.{concatenated}
use Rattle.state.specs.Prelude.{raises, within, Status}

module _ (levels : ℕ) (s : Status) where
  pub eval_none : (args : List (List ℕ)) → (length args == 0) ≡ true →
      eval levels args s ≡ raises (flaw.WrongArgs (codes "eval")) s
  eval_none [] none = refl
  eval_none (w ∷ ws) none =
      let no : suc (length ws) ≡ 0 = grind (arith, nat_tests) in absurd (omega arith)

  pub eval_some : (args : List (List ℕ)) (text : List ℕ) → (length args == 0) ≡ false →
      text ≡ concatenated args → eval levels args s ≡ within levels text s passed
  eval_some [] text some is = absurd (cc)
  eval_some (w ∷ ws) text some is = rw is refl
