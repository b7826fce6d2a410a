-- What expr does first, where it is known whether it has words.
use Rattle.std.proofs.Common.{◌≡◌, ℕ, suc, ◌==◌, true, false, List, [], ◌∷◌, length, refl, arith}
use Rattle.std.specs.Prelude.{codes}
use Rattle.std.proofs.lemmas.Bool.Decides.{nat_tests}
use Rattle.acts.specs.Flaw as flaw
use Rattle.nesting.specs.Expr.{expr, told}
use Rattle.nesting.specs.Formulas.{with_formula}
use Rattle.state.specs.Evaluated.{evaluated}
use Rattle.pure.specs.Concat.{concatenated}
use Rattle.state.specs.Prelude.{raises, Status}

module _ (levels : ℕ) (s : Status) where
  pub expr_none : (args : List (List ℕ)) → (length args == 0) ≡ true →
      expr levels args s ≡ raises (flaw.WrongArgs (codes "expr")) s
  expr_none [] none = refl
  expr_none (w ∷ ws) none =
      let no : suc (length ws) ≡ 0 = grind (arith, nat_tests) in absurd (omega arith)

  pub expr_some : (args : List (List ℕ)) (text : List ℕ) → (length args == 0) ≡ false →
      text ≡ concatenated args →
      expr levels args s ≡ with_formula text s (λ formula. evaluated levels formula s told)
  expr_some [] text some is = absurd (cc)
  expr_some (w ∷ ws) text some is = rw is refl
