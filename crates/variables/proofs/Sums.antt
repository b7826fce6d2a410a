-- A sum that is written where a variable stands is that of incr.
use Rattle.std.proofs.Common.{◌≡◌, ℕ, ℤ, List, Option, Some, None, Result, Ok, Err, IfSome, refl, sym}
use Rattle.state.specs.Prelude.{Scopes}
use Rattle.tclstate.specs.Scopes.{Trouble, read, written}
use Rattle.tclstate.specs.Sum.{HasSum}
use Rattle.variables.specs.Incr.{adds_to, step_of}

module _ (name : List ℕ) (by : Option (List ℕ)) (k : ℤ) (old new : Scopes)
    (step : step_of by ≡ Ok k) where
  by_read : (r : Result (List ℕ) Trouble) (sum : List ℕ) → read old name None ≡ r →
      HasSum k sum r → written old name None sum ≡ Ok new →
      adds_to name None by old ≡ Ok (new, sum)
  by_read (Ok text) sum is added made =
      rw (step, is, added.is, added.in_range, added.sum_in_range, sym added.written, made) refl
  by_read (Err trouble) sum is added made = absurd added

  -- the sum is what incr gives, and the variable has it
  pub sum_added : (r : Option (List ℕ)) →
      IfSome r (λ sum. HasSum k sum (read old name None)) →
      IfSome r (λ sum. written old name None sum ≡ Ok new) →
      IfSome r (λ sum. adds_to name None by old ≡ Ok (new, sum))
  sum_added (Some sum) added made = by_read (read old name None) sum refl added made
  sum_added None added made = tt
