-- Chains of writes that were interrupted.
use Rattle.std.proofs.Common.{◌≡◌, ℕ, List, [], ◌∷◌, ◌++◌, Option, Some, None, Result, Err, refl, sym, subst, ◌∙◌}
use Rattle.std.specs.Io.KnownBytes.{Keeps}
use Rattle.std.specs.IoError.{error_kind}
use Rattle.std.specs.declared.io.Error.{Error}
use Rattle.std.specs.declared.io.ErrorKind.TheVariants.{Interrupted}
use Rattle.records.specs.Tries.{AreInterrupted}

-- one more write that was interrupted
pub AreInterrupted-more : {W : Type 0} (writes : W → List ℕ → Result ℕ Error → W → Type 0)
    (errors : List Error) (error : Error) (before mid after : W) (text : List ℕ)
    → AreInterrupted writes errors before text mid → writes mid text (Err error) after →
    error_kind error ≡ Interrupted
    → AreInterrupted writes (errors ++ error ∷ []) before text after
AreInterrupted-more writes [] error before mid after text same write is =
    (after, subst (λ w. writes w text (Err error) after) (sym same) write, is, refl)
AreInterrupted-more writes (first ∷ errors) error before mid after text (next, write', is', others)
    write is =
    (next, write', is', AreInterrupted-more writes errors error next mid after text others write is)

-- bytes that are known and kept by each of two steps are kept by both together
pub Keeps-then : (a b c : Option (List ℕ)) → Keeps a b → Keeps b c → Keeps a c
Keeps-then None b c first second = tt
Keeps-then (Some x) None c first second = absurd first
Keeps-then (Some x) (Some y) None first second = absurd second
Keeps-then (Some x) (Some y) (Some z) first second = second ∙ first
