-- What proc does, where its words are known.
use Rattle.std.proofs.Common.{◌≡◌, ℕ, List, [], ◌∷◌, length, get_or, sym, arith}
use Rattle.procedures.specs.Proc.{defines_named, proc}
use Rattle.tclstate.specs.Procs.{Procs}

-- three words
pub proc_three : (words : List (List ℕ)) (name formals body : List ℕ) (procs : Procs) →
    length words ≡ 3 → name ≡ get_or words 0 name → formals ≡ get_or words 1 formals →
    body ≡ get_or words 2 body → proc words procs ≡ defines_named name formals body procs
proc_three [] name formals body procs three first second third = absurd (omega (arith, three))
proc_three (n ∷ []) name formals body procs three first second third =
    absurd (omega (arith, three))
proc_three (n ∷ f ∷ []) name formals body procs three first second third =
    absurd (omega (arith, three))
proc_three (n ∷ f ∷ b ∷ []) name formals body procs three first second third =
    λ i. defines_named (sym first i) (sym second i) (sym third i) procs
proc_three (n ∷ f ∷ b ∷ w ∷ ws) name formals body procs three first second third =
    absurd (omega (arith, three))
