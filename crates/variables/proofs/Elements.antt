-- What becomes of the elements of an array that are written, one after the other.
use Rattle.std.proofs.Common.{◌≡◌, ◌∙◌, ℕ, ◌-◌, ◌≤◌, ◌<◌, List, [], ◌∷◌, length, drop, take, get_or, Some, Ok, refl, sym, ap, arith}
use Rattle.std.proofs.Math.Seq.{take-length}
use Rattle.kinds.specs.Variables.{put}
use Rattle.tclstate.specs.Scopes.{Scopes}
use Rattle.variables.specs.Array.Set.{writes_all}
use Rattle.variables.specs.Unset.{onward}

-- the first two elements are an index and a value, which are written first
pub writes_first : (name : List ℕ) (elements : List (List ℕ)) (s : Scopes)
    (i v first second : List ℕ) → 2 ≤ length elements → i ≡ get_or elements 0 i →
    v ≡ get_or elements 1 v → first ≡ i → second ≡ v →
    writes_all name elements s
    ≡ onward (put name (Some first) second s) s
    (writes_all name (take (length elements - 2) (drop 2 elements)))
writes_first name [] s i v f g two is also same alike = absurd (omega arith)
writes_first name (x ∷ []) s i v f g two is also same alike = absurd (omega arith)
writes_first name (x ∷ y ∷ zs) s i v f g two is also same alike =
    let n : length (x ∷ y ∷ zs) - 2 ≡ length zs = omega arith in
    let rest : take (length (x ∷ y ∷ zs) - 2) zs ≡ zs = rw n (take-length zs) in
    ap (λ k. onward (put name (Some k) y s) s (writes_all name zs)) (sym (same ∙ is))
    ∙ ap (λ w. onward (put name (Some f) w s) s (writes_all name zs)) (sym (alike ∙ also))
    ∙ ap (λ ws. onward (put name (Some f) g s) s (writes_all name ws)) (sym rest)

-- where no element or one is left, nothing more is written
pub writes_none : (name : List ℕ) (elements : List (List ℕ)) (s : Scopes) → length elements < 2 →
    writes_all name elements s ≡ (s, Ok [])
writes_none name [] s few = refl
writes_none name (x ∷ []) s few = refl
writes_none name (x ∷ y ∷ zs) s few = absurd (omega arith)
