-- Bytes that a reader gives piece by piece.
use Rattle.std.proofs.Common.{◌≡◌, List, [], ◌++◌, length, take, ℕ, Option, Some, None, IfSome, refl, sym, ap, ◌∙◌, append_assoc, append-nil}
use Rattle.std.proofs.Math.Seq.{take-append_seam}
use Rattle.std.specs.Io.KnownBytes.{Consumes, IsAtEnd}

-- two pieces that are read one after the other are read as one
pub Consumes-then : (a b c : Option (List ℕ)) (x y : List ℕ) → Consumes a b x → Consumes b c y →
    Consumes a c (x ++ y)
Consumes-then None b c x y first second = tt
Consumes-then (Some p) None c x y first second = absurd first
Consumes-then (Some p) (Some q) None x y first second = absurd second
Consumes-then (Some p) (Some q) (Some r) x y first second =
    first ∙ ap (λ bytes. x ++ bytes) second ∙ sym (append_assoc x y r)

-- what is read up to the end is all bytes
pub Consumes-end : (a b c : Option (List ℕ)) (x : List ℕ) → Consumes a b x → Consumes b c [] →
    IsAtEnd c → IfSome a (λ bytes. x ≡ bytes)
Consumes-end None b c x first second end = tt
Consumes-end (Some p) None c x first second end = absurd first
Consumes-end (Some p) (Some q) None x first second end = absurd second
Consumes-end (Some p) (Some q) (Some r) x first second end =
    sym (first ∙ ap (λ bytes. x ++ bytes) (second ∙ end) ∙ append-nil x)

-- a reader that stays as it was gives no byte
pub Consumes-none : (a : Option (List ℕ)) → Consumes a a []
Consumes-none None = tt
Consumes-none (Some p) = refl

-- room that is filled holds what was read
pub filled : (read rest : List ℕ) (room : ℕ) → length read ≡ room → take room (read ++ rest) ≡ read
filled read rest room e = rw (← e) (take-append_seam read rest)
