-- Induction over the length of a text.
use Rattle.std.proofs.Common.{ℕ, zero, suc, ◌+◌, ◌<◌, List, length, arith}

shorter_first : (P : List ℕ → Type 0) → ((x : List ℕ) → ((z : List ℕ) → length z < length x → P z) →
    P x) → (n : ℕ) (x : List ℕ) → length x < n → P x
shorter_first P step zero x h = absurd (omega arith)
shorter_first P step (suc n) x h = step x (λ z k. shorter_first P step n z (omega arith))

-- a fact holds of every text if, for each text, it follows from that of all shorter ones
pub by_length : (P : List ℕ → Type 0) → ((x : List ℕ) → ((z : List ℕ) → length z < length x → P z) →
    P x) → (x : List ℕ) → P x
by_length P step x = shorter_first P step (length x + 1) x (omega arith)
