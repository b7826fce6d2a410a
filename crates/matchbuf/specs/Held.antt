-- What a contract sees of a match buffer.
use Rattle.std.specs.Prelude.{ℕ, List, refl}
use Rattle.std.specs.Coded.{Coded, code_by, coded×, coded_list, coded_ℕ}

-- the bytes that it holds, the oldest first, and the most that it may hold; expect(1), match_max
pub record Held : Type 0 where
  pub bytes : List ℕ
  pub max : ℕ

-- the buffer of these bytes and this size
abbrev pub held : List ℕ → ℕ → Held
held bytes max = record { bytes = bytes; max = max }

-- how the logic stores one
abbrev pub held_code : Coded Held
held_code =
    let stored = coded× (coded_list coded_ℕ) coded_ℕ in
    code_by (List ℕ × ℕ) stored (λ h. (h.bytes, h.max)) (λ p. held p.0 p.1) (λ _. refl)
