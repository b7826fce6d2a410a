-- The sizes that a match buffer may have.
use Rattle.std.specs.Prelude.{ℕ, ◌≤◌}

-- the greatest size: a million bytes, so that many buffers fit a machine (this project's own rule)
abbrev pub greatest_size : ℕ
greatest_size = 1000000

-- a size that a buffer may have; expect(1), match_max
abbrev pub IsSize : ℕ → Type 0
IsSize size = (1 ≤ size) × (size ≤ greatest_size)
