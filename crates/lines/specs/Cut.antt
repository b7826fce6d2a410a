-- Texts that lack a byte.
use Rattle.std.specs.Prelude.{◌≡◌, ◌≢◌, ℕ, List, [], ◌∷◌}

-- no byte of the text is this one
abbrev pub Lacks : ℕ → List ℕ → Type 0
Lacks byte [] = Unit {0}
Lacks byte (b ∷ text) = (b ≢ byte) × Lacks byte text

-- the text is empty, or this is its first byte
abbrev pub StartsAt : ℕ → List ℕ → Type 0
StartsAt byte [] = Unit {0}
StartsAt byte (b ∷ text) = b ≡ byte
