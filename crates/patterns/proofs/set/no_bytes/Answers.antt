use Rattle.std.proofs.Common.{◌≡◌, ℕ, zero, suc, false, refl, get_or, replicate}
use Rattle.patterns.proofs.set.no_bytes.Goals as goal

all_false : (n b : ℕ) → get_or (replicate n false) b false ≡ false
all_false zero b = refl
all_false (suc n) zero = refl
all_false (suc n) (suc b) = all_false n b

pub returns : goal.returns
returns c = λ b. all_false 256 b
