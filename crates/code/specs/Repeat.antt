-- The words of for.
use Rattle.std.specs.Prelude.{List, ℕ, [], ◌∷◌}
use Rattle.code.specs.declared.repeat.For.{For}

-- the words after for, of which this one is the script that runs after each turn (for(n))
abbrev pub for_args : {A : Type 0} → For A → List ℕ → List (List ℕ)
for_args own step = own.start ∷ own.turns.test ∷ step ∷ own.turns.body ∷ []
