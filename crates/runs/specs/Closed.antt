-- The ids that acts close.
use Rattle.std.specs.Prelude.{ℕ, List, [], ◌∷◌, ◌++◌}
use Rattle.state.specs.Prelude.{Deed}
use Rattle.acts.specs.Deed as said
use Rattle.acts.specs.History.{History}

-- the number of the id that an act closes, if it closes one (expect(1), close)
abbrev pub closed_at : Deed → List ℕ
closed_at (said.Close id) = id.0 ∷ []
closed_at _ = []

-- the numbers of the ids that acts close, in their order (expect(1), close)
abbrev pub closed_by : History → List ℕ
closed_by [] = []
closed_by (pair ∷ h) = closed_at pair.0 ++ closed_by h
