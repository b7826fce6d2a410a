-- How the words of the code correspond to those of the definition.
use Rattle.std.specs.Prelude.{ℕ, List, [], map}
use Rattle.state.specs.Prelude.{Deed}
use Rattle.std.specs.declared.vec.Vec.{Vec}
use Rattle.acts.specs.Deed as said

-- the words of a program that is to be started
abbrev pub words_of : {A : Type 0} → List (Vec ℕ A) → List (List ℕ)
words_of words = map (λ w. w.items) words

-- the words with which an act starts a program
abbrev pub words_spawned : Deed → List (List ℕ)
words_spawned (said.Spawn id words) = words
words_spawned _ = []
