-- The keys of a map are those of its pairs.
use Rattle.std.proofs.Common.{◌≡◌, ℕ, List, [], ◌∷◌, map, refl, ap}
use Rattle.std.specs.declared.vec.Vec.{Vec}
use Rattle.tclstate.specs.Pairs.{keys_of}
use Rattle.tclstate.specs.Stored.{texts_of}

pub keys_texts : {A : Type 0} (es : List (Vec ℕ A × List ℕ)) →
    map (λ (k : Vec ℕ A). k.items) (map (λ (e : Vec ℕ A × List ℕ). e.0) es) ≡ keys_of (texts_of es)
keys_texts [] = refl
keys_texts (e ∷ es) = ap (λ r. e.0.items ∷ r) (keys_texts es)
