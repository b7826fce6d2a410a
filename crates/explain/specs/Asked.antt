-- The words of a call of rx-explain (this project's own).
use Rattle.std.specs.Prelude.{◌≡◌, ◌⊎◌, ℕ, List, [], ◌∷◌, ◌++◌, Option, Some, None, codes}
use Rattle.arguments.specs.Arguments.{Call, IsCall}
use Rattle.teller.specs.declared.telling.Detail.{Detail}
use Rattle.teller.specs.declared.telling.Detail.TheVariants.{Brief, Whole}

-- the words that name the file of the story, where one is named
abbrev pub story_words : Option (List ℕ) → List (List ℕ)
story_words None = []
story_words (Some file) = codes "--story" ∷ file ∷ []

-- the words that say how much is told
abbrev pub detail_words : Detail → List (List ℕ)
detail_words Whole = []
detail_words Brief = codes "--brief" ∷ []

-- these words say so much of a story, in either order, and then come the rest
abbrev pub Spells : (words : List (List ℕ)) → Option (List ℕ) → Detail → (rest : List (List ℕ)) →
    Type 0
Spells words file detail rest =
    (words ≡ (story_words file ++ detail_words detail) ++ rest)
    ⊎ (words ≡ (detail_words detail ++ story_words file) ++ rest)

-- these words ask for the story of this call of rx, in so much detail, and in this file where one
-- is named
pub record Asks (words : List (List ℕ)) (file : Option (List ℕ)) (detail : Detail) (call : Call) :
    Type 0 where
  pub rest : List (List ℕ)
  pub spells : Spells words file detail rest
  pub calls : IsCall rest call

-- words ask for this and for nothing else
abbrev pub AsksOnly : List (List ℕ) → Option (List ℕ) → Detail → Call → Type 0
AsksOnly words file detail call =
    Asks words file detail call
    × ((other_file : Option (List ℕ)) (other_detail : Detail) (other : Call) →
    Asks words other_file other_detail other →
    (other_file ≡ file) × (other_detail ≡ detail) × (other ≡ call))

-- words say this of a story, and leave the rest for a call of rx; and whatever call they ask for,
-- it is that of this rest, with a story in this file and in so much detail
pub record IsFront (words : List (List ℕ)) (file : Option (List ℕ)) (detail : Detail)
    (rest : List (List ℕ)) : Type 0 where
  pub spells : Spells words file detail rest
  pub only : (other_file : Option (List ℕ)) (other_detail : Detail) (left : List (List ℕ))
      (call : Call) → Spells words other_file other_detail left → IsCall left call →
      (other_file ≡ file) × (other_detail ≡ detail) × IsCall rest call
