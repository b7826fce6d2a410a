-- Words that are kept with the branches that they say.
use Rattle.std.specs.Prelude.{ℕ, IsTrue, Bool, List, Option, Ok}
use Rattle.std.specs.List.{All, list_all}
use Rattle.acts.specs.declared.id.Id.{Id}
use Rattle.choices.specs.Branches.{Branches}
use Rattle.choices.specs.Lines.{Line}
use Rattle.readings.specs.Reads.{IsRead, place, is_open_in}
use Rattle.dialog.specs.declared.kept_branches.Reading.{Reading}

-- words say these branches at each place where all ids that the branches name are open
-- (expect(1), expect)
abbrev pub SaysAlways : List (List ℕ) → Option Id → Bool → Branches → Type 0
SaysAlways words current standing b =
    (lines : List Line) → IsTrue (list_all (is_open_in lines) b.named) →
    IsRead (place lines current standing) words (Ok b)

-- what is kept with words is what they say (this project's own rule)
abbrev pub IsKept : {A : Type 0} → Reading A → Type 0
IsKept r = SaysAlways r.words.items r.current r.standing r.branches.value

-- the same of all that is kept
abbrev pub AreKept : {A : Type 0} → List (Reading A) → Type 0
AreKept {A} readings = All (λ (r : Reading A). IsKept r) readings
