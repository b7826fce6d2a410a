-- The answers of a recorded run, and which act gets which of them.
use Rattle.std.specs.Prelude.{◌≡◌, ◌+◌, ◌⊎◌, ℕ, List, [], ◌∷◌, Option, Some, None, MatchOption}
use Rattle.acts.specs.Deed.{Deed, Reply}
use Rattle.acts.specs.Deed as said
use Rattle.records.specs.Entry.{Note}
use Rattle.replays.specs.Due.{IsDue}
use Rattle.replays.specs.Left.{left_in}
use Rattle.replays.specs.declared.recording.Recording.{Recording}

-- how far a recorded run was replayed: the entries that are left, how many acts were answered by
-- one, and the number of the act that differed from the wait that was due, counted from 1, if one
-- did
pub record Recorded : Type 0 where
  pub entries : List Note
  pub answered : ℕ
  pub differs : Option ℕ

-- a recorded run of which nothing was replayed yet
abbrev pub whole : List Note → Recorded
whole entries = record { entries = entries; answered = 0; differs = None }

-- what a recording of the program says
abbrev pub recorded_in : {A : Type 0} → Recording A → Recorded
recorded_in recording = record {
  entries = left_in recording.left;
  answered = recording.answered;
  differs = recording.differs;
}

-- the next entry answers the act and is used up; an act that it does not answer differs; where no
-- entry is left, there are no more answers
abbrev pub AnswersNext : List Note → ℕ → Deed → Reply → Recorded → Type 0
AnswersNext [] answered act reply after =
    (reply ≡ said.NoMore)
    × (after ≡ record { entries = []; answered = answered; differs = None })
AnswersNext (next ∷ entries) answered act reply after =
    (IsDue next.rows act × (reply ≡ next.reply)
    × (after ≡ record { entries = entries; answered = answered + 1; differs = None }))
    ⊎ ((¬ IsDue next.rows act) × (reply ≡ said.NoMore)
    × (after ≡ record { entries = entries; answered = answered; differs = Some (answered + 1) }))

-- from the act on that differed there are no more answers
abbrev pub Answers : Recorded → Deed → Reply → Recorded → Type 0
Answers before act reply after =
    MatchOption before.differs (AnswersNext before.entries before.answered act reply after)
    (λ number. (reply ≡ said.NoMore) × (after ≡ before))
