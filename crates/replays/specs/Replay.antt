-- What a replay answers and writes.
use Rattle.std.specs.Prelude.{◌≡◌, ℕ, Bool, nat_le, if◌then◌else◌, List, [], length, take}
use Rattle.acts.specs.Deed.{Deed, Reply}
use Rattle.acts.specs.Deed as said
use Rattle.records.specs.Sink.{Takes}
use Rattle.replays.specs.Recording.{Recorded, Answers}

-- the bytes that go out of a text that is written: all where the write is done, the first `sent`
-- bytes where it failed after that many and the text has them, and else none
abbrev pub gone_out : List ℕ → Reply → List ℕ
gone_out text said.Done = text
gone_out text (said.Failed sent) = if nat_le sent (length text) then take sent text else []
gone_out text _ = []

-- `out` and `err` say what a writer does with a text.
module _ {O E : Type 0} (out : O → List ℕ → O → Type 0) (err : E → List ℕ → E → Type 0) where
  -- only what goes out of a writing act is written, to its own writer
  abbrev pub Writes : O × E → Deed → Reply → O × E → Type 0
  Writes before (said.Out text) reply after =
      out before.0 (gone_out text reply) after.0 × (after.1 ≡ before.1)
  Writes before (said.Err text) reply after =
      (after.0 ≡ before.0) × err before.1 (gone_out text reply) after.1
  Writes before _ reply after = (after.0 ≡ before.0) × (after.1 ≡ before.1)

-- `out` and `err` say whether a put may lead from one state of a writer to another and add these
-- bytes, `out_failed` and `err_failed` whether a writer has failed.
module _ {O E : Type 0} (out : O → List ℕ → O → Type 0) (out_failed : O → Bool)
    (err : E → List ℕ → E → Type 0) (err_failed : E → Bool) where
  -- a step of a replay by what answers the acts, which is its state beside the two writers
  abbrev pub ReplaysBy : {R : Type 0} → (answers : R → Deed → Reply → R → Type 0) →
      R × (O × E) → Deed → Reply → R × (O × E) → Type 0
  ReplaysBy answers before act reply after =
      answers before.0 act reply after.0
      × Writes (Takes out out_failed) (Takes err err_failed) before.1 act reply after.1

  -- a step of a replay, whose state is how far the recorded run was replayed, and the two writers
  abbrev pub Replays : Recorded × (O × E) → Deed → Reply → Recorded × (O × E) → Type 0
  Replays = ReplaysBy Answers
