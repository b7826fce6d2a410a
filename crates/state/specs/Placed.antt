-- Where bytes that arrive are written.
use Rattle.std.specs.Prelude.{ℕ, Bool, true, false, List, [], ◌∷◌}
use Rattle.acts.specs.Deed as said
use Rattle.choices.specs.LogState.{goes_out, is_logged}
use Rattle.state.specs.Dialogue.{Course, ask, written}
use Rattle.state.specs.Status.{Status}

-- bytes are written to standard output, or are not (expect(1), log_user)
abbrev pub shown : Bool → List ℕ → Status → (Status → Course) → Course
shown false bytes s next = next s
shown true bytes s next = ask (said.Out bytes) s (written next)

-- bytes are written to the log, or are not (expect(1), log_file)
abbrev pub noted : Bool → List ℕ → Status → (Status → Course) → Course
noted false bytes s next = next s
noted true bytes s next = ask (said.Log bytes) s (written next)

-- bytes are written to standard output, and then to the log, as the settings say; where there are
-- no bytes, nothing is written (expect(1), log_user and log_file)
abbrev pub placed : List ℕ → Status → (Status → Course) → Course
placed [] s next = next s
placed (b ∷ bs) s next =
    shown (goes_out s.log) (b ∷ bs) s (λ t. noted (is_logged t.log) (b ∷ bs) t next)
