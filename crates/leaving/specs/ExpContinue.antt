-- What exp_continue does.
use Rattle.std.specs.Prelude.{ℕ, ◌==◌, ◌&&◌, Bool, not, List, [], ◌∷◌, length, codes, Result, Ok, Err, if◌then◌else◌}
use Rattle.state.specs.Prelude.{Flaw, Outcome, Leaves, Again, AgainRunning}
use Rattle.acts.specs.Flaw as flaw
use Rattle.kinds.specs.Usage.{after_flag, misplaced}

-- the flags of exp_continue (expect(1), exp_continue)
abbrev pub flags : List (List ℕ)
flags = codes "-continue_timer" ∷ []

-- the expect continues, and its timer keeps running or starts anew
abbrev pub again : Bool → Outcome
again running = if running then Leaves AgainRunning [] else Leaves Again []

-- the error of a word that is not the flag: where it stands alone it is reported as a bad argument,
-- whatever it is (this project's own rule)
abbrev pub refused : Bool → List ℕ → Flaw
refused alone w =
    if alone then flaw.BadArgument w (codes "exp_continue")
    else misplaced flags (codes "exp_continue") w

-- no word may stand after the flag (expect(1), exp_continue)
abbrev pub by_words : Bool × List (List ℕ) → Result Outcome Flaw
by_words (running, []) = Ok (again running)
by_words (running, w ∷ ws) = Err (refused (not running && (length ws == 0)) w)

-- exp_continue ?-continue_timer? (expect(1), exp_continue)
abbrev pub exp_continue : List (List ℕ) → Result Outcome Flaw
exp_continue args = by_words (after_flag (codes "-continue_timer") args)
