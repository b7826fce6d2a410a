-- What spawn does.
use Rattle.std.specs.Prelude.{ℕ, Bool, not, List, [], ◌∷◌, codes, Result, Err, if◌then◌else◌}
use Rattle.state.specs.Prelude.{Id, Deed, Reply, Flaw, bind, Course, Status}
use Rattle.std.specs.Str.{bytes_eq}
use Rattle.acts.specs.Flaw as flaw
use Rattle.kinds.specs.Exchange.{Exchange, course, written}
use Rattle.kinds.specs.Ids.{connection_id}
use Rattle.kinds.specs.Usage.{after_flag, misplaced}
use Rattle.state.specs.Arguments.{is_flag}
use Rattle.processes.specs.Launch.{enters, launches, notes, started, starts}
use Rattle.processes.specs.View.{words_of, words_spawned}
use Rattle.processes.specs.declared.spawn.Waits.{Waits}
use Rattle.processes.specs.declared.spawn.Waits.TheVariants as waits

-- the flag after which an open channel stands (expect(1), spawn)
abbrev pub is_open_flag : List ℕ → Bool
is_open_flag w = bytes_eq w (codes "-open")

-- the open connection of the one word after the flag (expect(1), spawn)
abbrev pub channel_said : List (List ℕ) → Status → Result Id Flaw
channel_said (w ∷ []) s = connection_id w s
channel_said _ s = Err (flaw.WrongArgs (codes "spawn"))

-- the id of an open channel is in force, and 0 is given, as no process is started; no word may
-- stand after the channel (expect(1), spawn)
abbrev pub by_channel : List (List ℕ) → Status → Result (Exchange 4) Flaw
by_channel words s = bind (channel_said words s) (λ i. enters (codes "0") i s.scopes)

-- the words after the first flag: those of a channel, or those of a program, of which the first is
-- no flag (expect(1), spawn)
abbrev pub spawns : Bool → List (List ℕ) → Status → Result (Exchange 4) Flaw
spawns echo [] s = Err (flaw.WrongArgs (codes "spawn"))
spawns echo (w ∷ ws) s =
    if is_open_flag w then by_channel ws s
    else if is_flag w then Err (misplaced (codes "-noecho" ∷ []) (codes "spawn") w)
    else launches echo (w ∷ ws) s

-- the words after the flag that keeps the command from being echoed (expect(1), spawn)
abbrev pub by_echo : Bool × List (List ℕ) → Status → Result (Exchange 4) Flaw
by_echo (quiet, words) s = spawns (not quiet) words s

-- spawn ?-noecho? word .., spawn ?-noecho? -open channel (expect(1), spawn)
abbrev pub spawn : List (List ℕ) → Status → Result (Exchange 4) Flaw
spawn args s = by_echo (after_flag (codes "-noecho") args) s

-- what follows the answer to an act (expect(1), spawn)
abbrev pub follows : {A : Type 0} → Waits A → Deed → Status → Reply → Exchange 3
follows (waits.Shown id words) deed s = written (notes id (words_of words.items) s)
follows (waits.Noted id words) deed s = written (starts id (words_of words.items))
follows waits.Started deed s = started (words_spawned deed) s

-- the same, as a part of a run
abbrev pub next_of : {A : Type 0} → Waits A → Deed → Status → Reply → Course
next_of waits deed s reply = course (follows waits deed s reply) s
