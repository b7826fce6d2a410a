-- The turn of expect: a test, the wait after it, what an answer leads to, and the body of what is
-- chosen (expect(1), expect).
use Rattle.std.specs.Prelude.{ℕ, List, [], ◌∷◌, Option, Some, None}
use Rattle.state.specs.Prelude.{Id, Reply, Reads, Course, gives, leaves, raises, stops, ask, within, Outcome, Gives, Leaves, Stops, Again, AgainRunning, TurnTree, Status, lines, shut}
use Rattle.acts.specs.declared.act.Timer.{Timer}
use Rattle.acts.specs.Deed as said
use Rattle.acts.specs.Flaw as flaw
use Rattle.acts.specs.Id.{id_text}
use Rattle.choices.specs.Choice.{Chosen, Taken, peers_after, taken_of}
use Rattle.choices.specs.Lines.{rows_of}
use Rattle.choices.specs.Peers.{arrived}
use Rattle.dialog.specs.Standing.{Effective, pruned}
use Rattle.choices.specs.declared.choice.Trigger.{Trigger}
use Rattle.choices.specs.declared.choice.Trigger.TheVariants as after
use Rattle.expects.specs.Clock.{clock_of, later}
use Rattle.expects.specs.Report.{reports}
use Rattle.kinds.specs.Kinds.{on_ok}
use Rattle.plan.specs.Plan.{goes}
use Rattle.state.specs.Dialogue.{tick}
use Rattle.state.specs.Piece.{ChoiceText, Turn}
use Rattle.state.specs.Placed.{placed}
use Rattle.state.specs.Status.{at_id}

-- what a choice consumes is consumed (expect(1), expect)
abbrev pub consumed : Trigger → Chosen → Status → Status
consumed t c s = record s { ids = record s.ids { peers = peers_after t c s.ids.peers } }

-- the same, where there is a choice
abbrev pub consumed_by : Trigger → Option Chosen → Status → Status
consumed_by t None s = s
consumed_by t (Some c) s = consumed t c s

-- what a choice has for expect_out, where there is a choice
abbrev pub taken_by : Trigger → Option Chosen → Status → Option Taken
taken_by t None s = None
taken_by t (Some c) s = taken_of (lines s) t c

-- a turn after another trigger
abbrev pub begun_by : Trigger → TurnTree → TurnTree
begun_by t turn = record turn { trigger = t }

-- a turn whose next wait has this timer
abbrev pub timed : Timer → TurnTree → TurnTree
timed clock turn = record turn { clock = Some clock }

-- a turn that begins again, whose next wait has this timer, if there is one
abbrev pub renewed : Option Timer → TurnTree → TurnTree
renewed clock turn = record turn { trigger = after.Entry; clock = clock }

-- a turn with only those of its pairs and ids that are left
abbrev pub leaving : Effective → TurnTree → TurnTree
leaving left turn = record turn { effective = left }

-- the first of ids, where there is one
abbrev pub first_of : List Id → Option Id
first_of [] = None
first_of (i ∷ is) = Some i

-- an id as it is spelled
abbrev pub named_by : Option Id → Option (List ℕ)
named_by None = None
named_by (Some i) = Some (id_text i.0)

-- a turn begins again with those of its pairs and ids that are left; where none of its ids is open
-- any more, the expect is over with the error that the first of them is not open (expect(1),
-- exp_continue)
abbrev pub begins_again : List Id → Effective → Option Timer → TurnTree → ℕ → Status → Course
begins_again [] left clock turn levels s =
    raises (flaw.NotOpen (named_by (first_of turn.effective.ids))) s
begins_again (i ∷ is) left clock turn levels s =
    goes (Turn (renewed clock (leaving left turn)) levels) s

-- a turn goes on with the ids that are still open and their pairs, and with this timer, if there is
-- one (expect(1), exp_continue)
abbrev pub again : Option Timer → TurnTree → ℕ → Status → Course
again clock turn levels s =
    let left = pruned (lines s) turn.effective in
    begins_again left.ids left clock turn levels s

-- after the body: by exp_continue the turn goes on, and its timer starts anew or runs on; else the
-- body's outcome is that of expect (expect(1), expect and exp_continue)
abbrev pub behind : TurnTree → ℕ → Status → Outcome → Course
behind turn levels s (Gives value) = gives value s
behind turn levels s (Leaves Again value) = again None turn levels s
behind turn levels s (Leaves AgainRunning value) = again turn.clock turn levels s
behind turn levels s (Leaves code value) = leaves code value s
behind turn levels s (Stops stop) = stops stop s

-- a body runs once expect_out is set (expect(1), expect)
abbrev pub does : TurnTree → ℕ → Option Taken → List ℕ → Status → Course
does turn levels taken body s =
    reports taken s (λ t. within levels body t (behind turn levels))

-- the body of what is chosen runs, or else what follows where nothing is chosen (expect(1), expect)
abbrev pub settled : TurnTree → ℕ → Option Taken → Status → (Status → Course) → Option Chosen →
    Course
settled turn levels taken s otherwise None = otherwise s
settled turn levels taken s otherwise (Some c) =
    does turn levels taken c.pair.branch.body s

-- what follows from what is chosen after a trigger, if anything is (expect(1), expect)
abbrev pub chooses : Trigger → TurnTree → Status → (Option Chosen → Course) → Course
chooses t turn s next = Reads (ChoiceText (lines s) t turn.effective.pairs) next

-- a choice after a trigger is made and done (expect(1), expect)
abbrev pub selects : Trigger → TurnTree → ℕ → Status → (Status → Course) → Course
selects t turn levels s otherwise =
    chooses t turn s
    (λ c. settled turn levels (taken_by t c s) (consumed_by t c s) otherwise c)

-- an id that ended is closed before what is chosen is done (expect(1), expect, eof; the order is
-- this project's own rule)
abbrev pub closes : Id → TurnTree → ℕ → Status → Option Chosen → Course
closes i turn levels s c =
    ask (said.Close i) (consumed_by (after.End i) c s) (λ t reply.
    settled turn levels (taken_by (after.End i) c s) (shut i t) (gives []) c)

-- bytes are put into the buffer of their id, and a turn begins that looks for a pair after that
-- (expect(1), expect)
abbrev pub arrives : Id → List ℕ → TurnTree → ℕ → Status → Course
arrives i bytes turn levels s =
    goes (Turn (begun_by (after.Arrival i) turn) levels) (at_id (arrived bytes) i s)

-- bytes that came are written, and put into their buffer after that (expect(1), expect, log_user
-- and log_file)
abbrev pub comes : Id → List ℕ → TurnTree → ℕ → Status → Course
comes i bytes turn levels s = placed bytes s (arrives i bytes turn levels)

-- after an end with no branch for it the value is empty (expect(1), expect)
abbrev pub ends : Id → TurnTree → ℕ → Status → Course
ends i turn levels s = chooses (after.End i) turn s (closes i turn levels s)

-- after a timeout with no branch for it the value is empty (expect(1), expect)
abbrev pub times_out : TurnTree → ℕ → Status → Course
times_out turn levels s = selects after.TimedOut turn levels s (gives [])

-- what the answer to a wait leads to (expect(1), expect)
abbrev pub waited : TurnTree → ℕ → Status → Reply → Course
waited turn levels s (said.Arrive i bytes) = comes i bytes turn levels s
waited turn levels s (said.Ended i) = ends i turn levels s
waited turn levels s _ = times_out turn levels s

-- a wait with that timer takes a tick, and reports each open id that is waited for (expect(1),
-- expect; ticks are this project's own rule)
abbrev pub waits_by : Timer → TurnTree → ℕ → Status → Course
waits_by clock turn levels s =
    tick s (λ t. ask (said.Wait (rows_of (lines t) turn.effective.ids) clock) t
    (waited (timed (later clock) turn) levels))

-- a wait, once its timer is known (expect(1), expect and timeout)
abbrev pub waits : TurnTree → ℕ → Status → Course
waits turn levels s =
    on_ok (clock_of turn.clock turn.seconds s) s (λ clock. waits_by clock turn levels s)

-- a turn: where nothing is chosen there is a wait (expect(1), expect)
abbrev pub turns : TurnTree → ℕ → Status → Course
turns turn levels s = selects turn.trigger turn levels s (waits turn levels)
