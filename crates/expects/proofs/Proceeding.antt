-- The bounds that a turn of expect keeps to.
use Rattle.std.proofs.Common.{◌≡◌, ℕ, zero, suc, ◌+◌, ◌*◌, ◌-◌, ◌<◌, ◌≤◌, ◌==◌, Bool, true, false, List, [], ◌∷◌, map, Option, Some, None, Result, Ok, Err, if◌then◌else◌, refl, arith}
use Rattle.acts.specs.declared.act.Timer.{Timer}
use Rattle.state.specs.Prelude.{Id, Deed, Reply, Flaw, Peer, Ends, worth, Course, ask, gives, inside, within, Outcome, Gives, Leaves, Stops, Error, Return, Break, Continue, Again, AgainRunning, ScriptTree, TurnTree, Status, lines, shut, Scopes}
use Rattle.acts.specs.declared.row.Row.{Row}
use Rattle.acts.specs.Deed as said
use Rattle.acts.specs.Fits.{fits}
use Rattle.choices.specs.Choice.{Chosen, Share, Nothing, Front, Whole, Taken, consumed_to, share_of}
use Rattle.choices.specs.Lines.{line_of, with_row, rows_of}
use Rattle.choices.specs.LogState.{goes_out, is_logged}
use Rattle.choices.specs.Peers.{arrived, line, opened}
use Rattle.dialog.specs.Standing.{Effective, pruned}
use Rattle.choices.specs.declared.choice.Trigger.{Trigger}
use Rattle.choices.specs.declared.choice.Trigger.TheVariants as after
use Rattle.choices.proofs.Opened.{count_arrived, count_kept, count_shut}
use Rattle.matchbuf.proofs.Windows.{windows_hold}
use Rattle.plan.specs.Plan.{goes}
use Rattle.state.proofs.Judged.{replied_cut}
use Rattle.state.specs.Budget.{budget, left_after}
use Rattle.state.specs.Dialogue.{is_no_more, stopping, tick_of, written}
use Rattle.state.specs.Outcome as stop
use Rattle.state.specs.Piece.{Piece, Turn}
use Rattle.state.specs.Placed.{noted, shown}
use Rattle.state.specs.Proceeds.{Proceeds}
use Rattle.state.specs.Rows.{Holds, RowsHold}
use Rattle.state.specs.Status.{at_id}
use Rattle.expects.specs.Clock.{clock_of, later}
use Rattle.expects.specs.Report.{Written, on_written, reported}
use Rattle.kinds.specs.Kinds.{on_ok}
use Rattle.expects.specs.Turn.{again, arrives, begins_again, begun_by, behind, comes, consumed, consumed_by, does, ends, leaving, renewed, settled, selects, taken_by, timed, times_out, turns, waited, waits, waits_by}

-- rows that hold at most their size, with that of one more id in front
row_holds : (ps : List Peer) (i : Id) (rows : List Row) → RowsHold rows →
    RowsHold (with_row (line_of (map line ps) i) rows)
row_holds [] i rows hold = hold
row_holds (p ∷ ps) i rows hold = by (p.id.0 == i.0) (row_holds ps i rows hold)
  where
    by : (b : Bool) → RowsHold (with_row (line_of (map line ps) i) rows) →
        RowsHold (with_row (if b then Some (line p) else line_of (map line ps) i) rows)
    by true others = (windows_hold p.journal, hold)
    by false others = others

pub rows_hold : (s : Status) (is : List Id) → RowsHold (rows_of (lines s) is)
rows_hold s [] = tt
rows_hold s (i ∷ is) =
    row_holds (opened s.ids.peers) i (rows_of (lines s) is) (rows_hold s is)

-- a choice leaves each id as open as it was
keeps_open : (share : Share) (p : Peer) → (consumed_to share p).is_open ≡ p.is_open
keeps_open Nothing p = refl
keeps_open (Front n) p = refl
keeps_open Whole p = refl

-- a state after a choice is worth what it was
worth_after : (t : Trigger) (c : Option Chosen) (s : Status) → worth (consumed_by t c s) ≡ worth s
worth_after t None s = refl
worth_after t (Some c) s =
    omega (
      arith,
      count_kept (consumed_to (share_of t c)) c.pair.id (keeps_open (share_of t c)) s.ids.peers,
    )

left_kept : (t : Trigger) (c : Option Chosen) (s : Status) → (consumed_by t c s).left ≡ s.left
left_kept t None s = refl
left_kept t (Some c) s = refl

-- another piece runs in the place of this one
goes_proceed : (most had : ℕ) (piece : Piece) (s : Status) → budget piece s < most →
    worth s ≤ had → Proceeds most had (goes piece s)
goes_proceed most had piece s below paid = (
  below,
  paid,
  λ left outcome. (omega (arith, below), omega arith),
  λ left stop. (left, refl),
)

-- an answer that does not fit, or none, ends the run
judged_proceeds : (most had : ℕ) (s : Status) (next : Course) (none fit : Bool) →
    2 * s.left ≤ most → worth s ≤ had → Proceeds most had next →
    Proceeds most had (if none then Ends (stopping s stop.NoMore)
    else if fit then next else Ends (stopping s stop.BadAnswer))
judged_proceeds most had s next true fit le paid proceeds = (omega (arith, le), paid)
judged_proceeds most had s next false true le paid proceeds = proceeds
judged_proceeds most had s next false false le paid proceeds = (omega (arith, le), paid)

-- an act that is paid for, and what is done with its answer
ask_proceeds : (most had : ℕ) (deed : Deed) (s : Status) (next : Status → Reply → Course) →
    Holds deed → 2 * s.left ≤ most → worth s + 1 ≤ had →
    ((reply : Reply) → Proceeds most (had - 1) (next s reply)) → Proceeds most had (ask deed s next)
ask_proceeds most had deed s next holds le paid each = (
  omega (arith, paid),
  holds,
  λ reply.
      judged_proceeds most (had - 1) s (next s reply) (is_no_more reply) (fits deed reply) le
      (omega (arith, paid)) (each reply),
  replied_cut deed s next,
)

-- what is done after a write
written_proceeds : (most had : ℕ) (s : Status) (next : Status → Course) (reply : Reply) →
    2 * s.left ≤ most → worth s ≤ had → Proceeds most had (next s) →
    Proceeds most had (written next s reply)
written_proceeds most had s next (said.Failed sent) le paid proceeds = (omega (arith, le), paid)
written_proceeds most had s next _ le paid proceeds = proceeds

-- what follows writes of variables
writes_proceed : (most had : ℕ) (w : Written) (s : Status) (next : Status → Course) →
    2 * s.left ≤ most → worth s ≤ had →
    ((scopes : Scopes) → Proceeds most had (next (record s { scopes = scopes }))) →
    Proceeds most had (on_written w s next)
writes_proceed most had (scopes, None) s next le paid each = each scopes
writes_proceed most had (scopes, Some flaw) s next le paid each = (omega (arith, le), paid)

-- what follows a body
module _ (turn : TurnTree) (levels : ℕ) where
  begins_proceed : (most had : ℕ) (is : List Id) (left : Effective) (clock : Option Timer)
      (s : Status) → 2 * s.left + 1 < most → worth s ≤ had →
      Proceeds most had (begins_again is left clock turn levels s)
  begins_proceed most had [] left clock s below paid = (omega (arith, below), paid)
  begins_proceed most had (i ∷ is) left clock s below paid =
      goes_proceed most had (Turn (renewed clock (leaving left turn)) levels) s below paid

  again_proceeds : (most had : ℕ) (clock : Option Timer) (s : Status) → 2 * s.left + 1 < most →
      worth s ≤ had → Proceeds most had (again clock turn levels s)
  again_proceeds most had clock s below paid =
      let left = pruned (lines s) turn.effective in
      begins_proceed most had left.ids left clock s below paid

  behind_proceeds : (most had : ℕ) (s : Status) (o : Outcome) → left_after s o < most →
      worth s ≤ had → Proceeds most had (behind turn levels s o)
  behind_proceeds most had s (Gives value) below paid = (omega (arith, below), paid)
  behind_proceeds most had s (Leaves Again value) below paid =
      again_proceeds most had None s below paid
  behind_proceeds most had s (Leaves AgainRunning value) below paid =
      again_proceeds most had turn.clock s below paid
  behind_proceeds most had s (Leaves Error value) below paid = (omega (arith, below), paid)
  behind_proceeds most had s (Leaves Return value) below paid = (omega (arith, below), paid)
  behind_proceeds most had s (Leaves Break value) below paid = (omega (arith, below), paid)
  behind_proceeds most had s (Leaves Continue value) below paid = (omega (arith, below), paid)
  behind_proceeds most had s (Stops stop) below paid = (omega (arith, below), paid)

  inside_proceeds : (most had : ℕ) (inner : ℕ) (tree : ScriptTree) (s : Status) →
      2 * s.left < most → worth s ≤ had →
      Proceeds most had (inside inner tree s (behind turn levels))
  inside_proceeds most had zero tree s below paid = (omega (arith, below), paid)
  inside_proceeds most had (suc inner) tree s below paid = (
    below,
    paid,
    λ left outcome.
        behind_proceeds (most + (left_after left outcome - 2 * s.left))
        (worth left + (had - worth s)) left outcome (omega (arith, below)) (omega arith),
    λ left stop. (left, refl),
  )

  does_proceeds : (most had : ℕ) (taken : Option Taken) (body : List ℕ) (s : Status) →
      2 * s.left < most → worth s ≤ had → Proceeds most had (does turn levels taken body s)
  does_proceeds most had taken body s below paid =
      writes_proceed most had (reported taken s.scopes) s (λ t. within levels body t (behind turn levels))
      (omega (arith, below)) paid
      (λ scopes tree is.
      inside_proceeds most had levels tree (record s { scopes = scopes }) below paid)

  settled_proceeds : (most had : ℕ) (taken : Option Taken) (s : Status)
      (otherwise : Status → Course) (c : Option Chosen) → 2 * s.left < most → worth s ≤ had →
      Proceeds most had (otherwise s) →
      Proceeds most had (settled turn levels taken s otherwise c)
  settled_proceeds most had taken s otherwise None below paid else_one = else_one
  settled_proceeds most had taken s otherwise (Some c) below paid else_one =
      does_proceeds most had taken c.pair.branch.body s below paid

  -- a choice proceeds where what follows when nothing is chosen proceeds
  selects_proceed : (most had : ℕ) (t : Trigger) (s : Status) (otherwise : Status → Course) →
      2 * s.left < most → worth s ≤ had → Proceeds most had (otherwise s) →
      Proceeds most had (selects t turn levels s otherwise)
  selects_proceed most had t s otherwise below paid else_one None is = else_one
  selects_proceed most had t s otherwise below paid else_one (Some c) is =
      does_proceeds most had (taken_by t (Some c) s) c.pair.branch.body (consumed t c s) below
      (omega (arith, paid, worth_after t (Some c) s))

  -- what the answer to a wait leads to
  arrives_proceeds : (most had : ℕ) (i : Id) (bytes : List ℕ) (s : Status) →
      2 * s.left + 1 < most → worth s ≤ had →
      Proceeds most had (arrives i bytes turn levels s)
  arrives_proceeds most had i bytes s below paid =
      goes_proceed most had (Turn (begun_by (after.Arrival i) turn) levels)
      (at_id (arrived bytes) i s) below (omega (arith, paid, count_arrived bytes i s.ids.peers))

  noted_proceeds : (most had : ℕ) (b : Bool) (i : Id) (bytes : List ℕ) (s : Status) →
      2 * s.left + 1 < most → worth s + 1 ≤ had →
      Proceeds most had (noted b bytes s (arrives i bytes turn levels))
  noted_proceeds most had false i bytes s below paid =
      arrives_proceeds most had i bytes s below (omega (arith, paid))
  noted_proceeds most had true i bytes s below paid =
      let le : 2 * s.left ≤ most = omega (arith, below) in
      ask_proceeds most had (said.Log bytes) s (written (arrives i bytes turn levels)) tt le paid
      (λ reply. written_proceeds most (had - 1) s (arrives i bytes turn levels) reply le
      (omega (arith, paid))
      (arrives_proceeds most (had - 1) i bytes s below (omega (arith, paid))))

  shown_proceeds : (most had : ℕ) (b : Bool) (i : Id) (bytes : List ℕ) (s : Status) →
      2 * s.left + 1 < most → worth s + 2 ≤ had →
      Proceeds most had (shown b bytes s (λ t.
      noted (is_logged t.log) bytes t (arrives i bytes turn levels)))
  shown_proceeds most had false i bytes s below paid =
      noted_proceeds most had (is_logged s.log) i bytes s below (omega (arith, paid))
  shown_proceeds most had true i bytes s below paid =
      let le : 2 * s.left ≤ most = omega (arith, below) in
      let next = λ (t : Status). noted (is_logged t.log) bytes t (arrives i bytes turn levels) in
      ask_proceeds most had (said.Out bytes) s (written next) tt le (omega (arith, paid))
      (λ reply. written_proceeds most (had - 1) s next reply le (omega (arith, paid))
      (noted_proceeds most (had - 1) (is_logged s.log) i bytes s below (omega (arith, paid))))

  comes_proceeds : (most had : ℕ) (i : Id) (bytes : List ℕ) (s : Status) →
      2 * s.left + 1 < most → worth s + 2 ≤ had →
      Proceeds most had (comes i bytes turn levels s)
  comes_proceeds most had i [] s below paid =
      arrives_proceeds most had i [] s below (omega (arith, paid))
  comes_proceeds most had i (b ∷ bs) s below paid =
      shown_proceeds most had (goes_out s.log) i (b ∷ bs) s below paid

  ends_proceeds : (most had : ℕ) (i : Id) (s : Status) → 2 * s.left < most → worth s + 1 ≤ had →
      Proceeds most had (ends i turn levels s)
  ends_proceeds most had i s below paid c is =
      let u = consumed_by (after.End i) c s in
      let same : worth u ≡ worth s = worth_after (after.End i) c s in
      let kept : u.left ≡ s.left = left_kept (after.End i) c s in
      let taken = taken_by (after.End i) c s in
      let lower : worth (shut i u) ≤ worth u = omega (arith, count_shut i u.ids.peers) in
      ask_proceeds most had (said.Close i) u
      (λ t reply. settled turn levels taken (shut i t) (gives []) c) tt
      (omega (arith, below, kept)) (omega (arith, paid, same))
      (λ reply. settled_proceeds most (had - 1) taken (shut i u) (gives []) c
      (omega (arith, below, kept)) (omega (arith, paid, same, lower))
      (omega (arith, below, kept), omega (arith, paid, same, lower)))

  times_out_proceeds : (most had : ℕ) (s : Status) → 2 * s.left < most → worth s ≤ had →
      Proceeds most had (times_out turn levels s)
  times_out_proceeds most had s below paid =
      selects_proceed most had after.TimedOut s (gives []) below paid (omega (arith, below), paid)

  waited_proceeds : (most had : ℕ) (s : Status) (reply : Reply) → 2 * s.left + 1 < most →
      worth s + 2 ≤ had → Proceeds most had (waited turn levels s reply)
  waited_proceeds most had s (said.Arrive i bytes) below paid =
      comes_proceeds most had i bytes s below paid
  waited_proceeds most had s (said.Ended i) below paid =
      ends_proceeds most had i s (omega (arith, below)) (omega (arith, paid))
  waited_proceeds most had s _ below paid =
      times_out_proceeds most had s (omega (arith, below)) (omega (arith, paid))

-- a wait is paid for by its tick
waits_proceed : (turn : TurnTree) (levels left : ℕ) (clock : Timer) (s : Status) → s.left ≡ left →
    Proceeds (2 * s.left + 1) (worth s) (tick_of left s (λ t.
    ask (said.Wait (rows_of (lines t) turn.effective.ids) clock) t
    (waited (timed (later clock) turn) levels)))
waits_proceed turn levels zero clock s is = (omega (arith, is), omega arith)
waits_proceed turn levels (suc left) clock s is =
    let t : Status = record s { left = left } in
    ask_proceeds (2 * s.left + 1) (worth s)
    (said.Wait (rows_of (lines t) turn.effective.ids) clock) t
    (waited (timed (later clock) turn) levels) (rows_hold t turn.effective.ids)
    (omega (arith, is)) (omega (arith, is))
    (λ reply. waited_proceeds (timed (later clock) turn) levels (2 * s.left + 1) (worth s - 1) t
    reply (omega (arith, is)) (omega (arith, is)))

clock_proceeds : (s : Status) (r : Result Timer Flaw) (next : Timer → Course) →
    ((clock : Timer) → Proceeds (2 * s.left + 1) (worth s) (next clock)) →
    Proceeds (2 * s.left + 1) (worth s) (on_ok r s next)
clock_proceeds s (Ok clock) next each = each clock
clock_proceeds s (Err flaw) next each = (omega arith, omega arith)

-- a turn leaves no more ticks than it had, pays for its acts, and reports in its waits only buffers
-- that hold at most their size
pub turns_proceed : (turn : TurnTree) (levels : ℕ) (s : Status) →
    Proceeds (2 * s.left + 1) (worth s) (turns turn levels s)
turns_proceed turn levels s =
    selects_proceed turn levels (2 * s.left + 1) (worth s) turn.trigger s (waits turn levels)
    (omega arith) (omega arith)
    (clock_proceeds s (clock_of turn.clock turn.seconds s) (λ clock. waits_by clock turn levels s)
    (λ clock. waits_proceed turn levels s.left clock s refl))
