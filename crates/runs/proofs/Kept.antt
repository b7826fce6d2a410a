-- At each wait every buffer holds at most its size.
use Rattle.std.proofs.Common.{ℕ, ◌+◌, ◌*◌, List, [], ◌∷◌, ◌++◌, Bool, true, false, if◌then◌else◌}
use Rattle.state.specs.Prelude.{Deed, Reply, text_of, Peer, Ends, worth, Course, Dialogue, Outcome, Gives, Leaves, Stops, Error, Return, Break, Continue, Again, AgainRunning, IsTree, Status}
use Rattle.acts.specs.Deed as said
use Rattle.acts.specs.Fits.{fits}
use Rattle.acts.specs.Flaw as flaw
use Rattle.commands.specs.Commands as leaf
use Rattle.commands.proofs.Behaves.{command_behaves}
use Rattle.choices.specs.Peers.{opened}
use Rattle.expects.proofs.Proceeding.{turns_proceed}
use Rattle.expects.specs.Turn.{turns}
use Rattle.plan.specs.Kept.{Keeps, EachKeeps}
use Rattle.runs.specs.Closing.{does, closes, closes_log, ends_with, reported, reports, closing}
use Rattle.runs.specs.Ending.{Ending, Over, stopped}
use Rattle.runs.specs.Scripts.{plan_of}
use Rattle.runs.proofs.Pieces.{Inherited, piece_holds, top}
use Rattle.state.proofs.Behaves.{behaves_keeps}
use Rattle.state.proofs.Proceeding.{proceeds_keeps}
use Rattle.state.specs.Dialogue.{is_no_more}
use Rattle.state.specs.Outcome as stop
use Rattle.state.specs.Rows.{Holds}

-- the property that every state has
abbrev pub AnyState : Status → Type 0
AnyState s = Unit {0}

-- at each wait of a course every buffer holds at most its size
abbrev pub CourseKeeps : Course → Type 0
CourseKeeps c = Keeps IsTree AnyState Holds (λ left. Unit {0}) c

-- the same at each rank, from any state
abbrev KeepsFrom : ℕ → Status → Course → Type 0
KeepsFrom r s c = CourseKeeps c

keeps_inherited : Inherited KeepsFrom
keeps_inherited = record {
  over = λ r s o. tt;
  calls = λ r piece s next below passes each. (tt, λ u o kept. each u o);
  reading = λ r text s next each tree is. each tree;
  writing = λ r scopes s course keeps. keeps;
  standing = λ r standing s course keeps. keeps;
  ticking = λ r left s course is keeps. keeps;
}

plain_keeps : (s : Status) (words : List (List ℕ)) → KeepsFrom top s (leaf.command s words)
plain_keeps s words =
    behaves_keeps s.left (worth s + 4) (leaf.command s words) (command_behaves s words)

pub each_keeps : EachKeeps IsTree AnyState Holds plan_of
each_keeps piece s kept =
    piece_holds KeepsFrom keeps_inherited plain_keeps
    (λ turn levels u.
    proceeds_keeps (2 * u.left + 1) (worth u) (turns turn levels u) (turns_proceed turn levels u))
    piece s

-- a dialogue that closes a run waits for nothing
abbrev ClosingKeeps : Dialogue Over → Type 0
ClosingKeeps p = Keeps IsTree AnyState Holds (λ (o : Over). Unit {0}) p

judged_keeps : (next : Dialogue Over) (none fit : Bool) → ClosingKeeps next →
    ClosingKeeps (if none then Ends (stopped stop.NoMore)
    else if fit then next else Ends (stopped stop.BadAnswer))
judged_keeps next true fit keeps = tt
judged_keeps next false true keeps = keeps
judged_keeps next false false keeps = tt

does_keeps : (deed : Deed) (next : Reply → Dialogue Over) → Holds deed →
    ((reply : Reply) → ClosingKeeps (next reply)) → ClosingKeeps (does deed next)
does_keeps deed next holds each =
    (holds, λ reply. judged_keeps (next reply) (is_no_more reply) (fits deed reply) (each reply))

log_keeps : (log : Bool) (e : Ending) → ClosingKeeps (closes_log log e)
log_keeps false e = tt
log_keeps true e = does_keeps said.CloseLog _ tt (λ reply. tt)

closes_keeps : (log : Bool) (ps : List Peer) (e : Ending) → ClosingKeeps (closes log ps e)
closes_keeps log [] e = log_keeps log e
closes_keeps log (p ∷ ps) e = does_keeps (said.Close p.id) _ tt (λ reply. closes_keeps log ps e)

ends_keeps : (e : Ending) (s : Status) → ClosingKeeps (ends_with e s)
ends_keeps e s = closes_keeps s.log.logging (opened s.ids.peers) e

reports_keeps : (text : List ℕ) (s : Status) → ClosingKeeps (reports text s)
reports_keeps text s =
    does_keeps (said.Err (text ++ 10 ∷ [])) _ tt (λ reply. ends_keeps (reported text reply) s)

pub closing_keeps : (s : Status) (o : Outcome) → ClosingKeeps (closing s o)
closing_keeps s (Gives value) = ends_keeps _ s
closing_keeps s (Leaves Error value) = reports_keeps value s
closing_keeps s (Leaves Return value) = ends_keeps _ s
closing_keeps s (Leaves Break value) = reports_keeps (text_of flaw.BreakOutside) s
closing_keeps s (Leaves Continue value) = reports_keeps (text_of flaw.ContinueOutside) s
closing_keeps s (Leaves Again value) = reports_keeps (text_of flaw.AgainOutside) s
closing_keeps s (Leaves AgainRunning value) = reports_keeps (text_of flaw.AgainOutside) s
closing_keeps s (Stops (stop.Exit status)) = ends_keeps _ s
closing_keeps s (Stops stop.Limit) = ends_keeps _ s
closing_keeps s (Stops stop.WriterFailed) = ends_keeps _ s
closing_keeps s (Stops stop.BadAnswer) = tt
closing_keeps s (Stops stop.NoMore) = tt
