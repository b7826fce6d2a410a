-- Answers that cut a run off end it.
use Rattle.std.proofs.Common.{ℕ, ◌+◌, ◌*◌, List, [], ◌∷◌, ◌++◌, Bool, true, false, if◌then◌else◌, refl}
use Rattle.state.specs.Prelude.{Deed, Reply, text_of, Peer, Ends, worth, Course, Dialogue, Outcome, Gives, Leaves, Stops, Error, Return, Break, Continue, Again, AgainRunning, IsTree, Status}
use Rattle.acts.specs.Deed as said
use Rattle.acts.specs.Fits.{fits}
use Rattle.acts.specs.Flaw as flaw
use Rattle.commands.specs.Commands as leaf
use Rattle.commands.proofs.Behaves.{command_behaves}
use Rattle.choices.specs.Peers.{opened}
use Rattle.expects.proofs.Proceeding.{turns_proceed}
use Rattle.expects.specs.Turn.{turns}
use Rattle.plan.proofs.Last.{runs_close}
use Rattle.plan.specs.Last.{Closes, EachCloses, IsOver}
use Rattle.runs.specs.Closing.{does, closes, closes_log, ends_with, reported, reports, closing}
use Rattle.runs.specs.Ending.{Ending, Over, stopped}
use Rattle.runs.specs.Laws.{NothingFollows}
use Rattle.runs.specs.Run.{whole}
use Rattle.runs.specs.Scripts.{plan_of}
use Rattle.runs.proofs.Pieces.{Inherited, piece_holds, top}
use Rattle.state.proofs.Cut.{CourseCloses, behaves_closes, proceeds_closes}
use Rattle.state.proofs.Judged.{judged_cut, passes_cut}
use Rattle.state.specs.Cut.{CutsOff, WasCut}
use Rattle.state.specs.Dialogue.{is_no_more}
use Rattle.state.specs.Outcome as stop

-- a course closes, at each rank and from any state
abbrev ClosesFrom : ℕ → Status → Course → Type 0
ClosesFrom r s c = CourseCloses c

closes_inherited : Inherited ClosesFrom
closes_inherited = record {
  over = λ r s o. tt;
  calls = λ r piece s next below passes each u o. (each u o, passes_cut next passes u o);
  reading = λ r text s next each tree is. each tree;
  writing = λ r scopes s course closes. closes;
  standing = λ r standing s course closes. closes;
  ticking = λ r left s course is closes. closes;
}

plain_closes : (s : Status) (words : List (List ℕ)) → ClosesFrom top s (leaf.command s words)
plain_closes s words =
    behaves_closes s.left (worth s + 4) (leaf.command s words) (command_behaves s words)

each_closes : EachCloses IsTree CutsOff WasCut plan_of
each_closes piece s =
    piece_holds ClosesFrom closes_inherited plain_closes
    (λ turn levels u.
    proceeds_closes (2 * u.left + 1) (worth u) (turns turn levels u) (turns_proceed turn levels u))
    piece s

-- the property that every end of a run has
abbrev AnyEnd : Over → Type 0
AnyEnd over = Unit {0}

-- answers that cut a run off end a dialogue that closes this run
abbrev ClosingCloses : Dialogue Over → Type 0
ClosingCloses p = Closes IsTree CutsOff WasCut AnyEnd p

judged_closes : (next : Dialogue Over) (none fit : Bool) → ClosingCloses next →
    ClosingCloses (if none then Ends (stopped stop.NoMore)
    else if fit then next else Ends (stopped stop.BadAnswer))
judged_closes next true fit closes = tt
judged_closes next false true closes = closes
judged_closes next false false closes = tt

does_closes : (deed : Deed) (next : Reply → Dialogue Over) →
    ((reply : Reply) → ClosingCloses (next reply)) → ClosingCloses (does deed next)
does_closes deed next each = λ reply. (
  judged_closes (next reply) (is_no_more reply) (fits deed reply) (each reply),
  judged_cut AnyEnd stopped tt tt deed reply (next reply),
)

log_closes : (log : Bool) (e : Ending) → ClosingCloses (closes_log log e)
log_closes false e = tt
log_closes true e = does_closes said.CloseLog _ (λ reply. tt)

ids_close : (log : Bool) (ps : List Peer) (e : Ending) → ClosingCloses (closes log ps e)
ids_close log [] e = log_closes log e
ids_close log (p ∷ ps) e = does_closes (said.Close p.id) _ (λ reply. ids_close log ps e)

ends_close : (e : Ending) (s : Status) → ClosingCloses (ends_with e s)
ends_close e s = ids_close s.log.logging (opened s.ids.peers) e

reports_close : (text : List ℕ) (s : Status) → ClosingCloses (reports text s)
reports_close text s =
    does_closes (said.Err (text ++ 10 ∷ [])) _ (λ reply. ends_close (reported text reply) s)

closing_closes : (s : Status) (o : Outcome) → ClosingCloses (closing s o)
closing_closes s (Gives value) = ends_close _ s
closing_closes s (Leaves Error value) = reports_close value s
closing_closes s (Leaves Return value) = ends_close _ s
closing_closes s (Leaves Break value) = reports_close (text_of flaw.BreakOutside) s
closing_closes s (Leaves Continue value) = reports_close (text_of flaw.ContinueOutside) s
closing_closes s (Leaves Again value) = reports_close (text_of flaw.AgainOutside) s
closing_closes s (Leaves AgainRunning value) = reports_close (text_of flaw.AgainOutside) s
closing_closes s (Stops (stop.Exit status)) = ends_close _ s
closing_closes s (Stops stop.Limit) = ends_close _ s
closing_closes s (Stops stop.WriterFailed) = ends_close _ s
closing_closes s (Stops stop.BadAnswer) = tt
closing_closes s (Stops stop.NoMore) = tt

-- a script that was cut off is followed by no act
closing_cut : (s : Status) (o : Outcome) → WasCut o → IsOver AnyEnd (closing s o)
closing_cut s (Gives value) cut = absurd cut
closing_cut s (Leaves code value) cut = absurd cut
closing_cut s (Stops (stop.Exit status)) cut = absurd cut
closing_cut s (Stops stop.Limit) cut = absurd cut
closing_cut s (Stops stop.WriterFailed) cut = absurd cut
closing_cut s (Stops stop.BadAnswer) cut = (_, tt, refl)
closing_cut s (Stops stop.NoMore) cut = (_, tt, refl)

whole_closes : (text : List ℕ) (args : List (List ℕ)) (limit : ℕ) →
    ClosingCloses (whole text args limit)
whole_closes text args limit =
    λ tree is left outcome. (closing_closes left outcome, closing_cut left outcome)

pub nothing_follows : NothingFollows
nothing_follows text args limit h e run =
    runs_close plan_of IsTree CutsOff WasCut AnyEnd each_closes (whole text args limit) h run.over
    (whole_closes text args limit) run.runs
