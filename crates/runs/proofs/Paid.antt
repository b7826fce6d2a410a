-- Each piece pays for its acts out of what its state is worth.
use Rattle.std.proofs.Common.{◌≡◌, ℕ, suc, ◌+◌, ◌*◌, ◌-◌, ◌≤◌, List, [], ◌∷◌, ◌++◌, length, Bool, true, false, if◌then◌else◌, refl, arith}
use Rattle.state.specs.Prelude.{Deed, Reply, text_of, Peer, Ends, worth, Course, Dialogue, Outcome, Gives, Leaves, Stops, Error, Return, Break, Continue, Again, AgainRunning, TurnTree, IsTree, Status}
use Rattle.acts.specs.Deed as said
use Rattle.acts.specs.Fits.{fits}
use Rattle.acts.specs.Flaw as flaw
use Rattle.commands.specs.Commands as leaf
use Rattle.commands.proofs.Behaves.{command_behaves}
use Rattle.choices.specs.Peers.{opened}
use Rattle.expects.proofs.Proceeding.{turns_proceed}
use Rattle.expects.specs.Turn.{turns}
use Rattle.plan.specs.Paid.{Pays, EachPays}
use Rattle.plan.proofs.Paid.{more_pays}
use Rattle.runs.specs.Closing.{does, closes, closes_log, ends_with, reported, reports, closing}
use Rattle.runs.specs.Ending.{Ending, Over, stopped}
use Rattle.runs.specs.Scripts.{plan_of}
use Rattle.runs.proofs.Pieces.{Inherited, piece_holds, rank, top}
use Rattle.state.proofs.Behaves.{behaves_pays}
use Rattle.state.proofs.Proceeding.{proceeds_pays}
use Rattle.state.specs.Behaves.{closing_of_log}
use Rattle.state.specs.Dialogue.{is_no_more}
use Rattle.state.specs.Outcome as stop
use Rattle.state.specs.Piece.{Piece, Script, One, Loop, Turn}

-- a piece costs what its state is worth
abbrev pub price : Piece → Status → ℕ
price piece s = worth s

-- a course pays for its acts and pieces by these prices, and keeps what its last state is worth
abbrev pub CoursePays : ℕ → Course → Type 0
CoursePays had c = Pays IsTree price worth (λ left. worth left.0) had c

-- what a course has besides what its state is worth: after a tick, four
abbrev spare : ℕ → ℕ
spare (suc (suc (suc r))) = 4
spare _ = 0

-- a course pays out of what its state is worth, and of what it has besides that
abbrev PaysFrom : ℕ → Status → Course → Type 0
PaysFrom r s c = CoursePays (worth s + spare r) c

pays_inherited : Inherited PaysFrom
pays_inherited = record {
  over = λ r s o. omega arith;
  calls = λ r piece s next below passes each. (
    omega arith,
    λ u o less.
        more_pays IsTree price worth (λ left. worth left.0) (worth u + spare r)
        (worth u + ((worth s + spare r) - worth s)) (next u o) (omega arith) (each u o),
  );
  reading = λ r text s next each tree is. each tree;
  writing = λ r scopes s course pays. pays;
  standing = λ r standing s course pays. pays;
  ticking = λ r left s course is pays.
      let after : Status = record s { left = left } in
      more_pays IsTree price worth (λ left. worth left.0) (worth after + 4) (worth s + spare r)
      course (omega (arith, is)) pays;
}

plain_pays : (s : Status) (words : List (List ℕ)) → PaysFrom top s (leaf.command s words)
plain_pays s words =
    behaves_pays price s.left (worth s + 4) (leaf.command s words) (command_behaves s words)

-- a turn of expect pays for its acts
turns_pay : (turn : TurnTree) (levels : ℕ) (s : Status) → PaysFrom 2 s (turns turn levels s)
turns_pay turn levels s =
    more_pays IsTree price worth (λ left. worth left.0) (worth s) (worth s + spare 2)
    (turns turn levels s) (omega arith)
    (proceeds_pays (2 * s.left + 1) (worth s) (turns turn levels s) (turns_proceed turn levels s))

none_spare : (piece : Piece) → spare (rank piece) ≡ 0
none_spare (Script tree levels) = refl
none_spare (One ws levels) = refl
none_spare (Loop loop levels) = refl
none_spare (Turn turn levels) = refl

pub each_pays : EachPays IsTree price worth plan_of
each_pays piece s =
    let none = none_spare piece in
    more_pays IsTree price worth (λ left. worth left.0) (worth s + spare (rank piece)) (worth s)
    (plan_of piece s) (omega (arith, none)) (piece_holds PaysFrom pays_inherited plain_pays turns_pay piece s)

-- a dialogue that closes a run pays by these prices, and keeps nothing
abbrev ClosingPays : ℕ → Dialogue Over → Type 0
ClosingPays had p = Pays IsTree price worth (λ (o : Over). 0) had p

judged_pays : (had : ℕ) (next : Dialogue Over) (none fit : Bool) → ClosingPays had next →
    ClosingPays had (if none then Ends (stopped stop.NoMore)
    else if fit then next else Ends (stopped stop.BadAnswer))
judged_pays had next true fit pays = omega arith
judged_pays had next false true pays = pays
judged_pays had next false false pays = omega arith

does_pays : (had : ℕ) (deed : Deed) (next : Reply → Dialogue Over) → 1 ≤ had →
    ((reply : Reply) → ClosingPays (had - 1) (next reply)) → ClosingPays had (does deed next)
does_pays had deed next one each = (
  one,
  λ reply. judged_pays (had - 1) (next reply) (is_no_more reply) (fits deed reply)
      (each reply),
)

log_pays : (log : Bool) (e : Ending) (had : ℕ) → closing_of_log log ≤ had →
    ClosingPays had (closes_log log e)
log_pays false e had le = omega arith
log_pays true e had le = does_pays had said.CloseLog _ le (λ reply. omega arith)

closes_pays : (log : Bool) (ps : List Peer) (e : Ending) (had : ℕ) →
    length ps + closing_of_log log ≤ had → ClosingPays had (closes log ps e)
closes_pays log [] e had le = log_pays log e had (omega (arith, le))
closes_pays log (p ∷ ps) e had le =
    does_pays had (said.Close p.id) _ (omega (arith, le))
    (λ reply. closes_pays log ps e (had - 1) (omega (arith, le)))

ends_pays : (e : Ending) (s : Status) (had : ℕ) → worth s ≤ had → ClosingPays had (ends_with e s)
ends_pays e s had le =
    closes_pays s.log.logging (opened s.ids.peers) e had (omega (arith, le))

reports_pays : (text : List ℕ) (s : Status) (had : ℕ) → worth s + 1 ≤ had →
    ClosingPays had (reports text s)
reports_pays text s had le =
    does_pays had (said.Err (text ++ 10 ∷ [])) _ (omega (arith, le))
    (λ reply. ends_pays (reported text reply) s (had - 1) (omega (arith, le)))

pub closing_pays : (s : Status) (o : Outcome) (had : ℕ) → worth s + 1 ≤ had →
    ClosingPays had (closing s o)
closing_pays s (Gives value) had le = ends_pays _ s had (omega (arith, le))
closing_pays s (Leaves Error value) had le = reports_pays value s had le
closing_pays s (Leaves Return value) had le = ends_pays _ s had (omega (arith, le))
closing_pays s (Leaves Break value) had le =
    reports_pays (text_of flaw.BreakOutside) s had le
closing_pays s (Leaves Continue value) had le =
    reports_pays (text_of flaw.ContinueOutside) s had le
closing_pays s (Leaves Again value) had le =
    reports_pays (text_of flaw.AgainOutside) s had le
closing_pays s (Leaves AgainRunning value) had le =
    reports_pays (text_of flaw.AgainOutside) s had le
closing_pays s (Stops (stop.Exit status)) had le = ends_pays _ s had (omega (arith, le))
closing_pays s (Stops stop.Limit) had le = ends_pays _ s had (omega (arith, le))
closing_pays s (Stops stop.WriterFailed) had le = ends_pays _ s had (omega (arith, le))
closing_pays s (Stops stop.BadAnswer) had le = omega arith
closing_pays s (Stops stop.NoMore) had le = omega arith
