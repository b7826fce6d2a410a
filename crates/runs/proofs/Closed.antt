-- Once a script is over, the open ids are closed in the order in which they stand.
use Rattle.std.proofs.Common.{◌≡◌, ◌∙◌, ℕ, List, [], ◌∷◌, ◌++◌, Bool, true, false, if◌then◌else◌, sym, ap, subst, append_assoc}
use Rattle.state.specs.Prelude.{Deed, Reply, text_of, Peer, Ends, Dialogue, Outcome, Gives, Leaves, Stops, Error, Return, Break, Continue, Again, AgainRunning, IsTree, Status}
use Rattle.acts.specs.Deed as said
use Rattle.acts.specs.Fits.{fits}
use Rattle.acts.specs.Flaw as flaw
use Rattle.acts.specs.History.{History}
use Rattle.choices.specs.Lines.{Rise}
use Rattle.choices.specs.Peers.{numbers_of, opened}
use Rattle.choices.proofs.Rising.{rise_front}
use Rattle.plan.specs.Runs.{Runs}
use Rattle.plan.proofs.Exact as exact
use Rattle.runs.specs.Closed.{closed_at, closed_by}
use Rattle.runs.specs.Closing.{does, closes, closes_log, ends_with, reported, reports, closing}
use Rattle.runs.specs.Ending.{Ending, Over, stopped}
use Rattle.runs.specs.Laws.{ClosesRise}
use Rattle.runs.specs.Scripts.{plan_of}
use Rattle.state.specs.Dialogue.{is_no_more}
use Rattle.state.specs.Outcome as stop

-- in each run the numbers of the ids that are closed are a beginning of ns
abbrev Front : List ℕ → Dialogue Over → Type 0
Front ns p =
    (h : History) (over : Over) → Runs plan_of IsTree p h over →
    (more : List ℕ) × (closed_by h ++ more ≡ ns)

ended : (ns : List ℕ) (over : Over) → Front ns (Ends over)
ended ns over h other run =
    let over_so = (exact.end_is_exact plan_of IsTree over).back h other run in
    (ns, ap (λ k. closed_by k ++ ns) over_so.0)

judged_front : (ns : List ℕ) (next : Dialogue Over) (none fit : Bool) → Front ns next →
    Front ns (if none then Ends (stopped stop.NoMore)
    else if fit then next else Ends (stopped stop.BadAnswer))
judged_front ns next true fit front = ended ns _
judged_front ns next false true front = front
judged_front ns next false false front = ended ns _

does_front : (ns : List ℕ) (deed : Deed) (next : Reply → Dialogue Over) →
    ((reply : Reply) → Front ns (next reply)) → Front (closed_at deed ++ ns) (does deed next)
does_front ns deed next each h over run =
    let first = exact.act_comes_first plan_of IsTree deed _ h over run in
    let reply = first.reply in
    let rest = judged_front ns (next reply) (is_no_more reply) (fits deed reply) (each reply)
    first.rest over first.follows in (
      rest.0,
      ap (λ k. closed_by k ++ rest.0) first.is
          ∙ append_assoc (closed_at deed) (closed_by first.rest) rest.0
          ∙ ap (λ ms. closed_at deed ++ ms) rest.1,
    )

log_front : (log : Bool) (e : Ending) → Front [] (closes_log log e)
log_front false e = ended [] _
log_front true e = does_front [] said.CloseLog _ (λ reply. ended [] _)

ids_front : (log : Bool) (ps : List Peer) (e : Ending) → Front (numbers_of ps) (closes log ps e)
ids_front log [] e = log_front log e
ids_front log (p ∷ ps) e =
    does_front (numbers_of ps) (said.Close p.id) _ (λ reply. ids_front log ps e)

-- the numbers of the ids that are open
abbrev open_in : Status → List ℕ
open_in s = numbers_of (opened s.ids.peers)

ends_front : (e : Ending) (s : Status) → Front (open_in s) (ends_with e s)
ends_front e s = ids_front s.log.logging (opened s.ids.peers) e

reports_front : (text : List ℕ) (s : Status) → Front (open_in s) (reports text s)
reports_front text s =
    does_front (open_in s) (said.Err (text ++ 10 ∷ [])) _
    (λ reply. ends_front (reported text reply) s)

closing_front : (s : Status) (o : Outcome) → Front (open_in s) (closing s o)
closing_front s (Gives value) = ends_front _ s
closing_front s (Leaves Error value) = reports_front value s
closing_front s (Leaves Return value) = ends_front _ s
closing_front s (Leaves Break value) = reports_front (text_of flaw.BreakOutside) s
closing_front s (Leaves Continue value) = reports_front (text_of flaw.ContinueOutside) s
closing_front s (Leaves Again value) = reports_front (text_of flaw.AgainOutside) s
closing_front s (Leaves AgainRunning value) = reports_front (text_of flaw.AgainOutside) s
closing_front s (Stops (stop.Exit status)) = ends_front _ s
closing_front s (Stops stop.Limit) = ends_front _ s
closing_front s (Stops stop.WriterFailed) = ends_front _ s
closing_front s (Stops stop.BadAnswer) = ended (open_in s) _
closing_front s (Stops stop.NoMore) = ended (open_in s) _

pub closes_rise : ClosesRise
closes_rise s outcome h over rise run =
    let front = closing_front s outcome h over run in
    rise_front (closed_by h) front.0 (subst Rise (sym front.1) rise)
