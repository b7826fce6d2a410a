-- What answers a wait.
use Rattle.std.proofs.Common.{◌≡◌, true, false, Bool, ◌&&◌, ◌||◌, ℕ, List, [], ◌∷◌, ◌++◌, refl, ap, ◌∙◌}
use Rattle.std.proofs.lemmas.Bool.{false≢true}
use Rattle.std.proofs.lemmas.List.Folds.{list_any-append}
use Rattle.std.specs.List.{list_any}
use Rattle.acts.specs.declared.id.Id.{Id}
use Rattle.acts.specs.declared.row.Row.{Row}
use Rattle.acts.specs.declared.act.Timer.{Timer}
use Rattle.acts.specs.Deed.{Reply}
use Rattle.acts.specs.Deed as said
use Rattle.acts.specs.Fits.{fits_wait, has_row}
use Rattle.std.specs.Prelude.{None, Option}
use Rattle.std.specs.declared.time.Instant.{Instant}
use Rattle.live.specs.Arriving.{IsDue, IsLate, comes, is_of, is_wanted}
use Rattle.live.specs.Calls.{Call}
use Rattle.live.specs.Live.{IsWhy}
use Rattle.live.proofs.Silence.{either_first, either_second}

-- no row passes a test that is always false
no_row : (rows : List Row) → list_any {X = Row} (λ row. false) rows ≡ true → ⊥
no_row [] found = false≢true found
no_row (row ∷ rows) found = no_row rows found

-- a weaker test is true as well
less : (a b c d : Bool) → ((a && b) || c) ≡ true → (c ≡ true → d ≡ true) → (a || d) ≡ true
less true b c d found others = refl
less false b c d found others = others found

-- bytes that come are those of a row
any_row : (id : Id) (bytes : List ℕ) (rows : List Row) → comes rows (said.Arrive id bytes) ≡ true →
    has_row rows id ≡ true
any_row id bytes [] found = absurd (false≢true found)
any_row id bytes (row ∷ rows) found = less _ _ _ _ found (any_row id bytes rows)

-- what answers one of the rows fits the wait
pub comes_fits : (rows : List Row) (timer : Timer) (reply : Reply) → comes rows reply ≡ true →
    fits_wait rows timer reply ≡ true
comes_fits rows timer (said.Arrive id bytes) found = any_row id bytes rows found
comes_fits rows timer (said.Ended id) found = found
comes_fits rows timer said.Done found = absurd (no_row rows found)
comes_fits rows timer (said.Failed sent) found = absurd (no_row rows found)
comes_fits rows timer (said.Started pid) found = absurd (no_row rows found)
comes_fits rows timer said.Refused found = absurd (no_row rows found)
comes_fits rows timer (said.Exited status) found = absurd (no_row rows found)
comes_fits rows timer said.TimedOut found = absurd (no_row rows found)
comes_fits rows timer said.NoMore found = refl

-- what answers one of the first rows, or one of those after them, answers one of all
pub comes_front : (rows front back : List Row) (reply : Reply) → rows ≡ front ++ back →
    comes front reply ≡ true → comes rows reply ≡ true
comes_front rows front back reply is found =
    ap (λ all. comes all reply) is ∙ list_any-append (λ row. is_of row reply) front back
    ∙ either_first (comes front reply) (comes back reply) found

pub comes_back : (rows front back : List Row) (reply : Reply) → rows ≡ front ++ back →
    comes back reply ≡ true → comes rows reply ≡ true
comes_back rows front back reply is found =
    ap (λ all. comes all reply) is ∙ list_any-append (λ row. is_of row reply) front back
    ∙ either_second (comes front reply) (comes back reply) found

-- what answers one of the rows is wanted
pub comes_wanted : (rows : List Row) (reply : Reply) → comes rows reply ≡ true →
    is_wanted rows reply ≡ true
comes_wanted rows (said.Arrive id bytes) found = found
comes_wanted rows (said.Ended id) found = refl
comes_wanted rows said.Done found = refl
comes_wanted rows (said.Failed sent) found = refl
comes_wanted rows (said.Started pid) found = refl
comes_wanted rows said.Refused found = refl
comes_wanted rows (said.Exited status) found = refl
comes_wanted rows said.TimedOut found = refl
comes_wanted rows said.NoMore found = refl

-- what answers one of the rows tells of no time
pub comes_due : (ids : List Id) (rows : List Row) (which : Timer) (reply : Reply)
    (deadline : Option Instant) (left : Id → List ℕ) → comes rows reply ≡ true →
    (calls : List Call) → IsDue deadline reply calls × IsLate which ids rows reply calls left
comes_due ids rows which (said.Arrive id bytes) deadline left found calls = (tt, tt)
comes_due ids rows which (said.Ended id) deadline left found calls = (tt, tt)
comes_due ids rows which said.Done deadline left found calls = (tt, tt)
comes_due ids rows which (said.Failed sent) deadline left found calls = (tt, tt)
comes_due ids rows which (said.Started pid) deadline left found calls = (tt, tt)
comes_due ids rows which said.Refused deadline left found calls = (tt, tt)
comes_due ids rows which (said.Exited status) deadline left found calls = (tt, tt)
comes_due ids rows which said.TimedOut deadline left found calls = absurd (no_row rows found)
comes_due ids rows which said.NoMore deadline left found calls = (tt, tt)

-- what fits a wait is no refusal, by which nothing is learned
pub wait_why : (rows : List Row) (timer : Timer) (reply : Reply) →
    fits_wait rows timer reply ≡ true → IsWhy reply None None
wait_why rows timer said.Done fits = refl
wait_why rows timer (said.Failed sent) fits = tt
wait_why rows timer (said.Started pid) fits = refl
wait_why rows timer said.Refused fits = absurd (false≢true fits)
wait_why rows timer (said.Exited status) fits = refl
wait_why rows timer (said.Arrive id bytes) fits = refl
wait_why rows timer (said.Ended id) fits = refl
wait_why rows timer said.TimedOut fits = refl
wait_why rows timer said.NoMore fits = tt
