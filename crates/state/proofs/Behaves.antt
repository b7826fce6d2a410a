-- Commands that behave: how they are put together, and what the laws of all runs ask of them.
use Rattle.std.proofs.Common.{ℕ, ◌+◌, ◌-◌, ◌≤◌, Bool, true, false, List, Ok, Err, if◌then◌else◌, arith}
use Rattle.state.specs.Prelude.{Deed, Reply, Ends, Asks, Reads, Calls, Behaves, worth, Course, ask, Outcome, IsTree, Status}
use Rattle.acts.specs.Fits.{fits}
use Rattle.meanings.specs.Meaning.{Meaning, Gives, Raises, Splits, Matches}
use Rattle.plan.specs.Finished.{Falls}
use Rattle.plan.specs.Kept.{Keeps}
use Rattle.plan.specs.Paid.{Pays}
use Rattle.state.proofs.Judged.{replied_cut}
use Rattle.state.specs.Dialogue.{is_no_more, stopping}
use Rattle.state.specs.Listed.{with_list}
use Rattle.state.specs.Meant.{meant}
use Rattle.state.specs.Outcome as stop
use Rattle.state.specs.Piece.{Piece}
use Rattle.state.specs.Rows.{Holds}

-- a course that behaves does so with more ticks and with more to pay with, too
pub more_behaves : (t u had more : ℕ) (c : Course) → t ≤ u → had ≤ more → Behaves t had c →
    Behaves u more c
more_behaves t u had more (Ends left) le up behaves =
    let within = behaves.0 in
    let kept = behaves.1 in
    (omega (arith, within), omega (arith, kept))
more_behaves t u had more (Asks deed next) le up behaves =
    let one = behaves.0 in (
      omega (arith, one),
      behaves.1,
      λ reply. more_behaves t u (had - 1) (more - 1) (next reply) le (omega arith)
          (behaves.2 reply),
      behaves.3,
    )
more_behaves t u had more (Reads text next) le up behaves =
    λ tree is. more_behaves t u had more (next tree) le up (behaves tree is)
more_behaves t u had more (Calls piece state next) le up behaves = absurd behaves

-- a text is read as a list, and what is done with its elements behaves
with_list_behaves : (t had : ℕ) (s : Status) → s.left ≤ t → worth s ≤ had →
    (text : List ℕ) (next : List (List ℕ) → Course) →
    ((elements : List (List ℕ)) → Behaves t had (next elements)) →
    Behaves t had (with_list text s next)
with_list_behaves t had s le paid text next each (Ok elements) is = each elements
with_list_behaves t had s le paid text next each (Err why) is = (le, paid)

-- the course of a function of texts behaves
pub meant_behaves : (t had : ℕ) (s : Status) → s.left ≤ t → worth s ≤ had → (m : Meaning) →
    Behaves t had (meant m s)
meant_behaves t had s le paid (Gives value) = (le, paid)
meant_behaves t had s le paid (Raises flaw) = (le, paid)
meant_behaves t had s le paid (Splits text next) =
    with_list_behaves t had s le paid text (λ elements. meant (next elements) s)
    (λ elements. meant_behaves t had s le paid (next elements))
meant_behaves t had s le paid (Matches pattern text next) = λ takes is.
    meant_behaves t had s le paid (next takes)

-- an answer that does not fit, or none, ends the run
judged_behaves : (t had : ℕ) (s : Status) (next : Course) (none fit : Bool) →
    s.left ≤ t → worth s ≤ had → Behaves t had next →
    Behaves t had (if none then Ends (stopping s stop.NoMore)
    else if fit then next else Ends (stopping s stop.BadAnswer))
judged_behaves t had s next true fit le paid behaves = (le, paid)
judged_behaves t had s next false true le paid behaves = behaves
judged_behaves t had s next false false le paid behaves = (le, paid)

-- an act is paid for, and what is done with its answer behaves
pub ask_behaves : (t had : ℕ) (deed : Deed) (s : Status) (next : Status → Reply → Course) →
    Holds deed → s.left ≤ t → worth s + 1 ≤ had →
    ((reply : Reply) → Behaves t (had - 1) (next s reply)) → Behaves t had (ask deed s next)
ask_behaves t had deed s next holds le paid each = (
  omega arith,
  holds,
  λ reply.
      judged_behaves t (had - 1) s (next s reply) (is_no_more reply) (fits deed reply) le
      (omega arith) (each reply),
  replied_cut deed s next,
)

-- a course that behaves falls, where the ticks that are left bound what remains after it
module _ (budget : Piece → Status → ℕ) (remains : Status → Outcome → ℕ) (rank : Piece → ℕ)
    (last : Reply) (t most r : ℕ)
    (within : (left : Status) (o : Outcome) → left.left ≤ t → remains left o ≤ most) where
  pub behaves_falls : (had : ℕ) (c : Course) → Behaves t had c →
      Falls IsTree budget remains rank last most r c
  behaves_falls had (Ends left) behaves = within left.0 left.1 behaves.0
  behaves_falls had (Asks deed next) behaves =
      behaves_falls (had - 1) (next last) (behaves.2 last)
  behaves_falls had (Reads text next) behaves =
      λ tree is. behaves_falls had (next tree) (behaves tree is)
  behaves_falls had (Calls piece state next) behaves = absurd behaves

-- a course that behaves pays for its acts
pub behaves_pays : (price : Piece → Status → ℕ) (t had : ℕ) (c : Course) →
    Behaves t had c → Pays IsTree price worth (λ left. worth left.0) had c
behaves_pays price t had (Ends left) behaves = behaves.1
behaves_pays price t had (Asks deed next) behaves =
    (behaves.0, λ reply. behaves_pays price t (had - 1) (next reply) (behaves.2 reply))
behaves_pays price t had (Reads text next) behaves =
    λ tree is. behaves_pays price t had (next tree) (behaves tree is)
behaves_pays price t had (Calls piece state next) behaves = absurd behaves

-- the waits of a course that behaves hold
pub behaves_keeps : (t had : ℕ) (c : Course) → Behaves t had c →
    Keeps IsTree (λ (s : Status). Unit {0}) Holds (λ left. Unit {0}) c
behaves_keeps t had (Ends left) behaves = tt
behaves_keeps t had (Asks deed next) behaves =
    (behaves.1, λ reply. behaves_keeps t (had - 1) (next reply) (behaves.2 reply))
behaves_keeps t had (Reads text next) behaves =
    λ tree is. behaves_keeps t had (next tree) (behaves tree is)
behaves_keeps t had (Calls piece state next) behaves = absurd behaves
