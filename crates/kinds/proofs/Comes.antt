-- A command of a kind has come as far in the code as its course.
use Rattle.std.proofs.Common.{◌≡◌, ℕ, List, Result, Ok, Err, IfOk, IsOkAnd, refl, sym, ap, ◌∙◌}
use Rattle.state.specs.Prelude.{Deed, Reply, deed_of, Flaw, flaw_of, text_of, Fails, Raises, Raise, NoMemory, Ends, Asks, Course, raises, Shows, Outcome, Status, FitsState, outcome_of}
use Rattle.acts.specs.declared.raise.Raise.TheVariants as raise
use Rattle.kinds.specs.Answers.{Comes, EndsWith, Goes, GoesOn, Settles, Talks}
use Rattle.kinds.specs.Edits.{edited, opened_by}
use Rattle.kinds.specs.Exchange.{Exchange, Over, Edits, Opens, Performs, course, talks}
use Rattle.kinds.specs.Kinds.{exits}
use Rattle.meanings.specs.Meaning.{Meaning}
use Rattle.meanings.specs.View.{Answers as IsMeant}
use Rattle.state.proofs.Meant.{comes_reaches}
use Rattle.state.proofs.Reaches.{same_reaches, then_reaches}
use Rattle.state.proofs.Shown.{over_after}
use Rattle.state.specs.declared.leaf.Leaf.{Leaf}
use Rattle.state.specs.declared.leaf.Leaf.TheVariants as leaf
use Rattle.state.specs.declared.outcome.Code.TheVariants as code
use Rattle.state.specs.declared.outcome.Leave.{Leave}
use Rattle.state.specs.declared.outcome.Leave.TheVariants as leave
use Rattle.state.specs.declared.state.State.{State}
use Rattle.state.specs.Dialogue.{replied}
use Rattle.state.specs.Leaf.{Maps, course_of}
use Rattle.state.specs.Meant.{meant}

-- what waits for the answer is converted, and continues as before
module _ {A W V : Type 0} (own : W → Deed → Status → Reply → Course)
    (next : V → Deed → Status → Reply → Course) (P : W → V → Type 0)
    (same : (w : W) (v : V) → P w v → own w ≡ next v) where
  pub mapped_shows : (state : State A) (c : Course) (l : Leaf A W) (m : Leaf A V) →
      Maps P l m → Shows own l state c → Shows next m state c
  mapped_shows state c (leaf.Has o) (leaf.Has p) maps shows = record {
    status = shows.status;
    fits = shows.fits;
    reaches = then_reaches shows.reaches
        (same_reaches (ap (λ r. course_of next (leaf.Has r) shows.status) maps));
  }
  mapped_shows state c (leaf.Has o) (leaf.Asks act v) maps shows = absurd maps
  mapped_shows state c (leaf.Asks act w) (leaf.Has p) maps shows = absurd maps
  mapped_shows state c (leaf.Asks act w) (leaf.Asks deed v) maps shows = record {
    status = shows.status;
    fits = shows.fits;
    reaches = then_reaches shows.reaches
        (same_reaches (ap (λ a. course_of own (leaf.Asks a w) shows.status) maps.0
        ∙ ap (λ (n : Deed → Status → Reply → Course).
        Asks (deed_of deed) (replied (deed_of deed) shows.status (n (deed_of deed))))
        (same w v maps.1)));
  }

-- an exchange that has come as far as the code
module _ {A W : Type 0} (next : W → Deed → Status → Reply → Course) (state : State A) where
  pub goes_shows : {n : ℕ} (exchange : Exchange n) (s : Status) (l : Leaf A W) →
      Goes next exchange s l state → Shows next l state (course exchange s)
  goes_shows (Over outcome) s (leaf.Has o) goes = record {
    status = s;
    fits = goes.1;
    reaches = same_reaches (ap (λ o. let c : Course = Ends (s, o) in c) (sym goes.0));
  }
  goes_shows (Over outcome) s (leaf.Asks act waits) goes = absurd goes
  goes_shows (Edits edit rest) s l goes = goes_shows rest (edited edit s) l goes
  goes_shows (Opens opening rest) s l goes = goes_shows rest (opened_by opening s) l goes
  goes_shows (Performs deed holds follows) s (leaf.Has o) goes = absurd goes
  goes_shows (Performs deed holds follows) s (leaf.Asks act waits) goes = record {
    status = s;
    fits = goes.2;
    reaches = same_reaches
        ((λ i. let c : Course = Asks deed (replied deed s (λ t reply. goes.1 t reply i)) in c)
        ∙ ap (λ d. let c : Course = Asks d (replied d s (next waits d)) in c) (sym goes.0));
  }

  -- an error of the words
  pub fails_comes : {n : ℕ} (meant : Result (Exchange n) Flaw) (s : Status) (why : Raise A) →
      Fails meant why → FitsState state s → Comes next (talks meant s) (Err why) state
  fails_comes meant s (raise.Fault why) is fits = record {
    status = s;
    fits = fits;
    reaches = same_reaches (ap (λ m. talks m s) is);
  }
  fails_comes meant s (raise.NoMemory refusal) is fits = tt

  -- a command that acts
  pub talks_comes : {n : ℕ} (meant : Result (Exchange n) Flaw) (s : Status)
      (r : Result (Leaf A W) (Raise A)) → Talks next meant s r state →
      Comes next (talks meant s) r state
  talks_comes (Ok exchange) s (Ok l) goes = goes_shows exchange s l goes
  talks_comes (Err flaw) s (Ok l) goes = absurd goes
  talks_comes meant s (Err why) goes = fails_comes meant s why goes.0 goes.1

  -- an exchange that goes on; an error is how it ends
  pub goes_on_comes : {n : ℕ} (exchange : Exchange n) (s : Status)
      (r : Result (Leaf A W) (Raise A)) → GoesOn next exchange s r state →
      Comes next (course exchange s) r state
  goes_on_comes exchange s (Ok l) goes = goes_shows exchange s l goes
  goes_on_comes exchange s (Err (raise.Fault why)) goes =
      let failed : Leaf A W =
      leaf.Has (Err (leave.Coded code.Error (text_of (flaw_of why)))) in
      let shown = goes_shows exchange s failed goes in
      record { status = shown.status; fits = shown.fits; reaches = shown.reaches }
  goes_on_comes exchange s (Err (raise.NoMemory refusal)) goes = tt

  -- an exit
  pub exit_shows : (meant : Result Outcome Flaw) (s : Status) (o : Result (List ℕ) (Leave A)) →
      meant ≡ Ok (outcome_of o) → FitsState state s →
      Shows next (leaf.Has o) state (exits meant s)
  exit_shows meant s o is fits = record {
    status = s;
    fits = fits;
    reaches = same_reaches (ap (λ m. exits m s) is);
  }

  pub exit_fails : (meant : Result Outcome Flaw) (s : Status) (why : Raise A) →
      Fails meant why → FitsState state s → Comes next (exits meant s) (Err why) state
  exit_fails meant s (raise.Fault why) is fits = record {
    status = s;
    fits = fits;
    reaches = same_reaches (ap (λ m. exits m s) is);
  }
  exit_fails meant s (raise.NoMemory refusal) is fits = tt

  -- an error by itself
  pub raises_comes : (flaw : Flaw) (s : Status) (why : Raise A) → Raises flaw why →
      FitsState state s → Comes next (raises flaw s) (Err why) state
  raises_comes flaw s (raise.Fault why) is fits = record {
    status = s;
    fits = fits;
    reaches = same_reaches (ap (λ f. raises f s) (sym is));
  }
  raises_comes flaw s (raise.NoMemory refusal) is fits = tt

  -- the error of a command is how it ends
  settles_shows : (c : Course) (r : Result (Leaf A W) (Raise A)) (l : Leaf A W) →
      Comes next c r state → Settles r l → Shows next l state c
  settles_shows c (Ok m) l comes same = rw same comes
  settles_shows c (Err (raise.Fault why)) l comes has =
      over_after next l has comes.fits comes.reaches
  settles_shows c (Err (raise.NoMemory refusal)) l comes none = absurd none

  pub settled_shows : (c : Course) (r : Result (Leaf A W) (Raise A))
      (settled : Result (Leaf A W) NoMemory) → Comes next c r state →
      IfOk settled (λ l. Settles r l) → IfOk settled (λ l. Shows next l state c)
  settled_shows c r (Ok l) comes same = settles_shows c r l comes same
  settled_shows c r (Err refusal) comes same = tt

  -- a command without acts
  ends_shows : {n : ℕ} (exchange : Exchange n) (s : Status) (value : List ℕ) →
      EndsWith exchange s value state → Shows next (leaf.Has (Ok value)) state (course exchange s)
  ends_shows (Over outcome) s value ends = record {
    status = s;
    fits = ends.1;
    reaches = same_reaches (ap (λ o. let c : Course = Ends (s, o) in c) ends.0);
  }
  ends_shows (Edits edit rest) s value ends = ends_shows rest (edited edit s) value ends
  ends_shows (Opens opening rest) s value ends = ends_shows rest (opened_by opening s) value ends
  ends_shows (Performs deed holds follows) s value ends = absurd ends

  pub sets_shows : {n : ℕ} (meant : Result (Exchange n) Flaw) (s : Status) (value : List ℕ) →
      IsOkAnd meant (λ exchange. EndsWith exchange s value state) →
      Shows next (leaf.Has (Ok value)) state (talks meant s)
  sets_shows (Ok exchange) s value ends = ends_shows exchange s value ends
  sets_shows (Err flaw) s value ends = absurd ends

  -- a function of its words
  pub meant_shows : (m : Meaning) (s : Status) (value : List ℕ) → IsMeant {A = A} m (Ok value) →
      FitsState state s → Shows next (leaf.Has (Ok value)) state (meant m s)
  meant_shows m s value is fits =
      over_after next (leaf.Has (Ok value)) refl fits (comes_reaches m (Ok value) s is)

  pub meant_fails : (m : Meaning) (s : Status) (why : Raise A) → IsMeant m (Err why) →
      FitsState state s → Comes next (meant m s) (Err why) state
  meant_fails m s (raise.Fault why) is fits = record {
    status = s;
    fits = fits;
    reaches = comes_reaches m (Err (flaw_of why)) s is;
  }
  meant_fails m s (raise.NoMemory refusal) is fits = tt
