-- What follows a choice of the code.
use Rattle.std.proofs.Common.{◌≡◌, ◌∙◌, ℕ, List, [], Option, Some, None, IfSome, refl, sym, ap}
use Rattle.state.specs.Prelude.{Id, Course, gives, TurnTree, Reaches, Status, lines, FitsState}
use Rattle.choices.proofs.Choices.{one_choice}
use Rattle.choices.specs.Branches.{Pair}
use Rattle.choices.specs.Choice.{Chosen, Chooses, Share, Nothing, Front, Whole, Taken, consumed_to, share_of}
use Rattle.choices.specs.Lines.{Line, Listing}
use Rattle.choices.specs.Peers.{FitsPeers, arrived, at_peer}
use Rattle.choices.specs.Selects.{Selects, taken_by as taken_of_code}
use Rattle.choices.specs.declared.choice.Choice.{Choice}
use Rattle.choices.specs.declared.choice.Trigger.{Trigger}
use Rattle.state.proofs.FitIds.{StaysReapable, peers_fit}
use Rattle.state.proofs.Fits.{ids_fit}
use Rattle.state.proofs.Reaches.{same_reaches}
use Rattle.state.specs.Piece.{ChoiceText}
use Rattle.state.specs.Reaches.{reads}
use Rattle.state.specs.Status.{at_id}
use Rattle.state.specs.declared.state.State.{State}
use Rattle.expects.specs.Turn.{consumed_by, does, selects, settled, taken_by}
use Rattle.expects.specs.View.{HasChoice, IsSame, Selected, done, settles}

-- what was chosen is done, or else what follows where nothing was
abbrev pub settles_or : {A : Type 0} → Option (Choice A) → TurnTree → ℕ → Status →
    (Status → Course) → Course
settles_or None turn levels s otherwise = otherwise s
settles_or (Some choice) turn levels s otherwise = done choice turn levels s

module _ {A : Type 0} (turn : TurnTree) (levels : ℕ) where
  pub settled_is : (choice : Option (Choice A)) (c : Option Chosen) (taken : Option Taken)
      (s : Status) (otherwise : Status → Course) → IsSame choice c taken →
      settled turn levels taken s otherwise c ≡ settles_or choice turn levels s otherwise
  settled_is None None taken s otherwise same = refl
  settled_is None (Some c) taken s otherwise same = absurd same
  settled_is (Some choice) None taken s otherwise same = absurd same
  settled_is (Some choice) (Some c) taken s otherwise same =
      ap (λ t. does turn levels t c.pair.branch.body s) (sym same.1)
      ∙ ap (λ body. does turn levels (taken_of_code choice.taken) body s) (sym same.0)

  pub settles_is : (choice : Option (Choice A)) (s : Status) →
      settles_or choice turn levels s (gives []) ≡ settles choice turn levels s
  settles_is None s = refl
  settles_is (Some choice) s = refl

  -- a choice is made and done
  pub selects_reaches : (choice : Option (Choice A)) (t : Trigger) (state : State A) (s : Status)
      (otherwise : Status → Course) (made : Selected choice t turn.effective.pairs state s) →
      Reaches (selects t turn levels s otherwise)
      (settles_or choice turn levels (consumed_by t made.selected s) otherwise)
  selects_reaches choice t state s otherwise made =
      reads {text = ChoiceText (lines s) t turn.effective.pairs} made.selected made.chooses
      (same_reaches (settled_is choice made.selected (taken_by t made.selected s)
      (consumed_by t made.selected s) otherwise made.same))

-- after a choice `wait` may reap the same ids as before
stays : (share : Share) → StaysReapable (consumed_to share)
stays Nothing = record { is_reaped = λ p. refl; id = λ p. refl; kind = λ p. refl }
stays (Front n) = record { is_reaped = λ p. refl; id = λ p. refl; kind = λ p. refl }
stays Whole = record { is_reaped = λ p. refl; id = λ p. refl; kind = λ p. refl }

-- the choice of the table is that of the definition
pub selected_by : {A : Type 0} (choice : Option (Choice A)) (t : Trigger) (pairs : List Pair)
    (state : State A) (table : Listing) (s : Status) → FitsState state s →
    Selects choice t pairs state.ids.table.lines table.lines →
    table.next ≡ state.ids.table.next →
    Selected choice t pairs (record state { ids = record state.ids { table = table } }) s
selected_by None t pairs state table s fits made next = record {
  selected = None;
  chooses = rw fits.ids.peers.lines made.0;
  same = tt;
  fits = ids_fit state s fits _ s.ids (record {
    peers = rw made.1 fits.ids.peers;
    unreaped = fits.ids.unreaped;
    standing = fits.ids.standing;
    size = fits.ids.size;
    drops_nulls = fits.ids.drops_nulls;
    next = rw next fits.ids.next;
  });
}
selected_by (Some choice) t pairs state table s fits made next =
    let c = made.selected in record {
      selected = Some c;
      chooses = rw fits.ids.peers.lines made.chooses;
      same = (made.body, rw fits.ids.peers.lines made.taken);
      fits = ids_fit state s fits _ _
          (peers_fit state.ids s.ids fits.ids table (consumed_to (share_of t c)) c.pair.id
          (stays (share_of t c)) (made.fits s.ids.peers fits.ids.peers) next);
    }

-- after an arrival `wait` may reap the same ids as before
stays_arrived : (bytes : List ℕ) → StaysReapable (arrived bytes)
stays_arrived bytes = record { is_reaped = λ p. refl; id = λ p. refl; kind = λ p. refl }

pub arrival_fits : {A : Type 0} (bytes : List ℕ) (i : Id) (state : State A) (table : Listing)
    (s : Status) → FitsState state s →
    FitsPeers table.lines (at_peer (arrived bytes) i s.ids.peers) →
    table.next ≡ state.ids.table.next →
    FitsState (record state { ids = record state.ids { table = table } })
    (at_id (arrived bytes) i s)
arrival_fits bytes i state table s fits peers next =
    ids_fit state s fits _ _
    (peers_fit state.ids s.ids fits.ids table (arrived bytes) i (stays_arrived bytes) peers next)

-- where the table makes a choice, the definition has one
pub makes_one : {A : Type 0} (o : Option (Choice A)) (t : Trigger) (pairs : List Pair)
    (old new : List Line) → Selects o t pairs old new → IfSome o (λ made. HasChoice old t pairs)
makes_one None t pairs old new made = tt
makes_one (Some choice) t pairs old new made = (made.selected, made.chooses)

-- where the definition chooses nothing, there is no choice
pub no_other : (ls : List Line) (t : Trigger) (pairs : List Pair) → Chooses ls t pairs None →
    HasChoice ls t pairs → ⊥
no_other ls t pairs none some =
    let never : None ≡ Some some.0 = one_choice ls t pairs None (Some some.0) none some.1 in
    absurd (cc)
