-- What a choice of the code is.
use Rattle.std.specs.Prelude.{◌≡◌, List, Option, Some, None}
use Rattle.choices.specs.Branches.{Pair}
use Rattle.choices.specs.Choice.{Chosen, Chooses, Taken, lines_after, peers_after, taken_of}
use Rattle.choices.specs.Lines.{Line}
use Rattle.choices.specs.Peers.{Peer, FitsPeers}
use Rattle.choices.specs.declared.choice.Choice.{Choice}
use Rattle.choices.specs.declared.choice.Taken.{Taken as Coded}
use Rattle.choices.specs.declared.choice.Trigger.{Trigger}

-- what a choice of the code has for expect_out
abbrev pub taken_by : {A : Type 0} → Option (Coded A) → Option Taken
taken_by None = None
taken_by (Some t) = Some (record {
  id = t.id;
  buffer = t.buffer.items;
  found = t.found;
  tells_places = t.tells_places;
})

-- a pair is chosen; the choice has its body and what expect_out gets, and what it consumes is
-- consumed, at its id alone
pub record Makes {A : Type 0} (choice : Choice A) (t : Trigger) (pairs : List Pair)
    (old new : List Line) : Type 0 where
  pub selected : Chosen
  pub chooses : Chooses old t pairs (Some selected)
  pub body : choice.body ≡ selected.pair.branch.body
  pub taken : taken_by choice.taken ≡ taken_of old t selected
  pub lines : new ≡ lines_after t selected old
  pub fits : (ps : List Peer) → FitsPeers old ps → FitsPeers new (peers_after t selected ps)

-- the result of a selection: a choice, or none, and then nothing is consumed
abbrev pub Selects : {A : Type 0} → Option (Choice A) → Trigger → List Pair →
    List Line → List Line → Type 0
Selects None t pairs old new = Chooses old t pairs None × (new ≡ old)
Selects (Some choice) t pairs old new = Makes choice t pairs old new
