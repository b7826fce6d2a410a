-- The acts that close a run, one by one.
use Rattle.std.proofs.Common.{◌≡◌, List, [], ◌∷◌, map, true, false, refl}
use Rattle.state.specs.Prelude.{Id, Deed, Reply, Peer, Ends, Dialogue, Status, lines, shut}
use Rattle.acts.specs.Deed as said
use Rattle.acts.specs.Fits.{fits}
use Rattle.choices.specs.Peers.{opened, line}
use Rattle.runs.specs.Closing.{does, ends_with}
use Rattle.runs.specs.Ending.{Ending, With}
use Rattle.state.specs.Dialogue.{judged, is_no_more}
use Rattle.state.specs.Outcome.{Stop}
use Rattle.state.specs.Outcome as stop

-- an open id is closed first
pub closes_first : (e : Ending) (s : Status) (peer : Peer) (others : List Peer) (i : Id) →
    opened s.ids.peers ≡ peer ∷ others → peer.id ≡ i →
    opened (shut i s).ids.peers ≡ others →
    ends_with e s
    ≡ does (said.Close i) (λ reply. ends_with e (shut i s))
closes_first e s peer others i split is rest = rw (split, rest, is) refl

-- where none is open, an open log is closed, and else the run is over
pub closes_log_last : (e : Ending) (s t : Status) → opened s.ids.peers ≡ [] →
    s.log.logging ≡ true → opened t.ids.peers ≡ [] → t.log.logging ≡ false →
    ends_with e s ≡ does said.CloseLog (λ reply. ends_with e t)
closes_log_last e s t none logs still over = rw (none, logs, still, over) refl

pub closes_none : (e : Ending) (s : Status) → opened s.ids.peers ≡ [] → s.log.logging ≡ false →
    ends_with e s ≡ Ends (With e)
closes_none e s none shut = rw (none, shut) refl

module _ {X : Type 0} (stopped : Stop → X) (deed : Deed) (reply : Reply) (next : Dialogue X) where
  pub judged_none : is_no_more reply ≡ true →
      judged stopped deed reply next ≡ Ends (stopped stop.NoMore)
  judged_none none = rw none refl

  pub judged_unfit : is_no_more reply ≡ false → fits deed reply ≡ false →
      judged stopped deed reply next ≡ Ends (stopped stop.BadAnswer)
  judged_unfit some unfit = rw (some, unfit) refl

  pub judged_fit : is_no_more reply ≡ false → fits deed reply ≡ true →
      judged stopped deed reply next ≡ next
  judged_fit some fit = rw (some, fit) refl

-- with no line no id is open
none_among : (ps : List Peer) → map line ps ≡ [] → ps ≡ []
none_among [] is = refl
none_among (p ∷ ps) is = absurd (cc)

pub none_open : (s : Status) → lines s ≡ [] → opened s.ids.peers ≡ []
none_open s is = none_among (opened s.ids.peers) is
