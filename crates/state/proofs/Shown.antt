-- How far a command has come, where it is known how it came there.
use Rattle.std.proofs.Common.{sym, ap}
use Rattle.state.specs.Prelude.{Deed, Reply, Ends, Course, Shows, Outcome, Reaches, Status, FitsState}
use Rattle.state.specs.declared.leaf.Leaf.{Leaf}
use Rattle.state.specs.declared.leaf.Leaf.TheVariants as leaf
use Rattle.state.specs.declared.state.State.{State}
use Rattle.state.proofs.Reaches.{same_reaches, then_reaches}
use Rattle.state.specs.Leaf.{HasOutcome}

module _ {A W : Type 0} (next : W → Deed → Status → Reply → Course) where
  -- the command is over once some texts are read
  pub over_after : {o : Outcome} {s : Status} {state : State A} {course : Course}
      (l : Leaf A W) → HasOutcome l o → FitsState state s → Reaches course (Ends (s, o)) →
      Shows next l state course
  over_after {s = s} (leaf.Has x) has fits first = record {
    status = s;
    fits = fits;
    reaches = then_reaches first
        (same_reaches (ap (λ o. let left : Course = Ends (s, o) in left) (sym has)));
  }
  over_after (leaf.Asks act waits) has fits first = absurd has
