-- Silent steps: one after the other, under frames, and what they do to the remaining runs.
use Rattle.std.proofs.Common.{◌≡◌, List, ap}
use Rattle.machine.specs.Frames.{Onward, left_of}
use Rattle.steps.specs.Goes.{Goes, here, calls, reads}
use Rattle.machine.specs.declared.frame.Frame.{Frame}
use Rattle.plan.specs.Exact.{Same}
use Rattle.plan.specs.Runs.{Runs}
use Rattle.plan.proofs.Exact.{same, then_same, call_is_exact, read_is_exact}
use Rattle.runs.specs.Ending.{Over}
use Rattle.runs.specs.Scripts.{plan_of}
use Rattle.runs.proofs.Trees.{one_tree}
use Rattle.state.specs.Prelude.{Course, Dialogue, IsTree, Reaches}
pub use Rattle.steps.proofs.Leads.Silent.{same_goes, then_goes}
use Rattle.state.specs.Reaches as words_reach

-- a course that continues as another by reading texts does so under frames too
pub reaches_goes : {A : Type 0} (last : Onward) (frames : List (Frame A)) {p q : Course} →
    Reaches p q →
    Goes (left_of last p frames) (left_of last q frames)
reaches_goes last frames words_reach.here = here
reaches_goes last frames (words_reach.reads tree is a) = reads tree is (reaches_goes last frames a)

-- equal courses continue alike
pub same_left : {A : Type 0} (last : Onward) (frames : List (Frame A)) {p q : Course} → p ≡ q →
    Goes (left_of last p frames) (left_of last q frames)
same_left last frames is = same_goes (ap (λ c. left_of last c frames) is)

-- silent steps add no run and lose none
pub goes_exact : {p q : Dialogue Over} → Goes p q →
    Same (Runs plan_of IsTree q) (Runs plan_of IsTree p)
goes_exact here = same
goes_exact (calls {piece = piece} {s = s} {next = next} a) =
    then_same (goes_exact a) (call_is_exact plan_of IsTree piece s next)
goes_exact (reads {text = text} tree {next = next} is a) =
    then_same (goes_exact a) (read_is_exact plan_of IsTree one_tree text tree next is)
