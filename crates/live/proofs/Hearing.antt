-- What is traded and found by calls that follow one another.
use Rattle.std.proofs.Common.{ℕ, List, [], ◌∷◌, ◌++◌, Option, Some, None, sym, ap, ◌∙◌, append_assoc, append-nil}
use Rattle.std.specs.List.{AllByRecursion}
use Rattle.acts.specs.declared.id.Id.{Id}
use Rattle.acts.specs.Deed.{Reply}
use Rattle.acts.specs.Deed as said
use Rattle.live.specs.Arriving.{EndsSo}
use Rattle.live.specs.Calls.{Call, Read, heard, heard_by, sent, sent_by}
use Rattle.live.specs.Early.{IsIdle}
use Rattle.live.specs.Kept.{Trades}
use Rattle.live.proofs.Chains.{gathered_then}
use Rattle.live.proofs.Exchanging.{idle_heard, idle_sent}

-- what is traded by calls is traded by each of two parts of them
pub trades_then : (kept mid left : Id → List ℕ) (first more : List Call) (on : Id → List ℕ) →
    Trades kept first (λ id. []) (λ id. []) mid → Trades mid more (λ id. []) on left →
    Trades kept (first ++ more) (λ id. []) on left
trades_then kept mid left first more on before after id = (
  ap (λ bytes. kept id ++ bytes) (gathered_then (heard_by id) first more)
      ∙ sym (append_assoc (kept id) (heard id first) (heard id more))
      ∙ ap (λ bytes. bytes ++ heard id more) (before id).0 ∙ (after id).0,
  gathered_then (sent_by id) first more
      ∙ ap (λ bytes. bytes ++ sent id more) (before id).1 ∙ (after id).1,
)

-- an end that the last calls show is shown by all of them
pub ends_then : (reply : Option Reply) (first more : List Call) (left : Id → List ℕ) →
    EndsSo reply more left → EndsSo reply (first ++ more) left
ends_then (Some (said.Ended id)) first more left (none, (front, got, end, is)) = (
  none,
  (
    first ++ front,
    got,
    end,
    ap (λ calls. first ++ calls) is ∙ sym (append_assoc first front (Read id got ∷ [])),
  ),
)
ends_then (Some said.TimedOut) first more left ends = tt
ends_then (Some said.Done) first more left ends = tt
ends_then (Some (said.Failed sent)) first more left ends = tt
ends_then (Some (said.Started pid)) first more left ends = tt
ends_then (Some said.Refused) first more left ends = tt
ends_then (Some (said.Exited status)) first more left ends = tt
ends_then (Some (said.Arrive id bytes)) first more left ends = tt
ends_then (Some said.NoMore) first more left ends = tt
ends_then None first more left ends = tt

-- idle calls trade nothing
pub idle_trades : (kept : Id → List ℕ) (calls : List Call) → AllByRecursion IsIdle calls →
    Trades kept calls (λ id. []) (λ id. []) kept
idle_trades kept calls idle id = (
  ap (λ more. kept id ++ more) (idle_heard id calls idle) ∙ append-nil (kept id),
  idle_sent id calls idle,
)
