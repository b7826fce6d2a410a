use Rattle.std.proofs.Common.{◌≡◌, None}
use Rattle.live.specs.Arriving.{Hears}
use Rattle.live.specs.Kept.{ids_of, kept_of}
use Rattle.live.proofs.arriving.next.Given as goal

-- nothing has come so far
abbrev pub invariant-looks : goal.invariant-looks
invariant-looks g l =
    let kept = kept_of g.S.Link.Owned.owner in
    let ids = ids_of g.S.Link.Owned.owner in record {
      deadline : l.peers.deadline ≡ l.initial.peers.deadline;
      last : l.peers.last ≡ l.initial.peers.last;
      same : ids l.peers.list.items ≡ ids l.initial.peers.list.items;
      hears : Hears g.S.System.step l.fn.timer l.initial.peers.deadline l.initial.system
          (kept l.initial.peers.list.items) None (kept l.peers.list.items) l.system;
    }
