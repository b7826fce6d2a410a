use Rattle.std.proofs.Common.{◌≡◌, None, take}
use Rattle.live.specs.Arriving.{Sees}
use Rattle.live.specs.Kept.{ArePast, ids_of, kept_of}
use Rattle.live.proofs.arriving.look_through.Given as goal

-- the rows so far were silent
abbrev pub invariant-loop-row : goal.invariant-loop-row
invariant-loop-row g l =
    let kept = kept_of g.S.Link.Owned.owner in
    let ids = ids_of g.S.Link.Owned.owner in record {
      deadline : l.peers.deadline ≡ l.initial.peers.deadline;
      last : l.peers.last ≡ l.initial.peers.last;
      same : ids l.peers.list.items ≡ ids l.initial.peers.list.items;
      sees : Sees g.S.System.step l.initial.system (ids l.initial.peers.list.items)
          (take l.row-index l.rows) (kept l.initial.peers.list.items) None
          (kept l.peers.list.items) l.system;
      past : ArePast (ids l.peers.list.items) l.passed.place l.passed.number;
    }
