use Rattle.std.proofs.Common.{◌≡◌, ℕ, List, [], ◌++◌}
use Rattle.live.specs.Early.{Exchanged}
use Rattle.live.proofs.sending.send_to.Given as goal

-- what was sent so far is the part of the text before the rest, and nothing was refused
abbrev pub invariant-text : goal.invariant-text
invariant-text g l =
    (front : List ℕ) × (l.fn.text ≡ front ++ l.rest) × (l.why ≡ l.initial.why)
    × (g.S.Link.Owned.owner l.peer.link ≡ g.S.Link.Owned.owner l.initial.peer.link)
    × Exchanged g.S.System.step (g.S.Link.Owned.owner l.initial.peer.link) l.initial.system
    l.initial.peer.early.items front [] l.peer.early.items l.system
