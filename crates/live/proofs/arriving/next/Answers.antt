use Rattle.std.proofs.Common.{◌∙◌, None, refl}
use Rattle.acts.specs.Deed.{reply_of}
use Rattle.live.specs.Kept.{ids_of}
use Rattle.live.proofs.Arrivals.{comes_due, comes_fits, comes_wanted}
use Rattle.live.proofs.Order.{turns_rest, turns_so, turns_up}
use Rattle.live.proofs.Turns.{begins_then, both_so, hears_none, hears_paused, hears_seen, waits_over, waits_rest, waits_so}
use Rattle.live.proofs.arriving.next.Goals as goal

pub looks-init : goal.looks-init
looks-init g c =
    record {
      deadline = refl;
      last = refl;
      same = refl;
      hears = hears_none g.S.System.step c.args.timer _ _ _;
    }

pub looks-preserved : goal.looks-preserved
looks-preserved g c =
    let step = g.S.System.step in
    let ids = ids_of g.S.Link.Owned.owner c.looks.peers.list.items in
    let same = c.look_round.ensures.deadline ∙ c.looks.invariant.deadline in record {
      deadline = same;
      last = rw c.in-None.is at c.in_ok-heard.ensures.last ∙ c.looks.invariant.last;
      same = c.look_round.ensures.ids ∙ c.looks.invariant.same;
      hears = hears_paused step c.args.timer _ _ _ _ _ _ _ same
          (hears_seen step c.args.timer _ _ _ _ ids c.args.rows.now _ _ _ None
          c.looks.invariant.hears (rw c.in-None.is at c.in_ok-heard.ensures.sees))
          (rw c.in-None-2.is at c.in_ok-ended.ensures.rests);
    }

pub returns-in-Some-clause-ids : goal.returns-in-Some-clause-ids
returns-in-Some-clause-ids g c = c.look_round.ensures.ids ∙ c.looks.invariant.same

pub returns-in-Some-clause-waits : goal.returns-in-Some-clause-waits
returns-in-Some-clause-waits g c =
    let step = g.S.System.step in
    let owner = g.S.Link.Owned.owner in
    let ids = ids_of owner c.args.peers.now.list.items in
    let rows = c.args.rows.now in
    let reply = reply_of c.in-Some.heard in
    let begins = begins_then step _ _ _ c.args.timer _ _ c.in_ok-peers.ensures
    (rw c.if-branch.false at c.in_ok-is_over.ensures.shows) in
    both_so reply _ _
    (waits_so step _ _ _ _ ids rows _ _ _ c.args.timer _ _ _ reply begins
    (c.look_round.ensures.deadline ∙ c.looks.invariant.deadline)
    (comes_due ids rows c.args.timer reply _ _ (rw c.in-Some.is at c.in_ok-heard.ensures.of_rows))
    c.looks.invariant.hears (rw c.in-Some.is at c.in_ok-heard.ensures.sees))
    (turns_so step _ _ _ _ ids (ids_of owner c.looks.peers.list.items) rows _
    c.looks.peers.last _ _ _ _ c.args.timer _ _ reply begins c.looks.invariant.hears
    c.looks.invariant.same c.looks.invariant.last
    (rw c.in-Some.is at c.in_ok-heard.ensures.first)
    (rw c.in-Some.is at c.in_ok-heard.ensures.last))

pub returns-in-Some-2-clause-waits : goal.returns-in-Some-2-clause-waits
returns-in-Some-2-clause-waits g c =
    let step = g.S.System.step in
    let owner = g.S.Link.Owned.owner in
    let ids = ids_of owner c.args.peers.now.list.items in
    let reply = reply_of c.in-Some-2.ended in
    both_so reply _ _
    (waits_rest step _ _ _ _ _ (ids_of owner c.looks.peers.list.items) ids c.args.rows.now
    _ _ _ c.args.timer _ _ _ reply c.looks.invariant.same
    (begins_then step _ _ _ c.args.timer _ _ c.in_ok-peers.ensures
    (rw c.if-branch.false at c.in_ok-is_over.ensures.shows))
    (c.look_round.ensures.deadline ∙ c.looks.invariant.deadline)
    c.looks.invariant.hears (rw c.in-None.is at c.in_ok-heard.ensures.sees)
    (rw c.in-Some-2.is at c.in_ok-ended.ensures.rests))
    (turns_rest step _ _ _ ids c.args.rows.now _ _ _ c.args.timer _ reply
    (rw c.in-Some-2.is at c.in_ok-ended.ensures.rests)
    (rw c.in-None.is at c.in_ok-heard.ensures.last ∙ c.looks.invariant.last))

pub returns-then-branch-clause-waits : goal.returns-then-branch-clause-waits
returns-then-branch-clause-waits g c =
    let ids = ids_of g.S.Link.Owned.owner c.args.peers.now.list.items in (
      waits_over g.S.System.step _ _ _ ids c.args.rows.now _ c.args.timer _ _
          (c.in_ok-is_over.ensures.running c.if-branch.true) c.in_ok-peers.ensures
          (rw c.if-branch.true at c.in_ok-is_over.ensures.shows),
      turns_up g.S.System.step _ _ ids c.args.rows.now _ _ _ refl,
    )

pub returns-in-Some-clause-fits : goal.returns-in-Some-clause-fits
returns-in-Some-clause-fits g c =
    comes_fits c.args.rows.now c.args.timer (reply_of c.in-Some.heard)
    (rw c.in-Some.is at c.in_ok-heard.ensures.of_rows)

pub returns-in-Some-clause-wanted : goal.returns-in-Some-clause-wanted
returns-in-Some-clause-wanted g c =
    comes_wanted c.args.rows.now (reply_of c.in-Some.heard)
    (rw c.in-Some.is at c.in_ok-heard.ensures.of_rows)

pub returns-in-Some-2-clause-fits : goal.returns-in-Some-2-clause-fits
returns-in-Some-2-clause-fits g c =
    let (fits, wanted) = rw c.in-Some-2.is at c.in_ok-ended.ensures.fits in fits

pub returns-in-Some-2-clause-wanted : goal.returns-in-Some-2-clause-wanted
returns-in-Some-2-clause-wanted g c =
    let (fits, wanted) = rw c.in-Some-2.is at c.in_ok-ended.ensures.fits in wanted

pub returns-in-Some-2-clause-ids : goal.returns-in-Some-2-clause-ids
returns-in-Some-2-clause-ids g c = c.look_round.ensures.ids ∙ c.looks.invariant.same

pub returns-in_err-heard-clause-ids : goal.returns-in_err-heard-clause-ids
returns-in_err-heard-clause-ids g c = c.look_round.ensures.ids ∙ c.looks.invariant.same

pub returns-in_err-ended-clause-ids : goal.returns-in_err-ended-clause-ids
returns-in_err-ended-clause-ids g c = c.look_round.ensures.ids ∙ c.looks.invariant.same

pub returns-clause-ids : goal.returns-clause-ids
returns-clause-ids g c = c.looks.invariant.same
