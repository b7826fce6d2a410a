use Rattle.std.proofs.Common.{◌∙◌, [], arith, sym}
use Rattle.live.proofs.Seeing.{looked_bytes, looked_end, looked_silent}
use Rattle.live.proofs.Silence.{sees_closed}
use Rattle.live.proofs.Table.{closed, found_at, ids_set}
use Rattle.live.proofs.arriving.look_at.Goals as goal

pub returns-in_default-clause-sees : goal.returns-in_default-clause-sees
returns-in_default-clause-sees g c =
    let owner = g.S.Link.Owned.owner in
    sees_closed g.S.System.step _ _ c.args.row _
    (closed owner c.args.row.id _
    (sym c.requires ∙ c.in_default.is))

pub returns-in-Silence-clause-ids : goal.returns-in-Silence-clause-ids
returns-in-Silence-clause-ids g c =
    let owner = g.S.Link.Owned.owner in
    ids_set owner c.args.row.id _ c.in-Some.place _ c.look_early.new.peer
    c.look_early.ensures.owner
    (found_at owner c.args.row.id _ c.in-Some.place _
    (sym c.requires ∙ c.in-Some.is)
    c.index_mut.ensures.value)

pub returns-in-End-clause-ids : goal.returns-in-End-clause-ids
returns-in-End-clause-ids g c =
    let owner = g.S.Link.Owned.owner in
    ids_set owner c.args.row.id _ c.in-Some.place _ c.look_early.new.peer
    c.look_early.ensures.owner
    (found_at owner c.args.row.id _ c.in-Some.place _
    (sym c.requires ∙ c.in-Some.is)
    c.index_mut.ensures.value)

pub returns-in_ok-bytes-in-Bytes-clause-ids : goal.returns-in_ok-bytes-in-Bytes-clause-ids
returns-in_ok-bytes-in-Bytes-clause-ids g c =
    let owner = g.S.Link.Owned.owner in
    ids_set owner c.args.row.id _ c.in-Some.place _ c.look_early.new.peer
    c.look_early.ensures.owner
    (found_at owner c.args.row.id _ c.in-Some.place _
    (sym c.requires ∙ c.in-Some.is)
    c.index_mut.ensures.value)

pub returns-in_err-bytes-in-Bytes-clause-ids : goal.returns-in_err-bytes-in-Bytes-clause-ids
returns-in_err-bytes-in-Bytes-clause-ids g c =
    let owner = g.S.Link.Owned.owner in
    ids_set owner c.args.row.id _ c.in-Some.place _ c.look_early.new.peer
    c.look_early.ensures.owner
    (found_at owner c.args.row.id _ c.in-Some.place _
    (sym c.requires ∙ c.in-Some.is)
    c.index_mut.ensures.value)

pub returns-in-Silence-clause-sees : goal.returns-in-Silence-clause-sees
returns-in-Silence-clause-sees g c =
    let owner = g.S.Link.Owned.owner in
    looked_silent g.S.System.step owner _ c.args.row _ _ _ _ _ c.look_early.new.peer
    c.look_early.new.room
    (found_at owner c.args.row.id _ c.in-Some.place _
    (sym c.requires ∙ c.in-Some.is)
    c.index_mut.ensures.value)
    c.look_early.ensures.owner c.in-Silence.ensures.early c.in-Silence.ensures.looks
    (λ has. c.look_early.ensures.silence c.in-Silence.is has)
    (λ wants. grind (arith, wants, c.if-is_empty.false))

pub returns-in-End-clause-sees : goal.returns-in-End-clause-sees
returns-in-End-clause-sees g c =
    let owner = g.S.Link.Owned.owner in
    looked_end g.S.System.step owner [] [] c.args.row.id _ _ _ _ _ c.look_early.new.peer
    c.look_early.new.room
    (found_at owner c.args.row.id _ c.in-Some.place _
    (sym c.requires ∙ c.in-Some.is)
    c.index_mut.ensures.value)
    c.look_early.ensures.owner c.in-End.ensures.early c.in-End.ensures.looks

pub returns-in_ok-bytes-in-Bytes-clause-sees : goal.returns-in_ok-bytes-in-Bytes-clause-sees
returns-in_ok-bytes-in-Bytes-clause-sees g c =
    let owner = g.S.Link.Owned.owner in
    looked_bytes g.S.System.step owner [] [] c.args.row.id _ _ _ _ _ c.look_early.new.peer
    c.in-Bytes.count c.look_early.new.room _ c.in_ok-bytes-in-Bytes.ensures.items
    (found_at owner c.args.row.id _ c.in-Some.place _
    (sym c.requires ∙ c.in-Some.is)
    c.index_mut.ensures.value)
    c.look_early.ensures.owner c.in-Bytes.ensures.early c.in-Bytes.ensures.looks
