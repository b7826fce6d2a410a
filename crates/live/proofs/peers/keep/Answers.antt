use Rattle.std.proofs.Common.{◌≡◌, ◌≤◌, ◌++◌, ◌∙◌, ℕ, List, ap, refl, sym, length, length-append, max, min, take, append-nil, arith}
use Rattle.std.proofs.Math.Seq.{take-append_seam, take-length}
use Rattle.std.proofs.lemmas.List.{length-take}
use Rattle.std.proofs.lemmas.Result.{err_from_is_err_and}
use Rattle.std.specs.IoError.{error_kind}
use Rattle.live.specs.Early.{early_room, most_early}
use Rattle.live.proofs.Exchanging.{exchanged_reads}
use Rattle.live.proofs.Looking.{found_is, none_found}
use Rattle.live.proofs.peers.keep.Goals as goal

-- what is kept stays within the bound, with bytes from a room that was made for it
kept_within : (size most count : ℕ) (kept room : List ℕ) →
    length room ≡ min (early_room size kept) most →
    length (kept ++ take count room) ≤ max (length kept) (most_early size)
kept_within size most count kept room sized =
    let long = length-append kept (take count room) in let short = length-take count room in
    omega arith

-- and without them
kept_still : (a b : ℕ) → a ≤ max a b
kept_still a b = omega arith

-- the room is as large as what may be kept, or as all of it
room_sized : (most left room early : ℕ) (all new : List ℕ) → room ≡ length all →
    left ≡ early → most ≡ min left room → length new ≡ length (take most all) →
    length new ≡ min early room
room_sized most left room early all new is may least same =
    let short = length-take most all in omega arith

pub returns-in_ok-write-clause-reads : goal.returns-in_ok-write-clause-reads
returns-in_ok-write-clause-reads g c =
    let (gots, made, finds) = c.read_once-found.ensures.looks in
    let bytes = found_is gots _ _ finds in
    let more = take c.in-Bytes.count c.read_once-found.new.room in
    exchanged_reads g.S.System.step _ _ _ _ _ gots made
    (c.in_ok-write.ensures.ok ∙ ap (λ kept. kept ++ more) c.reserve.ensures.items
    ∙ ap (λ new. c.args.peer.now.early.items ++ new) (sym (rw c.in-Bytes.is at bytes)))

pub returns-in_default-clause-reads : goal.returns-in_default-clause-reads
returns-in_default-clause-reads g c =
    let (gots, made, finds) = c.read_once-found.ensures.looks in
    let none = found_is gots _ _ finds ∙ none_found _ _ c.in_default.not-Bytes in
    exchanged_reads g.S.System.step _ _ _ _ _ gots made
    (c.reserve.ensures.items
    ∙ sym (ap (λ new. c.args.peer.now.early.items ++ new) none ∙ append-nil _))

pub returns-in_ok-write-clause-looks : goal.returns-in_ok-write-clause-looks
returns-in_ok-write-clause-looks g c = (
  c.read_once-found.new.room,
  room_sized _ _ _ _ c.args.room.now c.read_once-found.new.room refl c.room_left.ensures
      c.min-most.ensures c.read_once-found.auto.room,
  c.in-Bytes.ensures.looks,
)

pub returns-in_default-clause-looks : goal.returns-in_default-clause-looks
returns-in_default-clause-looks g c = (
  c.read_once-found.new.room,
  room_sized _ _ _ _ c.args.room.now c.read_once-found.new.room refl c.room_left.ensures
      c.min-most.ensures c.read_once-found.auto.room,
  c.read_once-found.ensures.looks,
)

pub returns-in_ok-write-clause-bound : goal.returns-in_ok-write-clause-bound
returns-in_ok-write-clause-bound g c =
    rw (c.in_ok-write.ensures.ok, c.reserve.ensures.items)
    (kept_within c.args.size _ c.in-Bytes.count c.args.peer.now.early.items
    c.read_once-found.new.room (room_sized _ _ _ _ c.args.room.now c.read_once-found.new.room refl
    c.room_left.ensures c.min-most.ensures c.read_once-found.auto.room))

pub returns-in_default-clause-bound : goal.returns-in_default-clause-bound
returns-in_default-clause-bound g c = rw c.reserve.ensures.items (kept_still _ _)

pub returns-in_ok-write-clause-all : goal.returns-in_ok-write-clause-all
returns-in_ok-write-clause-all g c =
    rw (c.in_ok-write.ensures.ok, c.reserve.ensures.items)
    (take-append_seam c.args.peer.now.early.items _)

pub returns-in_default-clause-all : goal.returns-in_default-clause-all
returns-in_default-clause-all g c =
    rw c.reserve.ensures.items (take-length c.args.peer.now.early.items)

pub returns-in_err-write-clause-bound : goal.returns-in_err-write-clause-bound
returns-in_err-write-clause-bound g c =
    rw (c.in_err-write.ensures.err, c.reserve.ensures.items) (kept_still _ _)

pub returns-in_err-write-clause-all : goal.returns-in_err-write-clause-all
returns-in_err-write-clause-all g c =
    rw (c.in_err-write.ensures.err, c.reserve.ensures.items)
    (take-length c.args.peer.now.early.items)

pub returns-in_err-write-clause-reads : goal.returns-in_err-write-clause-reads
returns-in_err-write-clause-reads g c =
    let passed = c.from_residual-in_err-write in
    let (found, is, same) = err_from_is_err_and passed.result passed.ensures.1 in
    rw is (λ other. absurd (other (ap error_kind same ∙ c.in_err-write.ensures.kind)))
