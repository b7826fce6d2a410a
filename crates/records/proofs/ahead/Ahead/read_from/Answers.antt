use Rattle.std.proofs.Common.{rules, ◌≡◌, ◌+◌, ◌-◌, ◌++◌, drop, length, take, ap, ◌∙◌, arith}
use Rattle.std.proofs.lemmas.List.{length-take-le, places, with_items_is}
use borrow.Rule.Slice.PartMut.{post_of}
use Rattle.records.proofs.Blocks.{part_and_more}
use Rattle.records.proofs.ahead.Ahead.read_from.Goals as goal

pub returns : goal.returns
returns g c =
    let ahead = c.args.self.now in
    let old = c.deref_mut.result.now in
    let room = c.read_some.new.room in
    let taken = c.in_ok-taken.taken in
    let behind = post_of ahead.end (length old - ahead.end) old in
    let new = take ahead.end old ++ (room ++ behind) in
    let long : length new ≡ ahead.block.len = search (rules, places) in
    let wide = c.deref_mut.ensures.len in (
      take taken room,
      length-take-le taken room c.in_ok-taken.ensures.within,
      c.in_ok-taken.ensures.gives,
      c.in_ok-taken.ensures.most,
      ap (λ items. take (ahead.end + taken - ahead.start) (drop ahead.start items))
          (with_items_is ahead.block new long)
          ∙ part_and_more old room behind ahead.start ahead.end taken (omega arith)
          (omega (arith, wide)) c.in_ok-taken.ensures.within
          ∙ ap (λ items. take (ahead.end - ahead.start) (drop ahead.start items) ++ take taken room)
          c.deref_mut.ensures.value,
    )
