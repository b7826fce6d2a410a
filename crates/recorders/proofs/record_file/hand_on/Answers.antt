use Rattle.std.proofs.Common.{sym, ◌∙◌, take, append-nil, take-append-drop}
use Rattle.recorders.proofs.record_file.hand_on.Goals as goal

pub returns-clause-gathers : goal.returns-clause-gathers
returns-clause-gathers g c =
    let gathered = c.args.gathered.now.bytes.items in
    let gone = c.put_count-gone.result in (
      take gone c.bytes.result.now,
      c.put_count-gone.ensures.gets,
      rw (c.bytes.ensures.bytes, c.drop_front.ensures)
          (append-nil gathered ∙ sym (take-append-drop gone gathered)),
    )
