use Rattle.readings.proofs.IdLists.{texts_of, not_spelled, word_more, still_small, all_spelled, none_spelled}
use Rattle.readings.proofs.id_list.spelled_ids.Goals as goal

pub returns-then-is_empty : goal.returns-then-is_empty
returns-then-is_empty g c = none_spelled c.args.words.now c.if-is_empty.ensures

pub returns-in_default : goal.returns-in_default
returns-in_default g c =
    not_spelled c.args.words.now c.loop-word.word-index c.word-item.result c.deref.result.now
    (texts_of c.loop-word.ids.items) c.loop-word-test.true c.word-item.is
    c.deref.ensures.value c.loop-word.invariant.texts c.in_default.ensures.none

pub loop-word-preserved : goal.loop-word-preserved
loop-word-preserved g c = record {
  texts = word_more c.args.words.now c.loop-word.word-index c.word-item.result
      c.deref.result.now c.loop-word.ids.items c.push_id.new.ids.items c.in-Some.id
      c.loop-word-test.true c.word-item.is c.deref.ensures.value c.loop-word.invariant.texts
      c.in_ok-push_id.ensures.items c.in-Some.ensures.spelled;
  small = still_small c.loop-word.ids.items c.push_id.new.ids.items c.in-Some.id
      c.loop-word.invariant.small c.in_ok-push_id.ensures.items c.push_id.ensures.small;
}

pub returns : goal.returns
returns g c = all_spelled c.args.words.now c.loop-word.ids.items c.loop-word.word-index
    c.if-is_empty.ensures c.loop-word-test.false c.loop-word.invariant.texts
    c.loop-word.invariant.small
