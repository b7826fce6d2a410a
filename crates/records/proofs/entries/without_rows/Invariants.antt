use Rattle.std.proofs.Common.{◌≡◌, ◌++◌, length, map}
use Rattle.std.specs.Vec.Iter.{into_iter_items, into_iter_len}
use Rattle.acts.specs.Deed.{reply_of}
use Rattle.records.specs.Entry.{note_of, plain_note}
use Rattle.records.proofs.entries.without_rows.Given as goal

abbrev pub invariant-loop-answer : goal.invariant-loop-answer
invariant-loop-answer g l =
    (l.yielded ++ into_iter_items l.answer-iterator ≡ into_iter_items l.initial.answer-iterator)
    × (map note_of l.entries.items ≡ map plain_note (map reply_of l.yielded))
    × (into_iter_len l.answer-iterator ≡ length (into_iter_items l.answer-iterator))
