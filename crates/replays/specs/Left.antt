-- The part of a record that was not replayed yet.
use Rattle.std.specs.Prelude.{ℕ, List, map}
use Rattle.std.specs.Vec.Iter.{into_iter_items, into_iter_len}
use Rattle.acts.specs.Deed.{reply_of}
use Rattle.records.specs.Entry.{Note, note_of, plain_note}
use Rattle.replays.specs.declared.left.Left.{Left}
use Rattle.replays.specs.declared.left.Left.TheVariants.{Answers, Entries}

-- the entries that were not given yet
abbrev pub left_in : {A : Type 0} → Left A → List Note
left_in (Answers answers) = map plain_note (map reply_of (into_iter_items answers))
left_in (Entries entries) = map note_of (into_iter_items entries)

-- how many entries were not given yet
abbrev pub left_len : {A : Type 0} → Left A → ℕ
left_len (Answers answers) = into_iter_len answers
left_len (Entries entries) = into_iter_len entries
