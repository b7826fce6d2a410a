use Rattle.std.proofs.Common.{◌≡◌, ◌++◌, drop}
use Rattle.tcltext.specs.Seen.{texts}
use Rattle.readings.specs.Reads.{AreSmall}
use Rattle.readings.proofs.IdLists.{texts_of}
use Rattle.readings.proofs.id_list.spelled_ids.Given as goal

-- the texts of the ids so far, and the words still to be read
abbrev pub invariant-loop-word : goal.invariant-loop-word
invariant-loop-word g l = record {
  texts : texts_of l.ids.items ++ texts (drop l.word-index l.words) ≡ texts l.words;
  small : AreSmall l.ids.items;
}
