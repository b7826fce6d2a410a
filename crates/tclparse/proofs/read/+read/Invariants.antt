use Rattle.std.proofs.Common.{◌≡◌, ◌≤◌, ◌+◌, ◌*◌, [], length, map, true, false}
use Rattle.tclparse.specs.Normal.{all_yes, is_normal_word, is_normal_command}
use Rattle.tclparse.proofs.Normal.{IsOpen}
use Rattle.tclparse.specs.Tree.{Parts, Words, Commands, bytes_then}
use Rattle.tclparse.specs.View.{parts_then, words_then, commands_then}
use Rattle.tclparse.specs.Context.{ends_command, ends_word}
use Rattle.tclparse.specs.Piece.{ends_parts}
use Rattle.tclparse.specs.Seen.{context_of, place_of}
use Rattle.tclparse.specs.Grammar.{Outcome, IsParts, IsWords, IsCommands}
use Rattle.tclparse.proofs.read.+read.Given as goal

abbrev pub decreases-read_parts : goal.decreases-read_parts
decreases-read_parts g l = 7 * l.depth

abbrev pub decreases-read_element : goal.decreases-read_element
decreases-read_element g l = 7 * l.depth + 1

abbrev pub decreases-read_body : goal.decreases-read_body
decreases-read_body g l = 7 * l.depth + 2

abbrev pub decreases-read_word : goal.decreases-read_word
decreases-read_word g l = 7 * l.depth + 3

abbrev pub decreases-read_words : goal.decreases-read_words
decreases-read_words g l = 7 * l.depth + 4

abbrev pub decreases-read_commands : goal.decreases-read_commands
decreases-read_commands g l = 7 * l.depth + 5

abbrev pub decreases-read_bracket : goal.decreases-read_bracket
decreases-read_bracket g l = 7 * l.depth + 6

-- Whatever the rest of the text is read as, what was read so far stands before it.
abbrev pub invariant-read_parts-loop-alloc : goal.invariant-read_parts-loop-alloc
invariant-read_parts-loop-alloc g l = record {
  tree : (t : Parts) (o : Outcome) → IsParts (place_of l.place) l.depth t l.bytes o →
      IsParts (place_of l.place) l.depth (parts_then l.parts.items (bytes_then l.literal.items t))
      l.text o;
  shorter : length l.bytes ≤ length l.text;
  moves : ends_parts (place_of l.place) l.text ≡ false → length l.text ≤ length l.bytes → l.bytes
      ≡ l.text;
  normal : IsOpen l.parts.items;
}

abbrev pub decreases-read_parts-loop-alloc : goal.decreases-read_parts-loop-alloc
decreases-read_parts-loop-alloc g l = length l.bytes

abbrev pub invariant-read_words-loop-context : goal.invariant-read_words-loop-context
invariant-read_words-loop-context g l = record {
  tree : (t : Words) (o : Outcome) → IsWords (context_of l.context) l.depth t l.bytes o →
      IsWords (context_of l.context) l.depth (words_then l.words.items t) l.text o;
  begins : ends_word (context_of l.context) l.bytes ≡ ends_command (context_of l.context) l.bytes;
  shorter : length l.bytes ≤ length l.text;
  moves : length l.text ≤ length l.bytes → l.bytes ≡ l.text;
  normal : all_yes (map is_normal_word l.words.items) ≡ true;
  some : l.words.items ≡ [] → l.bytes ≡ l.text;
}

abbrev pub decreases-read_words-loop-context : goal.decreases-read_words-loop-context
decreases-read_words-loop-context g l = length l.bytes

abbrev pub invariant-read_commands-loop-context : goal.invariant-read_commands-loop-context
invariant-read_commands-loop-context g l = record {
  tree : (t : Commands) (o : Outcome) → IsCommands (context_of l.context) l.depth t l.bytes o →
      IsCommands (context_of l.context) l.depth (commands_then l.commands.items t) l.text o;
  shorter : length l.bytes ≤ length l.text;
  normal : all_yes (map is_normal_command l.commands.items) ≡ true;
}

abbrev pub decreases-read_commands-loop-context : goal.decreases-read_commands-loop-context
decreases-read_commands-loop-context g l = length l.bytes
