use Rattle.std.proofs.Common.{◌≡◌, true, drop}
use Rattle.code.proofs.Commands.{CommandsLeft, WordsLeft}
use Rattle.code.proofs.Parts.{PartsLeft}
use Rattle.tclparse.specs.Tree.{no_commands, no_parts, no_words}
use Rattle.tclparse.specs.View.{commands_then, parts_then, words_then}
use Rattle.code.proofs.emit.+emit.Given as goal

abbrev pub invariant-emit_values-loop-count : goal.invariant-emit_values-loop-count
invariant-emit_values-loop-count g l =
    WordsLeft l.fn.counted l.counts l.count l.fn.code.items l.code.items
    (words_then (drop l.count l.words) no_words) (words_then l.words no_words)
    × (l.fn.counted ≡ true → l.counts ≡ true)

abbrev pub invariant-emit_commands-loop-command : goal.invariant-emit_commands-loop-command
invariant-emit_commands-loop-command g l =
    CommandsLeft l.fn.code.items l.code.items
    (commands_then (drop l.command-index l.commands) no_commands)
    (commands_then l.commands no_commands)

abbrev pub invariant-emit_parts-loop-part : goal.invariant-emit_parts-loop-part
invariant-emit_parts-loop-part g l =
    PartsLeft l.fn.code.items l.code.items
    (parts_then (drop l.part-index l.rest) no_parts) (parts_then l.parts no_parts)
