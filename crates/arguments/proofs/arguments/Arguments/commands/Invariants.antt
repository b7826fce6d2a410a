use Rattle.std.proofs.Common.{◌≡◌, ◌++◌, List, length, flat_map}
use Rattle.arguments.specs.Arguments.{Command, Setting, lines, spelled, texts, values}
use Rattle.arguments.proofs.arguments.Arguments.commands.Given as goal

-- the lines of the options that were read are written, and the rest of the words is after them
abbrev pub invariant-options : goal.invariant-options
invariant-options g l =
    (settings : List Setting)
    × (texts l.self.options.now ≡ flat_map spelled settings ++ texts l.rest)
    × (l.text.items ≡ lines (values Command settings))

abbrev pub decreases-options : goal.decreases-options
decreases-options g l = length l.rest
