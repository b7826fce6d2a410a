use Rattle.std.proofs.Common.{◌≡◌, ◌++◌, List, length, flat_map}
use Rattle.arguments.specs.Arguments.{Setting, spelled, texts}
use Rattle.arguments.specs.Options.{AreOptions}
use Rattle.arguments.proofs.arguments.options_of.Given as goal

-- the words that were read so far are options, and the rest of the words is after them
abbrev pub invariant-options : goal.invariant-options
invariant-options g l =
    (settings : List Setting)
    × (texts l.fn.words ≡ flat_map spelled settings ++ texts l.rest)
    × AreOptions l.options settings

abbrev pub decreases-options : goal.decreases-options
decreases-options g l = length l.rest
