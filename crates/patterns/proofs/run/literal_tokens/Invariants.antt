use Rattle.std.proofs.Common.{◌≡◌, map, take}
use Rattle.patterns.specs.Item.{literal}
use Rattle.patterns.specs.Runs.{items_of}
use Rattle.patterns.proofs.run.literal_tokens.Given as goal

abbrev pub invariant-loop-byte : goal.invariant-loop-byte
invariant-loop-byte g l = items_of l.tokens.items ≡ map literal (take l.byte-index l.text)
