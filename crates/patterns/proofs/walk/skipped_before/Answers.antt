use Rattle.std.proofs.Common.{ℕ, arith}
use Rattle.patterns.specs.Runs.{items_of_run}
use Rattle.patterns.proofs.Places.{skipped_first, skipped_all}
use Rattle.patterns.proofs.walk.skipped_before.Goals as goal

pub returns-in-Some-find_byte-clause-none : goal.returns-in-Some-find_byte-clause-none
returns-in-Some-find_byte-clause-none g c =
    let skips = skipped_first (items_of_run c.args.run.now) c.in-Some.byte c.args.window.now
    c.part.result c.args.place c.args.end c.in-Some-find_byte.skipped c.requires.some
    c.requires.ordered c.requires.within c.part.ensures c.in-Some.ensures
    c.in-Some-find_byte.ensures.0 in
    skips.1

pub returns-in-None-clause-none : goal.returns-in-None-clause-none
returns-in-None-clause-none g c = λ (k : ℕ) low below.
    skipped_all (items_of_run c.args.run.now) c.in-Some.byte c.args.window.now
    c.part.result c.args.place c.args.end c.requires.some c.requires.ordered c.requires.within
    c.part.ensures c.in-Some.ensures c.in-None.ensures k low (omega arith)
