use Rattle.std.proofs.Common.{ℕ, arith}
use Rattle.patterns.specs.Runs.{items_of_run}
use Rattle.patterns.proofs.Places.{skipped_last, skipped_all}
use Rattle.patterns.proofs.walk.skipped_after.Goals as goal

pub returns-in-Some-rfind_byte-clause-none : goal.returns-in-Some-rfind_byte-clause-none
returns-in-Some-rfind_byte-clause-none g c =
    let skips = skipped_last (items_of_run c.args.run.now) c.in-Some.byte c.args.window.now
    c.part.result c.args.from c.args.end c.in-Some-rfind_byte.last c.requires.some
    c.requires.ordered c.requires.within c.part.ensures c.in-Some.ensures
    c.in-Some-rfind_byte.ensures.0 in
    λ (k : ℕ) low below. skips.1 k (omega (arith, skips.0)) below

pub returns-in-None-clause-none : goal.returns-in-None-clause-none
returns-in-None-clause-none g c = λ (k : ℕ) low below.
    skipped_all (items_of_run c.args.run.now) c.in-Some.byte c.args.window.now
    c.part.result c.args.from c.args.end c.requires.some c.requires.ordered c.requires.within
    c.part.ensures c.in-Some.ensures c.in-None.ensures k (omega arith) below
