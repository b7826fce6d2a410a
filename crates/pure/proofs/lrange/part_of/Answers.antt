use Rattle.std.proofs.Common.{◌∙◌, take, drop, Ok, ap}
use Rattle.meanings.proofs.Splits.{no_list}
use Rattle.pure.proofs.Fixed.{part_there}
use Rattle.pure.proofs.lrange.part_of.Goals as goal
use Rattle.pure.specs.Lrange.{part}
use Rattle.tcltext.specs.Canonical.{canonical}

pub returns-in_err-range_of-in-Some-Some : goal.returns-in_err-range_of-in-Some-Some
returns-in_err-range_of-in-Some-Some g c =
    no_list c.args.list.now (part c.args.first.now c.args.last.now) c.from_residual.result
    c.in_err-range_of-in-Some-Some.field-0.0 c.in_err-range_of-in-Some-Some.ensures.fault
    c.from_residual.ensures.1

pub returns-in_ok-range_of-in-Some-Some : goal.returns-in_ok-range_of-in-Some-Some
returns-in_ok-range_of-in-Some-Some g c =
    let read = c.in_ok-range_of-in-Some-Some.ensures.list in (
      Ok read.0,
      read.1,
      part_there read.0 c.args.first.now c.args.last.now c.in-Some-Some.from c.in-Some-Some.to _
          c.in-Some-Some.ensures.place c.in-Some-Some.ensures'.place
          (read.2
          ∙ ap (λ n. canonical (take n (drop c.in-Some-Some.from read.0))) c.saturating_sub.ensures),
    )
