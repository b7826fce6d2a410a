use Rattle.std.proofs.Common.{Ok, rules}
use Rattle.pure.specs.Llength.{count}
use Rattle.meanings.proofs.Splits.{no_list}
use Rattle.pure.proofs.llength.count.Goals as goal

pub returns-in_err-len : goal.returns-in_err-len
returns-in_err-len g c =
    no_list c.args.list.now count c.from_residual.result c.in_err-len.field-0.0
    c.in_err-len.ensures.fault c.from_residual.ensures.1

pub returns : goal.returns
returns g c = let read = c.in_ok-len.ensures.len in (Ok read.0, read.1, search rules)
