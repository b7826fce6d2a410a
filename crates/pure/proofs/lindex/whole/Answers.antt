use Rattle.std.proofs.Common.{Ok, rules}
use Rattle.pure.specs.Lindex.{as_it_stands}
use Rattle.meanings.proofs.Splits.{no_list}
use Rattle.pure.proofs.lindex.whole.Goals as goal

pub returns-in_err-list_len : goal.returns-in_err-list_len
returns-in_err-list_len g c =
    no_list c.args.list.now (as_it_stands c.args.list.now) c.from_residual.result
    c.in_err-list_len.field-0.0 c.in_err-list_len.ensures.fault c.from_residual.ensures.1

pub returns : goal.returns
returns g c = let read = c.in_ok-list_len.ensures.len in (Ok read.0, read.1, search rules)
