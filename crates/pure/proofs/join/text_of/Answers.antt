use Rattle.std.proofs.Common.{Ok, rules}
use Rattle.pure.specs.Join.{text_of}
use Rattle.meanings.proofs.Splits.{no_list}
use Rattle.pure.proofs.join.text_of.Goals as goal

pub returns-in_err-joined : goal.returns-in_err-joined
returns-in_err-joined g c =
    no_list c.args.list.now (text_of c.args.separator.now) c.from_residual.result
    c.in_err-joined.field-0.0 c.in_err-joined.ensures.fault c.from_residual.ensures.1

pub returns : goal.returns
returns g c = let read = c.in_ok-joined.ensures.joined in (Ok read.0, read.1, search rules)
