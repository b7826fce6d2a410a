use Rattle.nesting.proofs.Calling.{none_left}
use Rattle.nesting.proofs.calls.bind_rest.Goals as goal

pub returns-in-len1-up : goal.returns-in-len1-up
returns-in-len1-up g c =
    none_left c.args.takes_rest c.args.words.now c.args.frame.now c.if-takes_rest.false
    c.in-len1-up.len_at_least
