use Rattle.code.proofs.Branching.{body_there}
use Rattle.code.proofs.branches.with_body.Goals as goal

pub returns-clause-front : goal.returns-clause-front
returns-clause-front g c =
    body_there c.args.test.now c.args.words.now c.body-item.result c.in-len1-up.len_at_least
    c.body-item.is
