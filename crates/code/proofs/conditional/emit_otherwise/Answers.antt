use Rattle.std.proofs.Common.{rules}
use Rattle.code.proofs.Conditionals.{last_block, none_block}
use Rattle.code.proofs.conditional.emit_otherwise.Goals as goal

pub returns-in_ok-put_body-in-Some : goal.returns-in_ok-put_body-in-Some
returns-in_ok-put_body-in-Some g c =
    last_block c.args.code.now.items c.put_body.new.code.items c.in-Some.body
    c.args.otherwise.now c.in-Some.is (search rules)

pub returns-in_ok-push-in-None : goal.returns-in_ok-push-in-None
returns-in_ok-push-in-None g c =
    none_block c.args.code.now.items c.push.new.self.items c.args.otherwise.now c.in-None.is
    (search rules)
