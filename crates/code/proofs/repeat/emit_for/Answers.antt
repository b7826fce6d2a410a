use Rattle.std.proofs.Common.{rules, subst}
use Rattle.code.proofs.Turns.{for_block}
use Rattle.code.specs.Blocks.{TurnsBlock}
use Rattle.code.proofs.repeat.emit_for.Goals as goal

pub returns : goal.returns
returns g c = λ step is formula.
    let own = c.args.own.now in
    let dropped = c.push.new.self.items in
    let new = c.emit_turns.new.code.items in
    for_block c.args.code.now.items c.put_body.new.code.items dropped new own.start
    own.turns.test step own.turns.body (search rules) (search rules)
    (subst (λ s. TurnsBlock dropped new own.turns.test s own.turns.body) is
    (c.in_ok-emit_turns.ensures formula))
