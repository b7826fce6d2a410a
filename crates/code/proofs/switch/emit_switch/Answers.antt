use Rattle.std.proofs.Common.{◌≡◌, rules, sym, subst}
use Rattle.code.proofs.Choices.{switch_block}
use Rattle.code.specs.Blocks.{RestBlock}
use Rattle.code.specs.Switch.{AreWhole, are_globs}
use Rattle.code.proofs.switch.emit_switch.Goals as goal

pub returns : goal.returns
returns g c = λ are whole.
    let own = c.args.own in
    let arms = own.arms.items in
    let globs = c.globs.ensures in
    let same : c.deref.result.now ≡ arms = search rules in
    switch_block c.args.code.now.items c.push.new.self.items c.emit_rest.new.code.items
    c.fill.new.code.items own.options own.after arms are (search rules)
    (subst (λ ws. RestBlock (are_globs own.options.flag) c.push.new.self.items
    c.emit_rest.new.code.items ws) same
    (subst (λ b. RestBlock b c.push.new.self.items c.emit_rest.new.code.items c.deref.result.now)
    globs
    (c.in_ok-emit_rest.ensures (subst (λ b. AreWhole b c.deref.result.now) (sym globs)
    (subst (λ ws. AreWhole (are_globs own.options.flag) ws) (sym same) whole)))))
    (search rules)
