use Rattle.std.proofs.Common.{option_map, rules}
use Rattle.code.proofs.Inners.{body_block}
use Rattle.tclparse.specs.Seen.{fault_of}
use Rattle.tclparse.specs.View.{commands_of}
use Rattle.code.proofs.inner.emit_body.Goals as goal

pub returns : goal.returns
returns g c =
    let script = c.in_ok-script.script in
    body_block c.args.code.now.items c.push.new.self.items c.emit_script.new.code.items
    c.push-2.new.self.items (commands_of script.commands) (option_map fault_of script.fault)
    c.args.text.now c.args.after (search rules) (search rules) c.in_ok-emit_script.ensures
    (search rules)
