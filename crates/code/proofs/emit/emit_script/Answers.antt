use Rattle.std.proofs.Common.{option_map, rules, ap, subst, sym}
use Rattle.code.proofs.Scripts.{with_fault, without_fault}
use Rattle.code.specs.Blocks.{CommandsBlock, ScriptBlock}
use Rattle.tclparse.specs.Seen.{fault_of}
use Rattle.tclparse.specs.View.{commands_of}
use Rattle.code.proofs.emit.emit_script.Goals as goal

pub returns-in_ok-push : goal.returns-in_ok-push
returns-in_ok-push g c =
    let cs = commands_of c.args.script.now.commands in
    let old = c.args.code.now.items in
    let between = c.emit_commands.new.code.items in
    let new = c.push.new.self.items in
    let block : CommandsBlock old between cs = search rules in
    subst (λ f. ScriptBlock old new cs f) (sym (ap (option_map fault_of) c.in-Some.is))
    (with_fault old between new cs c.in-Some.fault block (search rules))

pub returns-in_default : goal.returns-in_default
returns-in_default g c =
    let cs = commands_of c.args.script.now.commands in
    let old = c.args.code.now.items in
    let new = c.emit_commands.new.code.items in
    let block : CommandsBlock old new cs = search rules in
    subst (λ f. ScriptBlock old new cs f) (sym (ap (option_map fault_of) c.in_default.is))
    (without_fault old new cs block)
