use Rattle.std.proofs.Common.{length, option_map, subst}
use Rattle.code.proofs.Built.{all_kept}
use Rattle.code.specs.Code.{ScriptAt}
use Rattle.tclparse.specs.Seen.{fault_of}
use Rattle.tclparse.specs.View.{commands_of}
use Rattle.code.proofs.whole.code_of.Goals as goal

pub returns : goal.returns
returns g c =
    let new = c.emit_script.new.code.items in
    let script = c.args.script.now in
    subst (λ old. ScriptAt new (length old) (commands_of script.commands)
    (option_map fault_of script.fault) (length new))
    c.new-code.ensures.items (c.in_ok-emit_script.ensures.lies new (all_kept new))
