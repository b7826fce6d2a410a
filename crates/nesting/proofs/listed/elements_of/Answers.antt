use Rattle.std.proofs.Common.{subst}
use Rattle.meanings.specs.View.{IsNoList}
use Rattle.state.proofs.Listed.{list_reaches, no_list_reaches}
use Rattle.nesting.proofs.listed.elements_of.Goals as goal

pub returns-in-Ok : goal.returns-in-Ok
returns-in-Ok g c = λ s next.
    list_reaches c.args.text.now s next c.in-Ok.elements.items c.in-Ok.ensures.list

pub returns-in-Err-Fault : goal.returns-in-Err-Fault
returns-in-Err-Fault g c = λ s next.
    no_list_reaches c.args.text.now s next c.in-Err-Fault.fault
    (subst (λ why. IsNoList c.args.text.now why) c.in-Err-Fault.field-0-is
    c.in-Err-Fault.ensures.fault)
