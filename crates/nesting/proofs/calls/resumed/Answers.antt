use Rattle.std.proofs.Common.{◌∙◌, sym, ap}
use Rattle.nesting.specs.Calls as definition
use Rattle.state.specs.Prelude.{Ends, Course, outcome_of}
use Rattle.state.proofs.Fits.{scopes_fit}
use Rattle.nesting.proofs.Nestings.{over}
use Rattle.tclstate.specs.Scopes.{popped}
use Rattle.nesting.proofs.calls.resumed.Goals as goal

pub returns-clause-nests : goal.returns-clause-nests
returns-clause-nests g c = λ s fits.
    let new = c.pop_frame.new.self in
    let last = definition.ended (outcome_of c.args.outcome) in
    over definition.next_of _ c.in_ok-ended.field-0 last (record s { scopes = new }) _
    (scopes_fit c.args.state.now s fits new) c.in_ok-ended.ensures
    (ap (λ scopes. let c : Course = Ends (record s { scopes = scopes }, last) in c)
    (ap popped fits.scopes ∙ sym c.pop_frame.ensures))
