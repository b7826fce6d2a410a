use Rattle.std.proofs.Common.{refl}
use Rattle.nesting.proofs.Nestings.{nests_from, on_ok, over}
use Rattle.nesting.specs.Looping.{next_of, turns_left}
use Rattle.state.specs.View.{outcome_of}
use Rattle.nesting.proofs.foreach.resumed.Goals as goal

pub returns-in-Some-clause-nests : goal.returns-in-Some-clause-nests
returns-in-Some-clause-nests g c = λ s fits.
    over next_of c.args.state.now c.in-Some.end (outcome_of c.in-Some.end) s _ fits refl
    (c.in-Some.ensures (turns_left c.args.held) s)

pub returns-in-None-clause-nests : goal.returns-in-None-clause-nests
returns-in-None-clause-nests g c = λ s fits.
    on_ok c.turn.result (λ nesting nests.
    nests_from next_of c.turn.new.state nesting _ _ (c.in-None.ensures (turns_left c.args.held) s)
    nests)
    (c.turn.ensures.nests s fits)
