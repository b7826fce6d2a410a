use Rattle.std.proofs.Common.{◌∙◌, sym}
use Rattle.steps.specs.View.{spot_of}
use Rattle.steps.proofs.Does.{same_does}
use Rattle.steps.proofs.Meanings.{numeral_fails, numeral_put}
use Rattle.steps.proofs.operating.number.Goals as goal

pub returns-in_ok-put_shared-in-Some-clause-does :
    goal.returns-in_ok-put_shared-in-Some-clause-does
returns-in_ok-put_shared-in-Some-clause-does g c = λ s.
    same_does (c.in_ok-put_shared-in-Some.ensures.does s
    ∙ sym (numeral_put c.args.digits.now c.in-Some.field-0 (spot_of c.args.spot.now) s
    (sym c.number_in.ensures ∙ c.in-Some.is)))

pub returns-in_ok-refuse_numeral-in-None-clause-does :
    goal.returns-in_ok-refuse_numeral-in-None-clause-does
returns-in_ok-refuse_numeral-in-None-clause-does g c = λ s.
    same_does (c.in_ok-refuse_numeral-in-None.ensures.does s
    ∙ sym (numeral_fails c.args.digits.now (spot_of c.args.spot.now) s
    (sym c.number_in.ensures ∙ c.in-None.is)))
