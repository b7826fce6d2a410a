use Rattle.std.proofs.Common.{◌≡◌, false, rules, subst, true}
use Rattle.steps.specs.View.{IsCall, is_call}
use Rattle.steps.proofs.AtOnce.{begun_stops, over_stops}
use Rattle.steps.proofs.Goes.{begun, not_begun}
use Rattle.steps.proofs.run.Run.stop.Goals as goal

pub returns-then-not-is_call-clause-stops : goal.returns-then-not-is_call-clause-stops
returns-then-not-is_call-clause-stops g c = λ last state p came.
    let none : is_call c.args.progress ≡ false = search rules in
    over_stops last c.args.progress c.args.self.now state p (not_begun c.args.progress none) came

pub returns-clause-stops : goal.returns-clause-stops
returns-clause-stops g c = λ last state p came.
    let some : is_call c.args.progress ≡ true = search rules in
    begun_stops last c.args.progress c.args.self.now c.take_words.new.self state state p
    (begun c.args.progress some) came came.fits
    c.in_ok-take_words.ensures.words c.in_ok-take_words.ensures.stands

pub returns-clause-outcome : goal.returns-clause-outcome
returns-clause-outcome g c = λ over.
    let some : is_call c.args.progress ≡ true = search rules in
    absurd (subst IsCall over (begun c.args.progress some))
