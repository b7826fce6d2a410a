use Rattle.std.proofs.Common.{subst}
use Rattle.engine.specs.Session.{Tells}
use Rattle.engine.proofs.Sessions.{either_asks, either_given, session_tells}
use Rattle.engine.proofs.session.Session.step.Goals as goal

pub returns-in-Over-clause-tells : goal.returns-in-Over-clause-tells
returns-in-Over-clause-tells g c = λ text args limit past at.
    let self = c.args.self.now in
    subst (λ phase. Tells phase text args limit past) c.in-Over.is
    (session_tells self text args limit past c.requires at)

pub returns-in-Asks-clause-tells : goal.returns-in-Asks-clause-tells
returns-in-Asks-clause-tells g c = λ text args limit past at.
    let self = c.args.self.now in
    either_asks self.phase c.in-Asks.act text args limit past c.in-Asks.is
    (session_tells self text args limit past c.requires at)

pub returns-in-Asks-clause-given : goal.returns-in-Asks-clause-given
returns-in-Asks-clause-given g c =
    either_given c.args.self.now.phase c.in-Asks.act c.in-Asks.is
