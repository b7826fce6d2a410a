use Rattle.std.specs.Option.{option_copied}
use Rattle.arguments.specs.Arguments.{texts}
use Rattle.explain.proofs.Fronts.{asks_none, asks_only}
use Rattle.explain.proofs.asked.asked_by.Goals as goal

pub returns-clause-asks : goal.returns-clause-asks
returns-clause-asks c =
    let front = c.front_of-detail.result in
    let (call, one, holds) = c.in_ok-call.ensures.call in (
      call,
      asks_only (texts c.args.words.now) (texts front.2.now) (option_copied front.0) front.1 call
          c.front_of-detail.ensures one,
      holds,
    )

pub returns-in_err-call-clause-none : goal.returns-in_err-call-clause-none
returns-in_err-call-clause-none c =
    let front = c.front_of-detail.result in
    asks_none (texts c.args.words.now) (texts front.2.now) (option_copied front.0) front.1
    c.front_of-detail.ensures c.in_err-call.ensures.none c.from_residual.result
