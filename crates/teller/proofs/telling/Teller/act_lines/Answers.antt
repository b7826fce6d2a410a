use Rattle.std.proofs.Common.{◌≡◌, ap, sym, subst}
use Rattle.std.proofs.lemmas.Result.{IfOk-weaker}
use Rattle.std.specs.Prelude.{IfOk, is_some}
use Rattle.teller.specs.Asked.{is_of_command}
use Rattle.teller.proofs.telling.Teller.act_lines.Goals as goal

pub returns-in-Command : goal.returns-in-Command
returns-in-Command g c = λ whole.
    subst (λ waits. IfOk c.ask.result (λ x. is_some c.ask.new.self.asked ≡ is_of_command waits))
    (sym c.in-Command.is) (c.ask.ensures whole)

pub returns-in-Turn : goal.returns-in-Turn
returns-in-Turn g c = λ whole.
    subst (λ waits. IfOk c.turn_lines.result (λ x. is_some c.turn_lines.new.self.asked
    ≡ is_of_command waits)) (sym c.in-Turn.is)
    (IfOk-weaker c.turn_lines.result _ _ (λ x none. ap is_some none) c.turn_lines.ensures)
