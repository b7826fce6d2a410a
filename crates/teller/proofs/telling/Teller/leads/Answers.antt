use Rattle.std.proofs.Common.{◌≡◌, ap, sym, subst}
use Rattle.std.proofs.lemmas.Result.{IfOk-weaker}
use Rattle.std.specs.Prelude.{IfOk, is_some}
use Rattle.teller.specs.Asked.{is_asked}
use Rattle.teller.proofs.telling.Teller.leads.Goals as goal

pub returns-in-Has : goal.returns-in-Has
returns-in-Has g c = record {
  asked = λ whole.
      subst (λ leaf. IfOk c.outcome_lines.result (λ x. is_some c.outcome_lines.new.self.asked
      ≡ is_asked leaf)) (sym c.in-Has.is)
      (IfOk-weaker c.outcome_lines.result _ _ (λ x none. ap is_some none)
      c.outcome_lines.ensures);
}

pub returns-in-Asks : goal.returns-in-Asks
returns-in-Asks g c = record {
  asked = λ whole.
      subst (λ leaf. IfOk c.act_lines.result (λ x. is_some c.act_lines.new.self.asked
      ≡ is_asked leaf)) (sym c.in-Asks.is) (c.act_lines.ensures whole);
}
