use Rattle.std.proofs.Common.{◌≡◌, ◌++◌, ◌∷◌, [], refl, ap, rules}
use Rattle.acts.specs.Deed as said
use Rattle.runs.specs.Closing.{does, ends_with, reported}
use Rattle.steps.proofs.Leads.Silent.{same_goes}
use Rattle.machine.proofs.closing.report.Goals as goal

pub returns-clause-stands : goal.returns-clause-stands
returns-clause-stands g c = λ frames last s answers state fits.
    let text = c.args.text.items in
    let line : text ++ 10 ∷ [] ≡ c.push.new.self.items = search rules in
    record {
      status = s;
      fits = fits;
      plan = _;
      is_plan = refl;
      goes = same_goes
          (ap (λ bytes. does (said.Err bytes) (λ reply. ends_with (reported text reply) s)) line);
    }
