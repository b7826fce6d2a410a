use Rattle.std.proofs.Common.{List, ℕ, length, sym, ap, refl, subst}
use Rattle.searches.proofs.Leads.{text_run}
use Rattle.searches.specs.Lead.{IsNeeded, IsRun}
use Rattle.patterns.specs.Glob.{exact}
use Rattle.searches.proofs.lead.Lead.of_needs.Goals as goal

pub returns : goal.returns
returns g c =
    let text = c.in_ok-text.text in
    record {
      lead = record {
        run = subst (IsRun (exact text)) (ap length (sym c.as_slice-size.ensures)) (text_run text);
        seeks = (
          refl,
          subst (λ (t : List ℕ). IsNeeded (exact t) c.args.pattern.now)
              (sym c.in_ok-text.ensures) c.needs.ensures,
        );
      };
    }
