use Rattle.std.proofs.Common.{List, ℕ, subst}
use Rattle.searches.proofs.Leads.{found_on, nowhere_on}
use Rattle.patterns.specs.Match.{IsFound, SitsNowhere}
use Rattle.searches.proofs.lead.find_from.Goals as goal

pub returns-in-None : goal.returns-in-None
returns-in-None g c =
    let p = c.args.pattern.now in
    record {
      found = nowhere_on p c.args.window.now c.args.from c.requires.start c.requires.low
          (subst (λ (w : List ℕ). SitsNowhere p w) c.split_at.ensures.back
          (rw c.in-None.is at c.find.ensures.found));
    }

pub returns-in-Some : goal.returns-in-Some
returns-in-Some g c =
    let p = c.args.pattern.now in
    let found = c.in-Some.found in
    record {
      found = found_on p c.args.window.now c.args.from found.start found.end c.requires.start
          c.requires.inside c.requires.low
          (subst (λ (w : List ℕ). IsFound p w found.start found.end) c.split_at.ensures.back
          (rw c.in-Some.is at c.find.ensures.found));
    }
