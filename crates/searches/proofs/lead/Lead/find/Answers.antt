use Rattle.searches.proofs.Leads.{finds_behind}
use Rattle.searches.proofs.lead.Lead.find.Goals as goal

pub returns-in-Around : goal.returns-in-Around
returns-in-Around g c =
    let lead = c.args.self.now in
    record {
      found = finds_behind lead.key c.args.pattern.now lead.seeker c.args.window.now c.args.from
          c.find_behind.result c.in-Around.is c.requires.lead.run.at_start c.requires.low
          c.requires.lead.seeks c.find_behind.ensures;
    }
