use Rattle.std.proofs.Common.{◌∙◌, IsTrue, sym, subst}
use Rattle.patterns.specs.Item.{Reading}
use Rattle.patterns.specs.Match.{IsFound}
use Rattle.searches.specs.Lead.{is_all}
use Rattle.searches.proofs.Leads.{all_is}
use Rattle.searches.proofs.searched.Searched.search_by.Goals as goal

pub returns-then-is_all-clause-found : goal.returns-then-is_all-clause-found
returns-then-is_all-clause-found g c =
    let found = c.in_ok-first.first in
    let lead = c.args.lead.now in
    let all : IsTrue (is_all lead.seeker) = sym c.is_all.ensures ∙ c.if-is_all.true in
    subst (λ (p : Reading). IsFound p c.args.self.now.bytes found.start found.end)
    (sym (all_is lead.key c.args.pattern.now lead.seeker c.requires.seeks all))
    (c.in_ok-first.ensures.found all)
