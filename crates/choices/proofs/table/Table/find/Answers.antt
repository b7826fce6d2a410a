use Rattle.std.proofs.Common.{ap}
use Rattle.choices.specs.Branches.{Sought}
use Rattle.choices.specs.Lines.{row_of_line}
use Rattle.choices.proofs.Finds.{in_line, no_line}
use Rattle.choices.proofs.Lines.{at_in, absent_in}
use Rattle.choices.proofs.Rising.{sound_kept}
use Rattle.choices.proofs.table.Table.find.Goals as goal

pub returns-in_default-clause-found : goal.returns-in_default-clause-found
returns-in_default-clause-found g c =
    no_line (Sought c.args.pattern.now) _
    (absent_in c.args.id c.args.self.now.lines (λ l. l) c.in_default.ensures.place).no_line

pub returns-clause-found : goal.returns-clause-found
returns-clause-found g c =
    let found = at_in c.args.id c.args.self.now.lines c.self.inside.entries.items c.in-Some.place
    c.index_mut.result.now (ap (λ t. t.lines) c.self.view_is) c.in-Some.ensures.place
    c.index_mut.ensures.value in
    in_line c.args.pattern.now _ _ _ found c.search.ensures.found

pub invariant_of-self : goal.invariant_of-self
invariant_of-self g c =
    sound_kept c.self.inside.entries.items c.self.inside.rows.items c.self.inside.next
    c.in-Some.place c.index_mut.result.now c.search.new.self c.index_mut.ensures.value
    (ap (λ l. l.id) c.search.ensures.unchanged) (ap row_of_line c.search.ensures.unchanged)
    c.self.invariant
