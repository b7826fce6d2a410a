use Rattle.std.proofs.Common.{ap, sym}
use Rattle.choices.specs.Lines.{dropping, row_of_line}
use Rattle.choices.proofs.Changes.{fits_setting}
use Rattle.choices.proofs.Lines.{put_in, absent_in}
use Rattle.choices.proofs.Rising.{sound_kept}
use Rattle.choices.proofs.table.Table.set_nulls.Goals as goal

pub returns-in-Some-clause-lines : goal.returns-in-Some-clause-lines
returns-in-Some-clause-lines g c =
    put_in c.args.id c.args.self.now.lines c.self.inside.entries.items c.in-Some.place
    c.index_mut.result.now c.set_nulls.new.self (dropping c.args.drops)
    (ap (λ t. t.lines) c.self.view_is) c.in-Some.ensures.place c.index_mut.ensures.value
    c.set_nulls.ensures

pub returns-in-Some-clause-fits : goal.returns-in-Some-clause-fits
returns-in-Some-clause-fits g c =
    fits_setting c.args.drops c.args.id c.args.self.now.lines _ (returns-in-Some-clause-lines g c)

pub returns-in_default-clause-lines : goal.returns-in_default-clause-lines
returns-in_default-clause-lines g c =
    sym (absent_in c.args.id c.args.self.now.lines (dropping c.args.drops)
    c.in_default.ensures.place).unchanged

pub returns-in_default-clause-fits : goal.returns-in_default-clause-fits
returns-in_default-clause-fits g c =
    fits_setting c.args.drops c.args.id c.args.self.now.lines _ (returns-in_default-clause-lines g c)

pub invariant_of-self : goal.invariant_of-self
invariant_of-self g c =
    sound_kept c.self.inside.entries.items c.self.inside.rows.items c.self.inside.next
    c.in-Some.place c.index_mut.result.now c.set_nulls.new.self c.index_mut.ensures.value
    (ap (λ l. l.id) c.set_nulls.ensures) (ap row_of_line c.set_nulls.ensures) c.self.invariant
