use Rattle.std.proofs.Common.{ap, sym}
use Rattle.choices.specs.Lines.{reached}
use Rattle.choices.proofs.Changes.{fits_arrival}
use Rattle.choices.proofs.Lines.{put_in, absent_in}
use Rattle.choices.proofs.Rising.{sound_set}
use Rattle.choices.proofs.table.Table.arrive.Goals as goal

pub returns-in-Some-clause-lines : goal.returns-in-Some-clause-lines
returns-in-Some-clause-lines g c =
    put_in c.args.id c.args.self.now.lines c.self.inside.entries.items c.in-Some.place
    c.index_mut-heard.result.now c.arrive.new.self (reached c.args.bytes.now)
    (ap (λ t. t.lines) c.self.view_is) c.in-Some.ensures.place c.index_mut-heard.ensures.value
    c.arrive.ensures

pub returns-in-Some-clause-fits : goal.returns-in-Some-clause-fits
returns-in-Some-clause-fits g c =
    fits_arrival c.args.bytes.now c.args.id c.args.self.now.lines _ (returns-in-Some-clause-lines g c)

pub returns-in_default-clause-lines : goal.returns-in_default-clause-lines
returns-in_default-clause-lines g c =
    sym (absent_in c.args.id c.args.self.now.lines (reached c.args.bytes.now)
    c.in_default.ensures.place).unchanged

pub returns-in_default-clause-fits : goal.returns-in_default-clause-fits
returns-in_default-clause-fits g c =
    fits_arrival c.args.bytes.now c.args.id c.args.self.now.lines _ (returns-in_default-clause-lines g c)

pub invariant_of-self : goal.invariant_of-self
invariant_of-self g c =
    sound_set c.self.inside.entries.items c.self.inside.rows.items c.self.inside.next
    c.in-Some.place c.index_mut-heard.result.now c.arrive.new.self c.row.result
    c.index_mut-heard.ensures.value (ap (λ l. l.id) c.arrive.ensures) c.row.ensures c.self.invariant
