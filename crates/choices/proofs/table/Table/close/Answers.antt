use Rattle.std.proofs.Common.{◌∙◌, ap, sym}
use Rattle.choices.specs.Lines.{without}
use Rattle.choices.proofs.Changes.{fits_closed}
use Rattle.choices.proofs.Lines.{gone_in, absent_in}
use Rattle.choices.proofs.Rising.{sound_without}
use Rattle.choices.proofs.table.Table.close.Goals as goal

pub returns-in-Some-clause-lines : goal.returns-in-Some-clause-lines
returns-in-Some-clause-lines g c =
    c.remove.ensures.items
    ∙ gone_in c.args.id c.args.self.now.lines c.self.inside.entries.items c.in-Some.place
    (ap (λ t. t.lines) c.self.view_is) c.in-Some.ensures.place

pub returns-in-Some-clause-fits : goal.returns-in-Some-clause-fits
returns-in-Some-clause-fits g c =
    fits_closed c.args.id c.args.self.now.lines _ (returns-in-Some-clause-lines g c)

pub returns-in_default-clause-lines : goal.returns-in_default-clause-lines
returns-in_default-clause-lines g c =
    sym (absent_in c.args.id c.args.self.now.lines (λ l. l) c.in_default.ensures.place).all_left

pub returns-in_default-clause-fits : goal.returns-in_default-clause-fits
returns-in_default-clause-fits g c =
    fits_closed c.args.id c.args.self.now.lines _ (returns-in_default-clause-lines g c)

pub invariant_of-self : goal.invariant_of-self
invariant_of-self g c =
    sound_without c.args.id c.self.inside.entries.items c.remove.new.self.items
    c.self.inside.rows.items c.remove-in-Some.new.self.items c.self.inside.next c.in-Some.place
    (returns-in-Some-clause-lines g c ∙ sym (ap (λ t. without c.args.id t.lines) c.self.view_is))
    c.remove.ensures.items c.remove-in-Some.ensures.items c.self.invariant
