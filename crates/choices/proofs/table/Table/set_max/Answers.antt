use Rattle.std.proofs.Common.{◌≡◌, ◌∙◌, ap, true, false}
use Rattle.choices.specs.Lines.{listing, resized}
use Rattle.choices.proofs.Changes.{fits_size}
use Rattle.choices.proofs.Lines.{put_in, put_back, absent_in}
use Rattle.choices.proofs.Refused.{ok_from, err_from}
use Rattle.choices.proofs.Rising.{sound_set}
use Rattle.choices.proofs.table.Table.set_max.Goals as goal

pub unreachable-requires : goal.unreachable-requires
unreachable-requires g c =
    let none = absent_in c.args.id c.args.self.now.lines (λ l. l) c.in_default.ensures.place in
    let never : false ≡ true = rw none.no_line at c.requires in
    cc

pub returns-clause-lines : goal.returns-clause-lines
returns-clause-lines g c =
    ok_from c.set_max-outcome.result (λ new. put_in c.args.id c.args.self.now.lines
    c.self.inside.entries.items c.in-Some.place c.index_mut-sized.result.now c.set_max-outcome.new.self
    (resized c.args.max) (ap (λ t. t.lines) c.self.view_is) c.in-Some.ensures.place
    c.index_mut-sized.ensures.value new) c.set_max-outcome.ensures.line

pub returns-clause-fits : goal.returns-clause-fits
returns-clause-fits g c =
    ok_from c.set_max-outcome.result
    (fits_size c.args.max c.args.id c.args.self.now.lines _) (returns-clause-lines g c)

pub returns-clause-unchanged : goal.returns-clause-unchanged
returns-clause-unchanged g c =
    err_from c.set_max-outcome.result (λ new. ap (λ ls. listing ls c.self.inside.next)
    (put_back c.self.inside.entries.items c.in-Some.place c.index_mut-sized.result.now
    c.set_max-outcome.new.self c.index_mut-sized.ensures.value new) ∙ c.self.view_is) c.set_max-outcome.ensures.unchanged

pub invariant_of-self : goal.invariant_of-self
invariant_of-self g c =
    sound_set c.self.inside.entries.items c.self.inside.rows.items c.self.inside.next
    c.in-Some.place c.index_mut-sized.result.now c.set_max-outcome.new.self c.row.result
    c.index_mut-sized.ensures.value c.set_max-outcome.ensures.id c.row.ensures c.self.invariant
