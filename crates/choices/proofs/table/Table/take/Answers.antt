use Rattle.std.proofs.Common.{◌∙◌, ap, sym, refl}
use Rattle.choices.specs.Choice.{chosen, share_at, shortened_to, taken_at}
use Rattle.choices.specs.Lines.{listing, row_of_line}
use Rattle.choices.proofs.Lines.{at_in, put_in, absent_in, put_back}
use Rattle.choices.proofs.Refused.{on_err}
use Rattle.choices.proofs.Rising.{sound_kept, sound_set}
use Rattle.choices.proofs.table.Table.take.Goals as goal

pub returns-in_default-clause-taken : goal.returns-in_default-clause-taken
returns-in_default-clause-taken g c =
    let none = absent_in c.args.pair.now.id c.args.self.now.lines (λ l. l)
    (rw c.id.ensures at c.in_default.ensures.place) in
    sym (ap (taken_at (chosen c.args.pair.now c.args.found)) none.no_line)

pub returns-in_default-clause-lines : goal.returns-in_default-clause-lines
returns-in_default-clause-lines g c =
    let change = shortened_to (share_at (chosen c.args.pair.now c.args.found)) in
    sym (absent_in c.args.pair.now.id c.args.self.now.lines change
    (rw c.id.ensures at c.in_default.ensures.place)).unchanged

pub hand_out-requires : goal.hand_out-requires
hand_out-requires g c =
    c.requires c.index_mut-entry.result.now (at_in c.args.pair.now.id c.args.self.now.lines
    c.self.inside.entries.items c.in-Some.place c.index_mut-entry.result.now
    (ap (λ t. t.lines) c.self.view_is) (rw c.id.ensures at c.in-Some.ensures.place)
    c.index_mut-entry.ensures.value)

pub returns-in_err-buffer-clause-unchanged : goal.returns-in_err-buffer-clause-unchanged
returns-in_err-buffer-clause-unchanged g c =
    on_err c.from_residual.result (ap (λ ls. listing ls c.self.inside.next)
    (put_back c.self.inside.entries.items c.in-Some.place c.index_mut-entry.result.now
    c.hand_out.new.self c.index_mut-entry.ensures.value c.in_err-buffer.ensures.unchanged)
    ∙ c.self.view_is)

pub returns-clause-taken : goal.returns-clause-taken
returns-clause-taken g c =
    let found = at_in c.args.pair.now.id c.args.self.now.lines
    c.self.inside.entries.items c.in-Some.place c.index_mut-entry.result.now
    (ap (λ t. t.lines) c.self.view_is) (rw c.id.ensures at c.in-Some.ensures.place)
    c.index_mut-entry.ensures.value in
    rw (found, c.in_ok-buffer.ensures.bytes, c.id-2.ensures, c.tells_places.ensures) refl

pub returns-clause-lines : goal.returns-clause-lines
returns-clause-lines g c =
    put_in c.args.pair.now.id c.args.self.now.lines c.self.inside.entries.items c.in-Some.place
    c.index_mut-entry.result.now c.hand_out.new.self
    (shortened_to (share_at (chosen c.args.pair.now c.args.found)))
    (ap (λ t. t.lines) c.self.view_is) (rw c.id.ensures at c.in-Some.ensures.place)
    c.index_mut-entry.ensures.value (rw c.stays.ensures at c.in_ok-buffer.ensures.line)

pub invariant_of-self : goal.invariant_of-self
invariant_of-self g c =
    sound_kept c.self.inside.entries.items c.self.inside.rows.items c.self.inside.next
    c.in-Some.place c.index_mut-entry.result.now c.hand_out.new.self c.index_mut-entry.ensures.value
    c.hand_out.ensures.id (ap row_of_line c.in_err-buffer.ensures.unchanged) c.self.invariant

pub invariant_of-self-2 : goal.invariant_of-self-2
invariant_of-self-2 g c =
    sound_set c.self.inside.entries.items c.self.inside.rows.items c.self.inside.next
    c.in-Some.place c.index_mut-entry.result.now c.hand_out.new.self c.row.result
    c.index_mut-entry.ensures.value c.hand_out.ensures.id c.row.ensures c.self.invariant
