use Rattle.std.proofs.Common.{◌∙◌, ap, sym}
use Rattle.readings.specs.Reads.{first_shut}
use Rattle.readings.proofs.IdLists.{none_shut}
use Rattle.readings.proofs.id_list.open_ids.Goals as goal

pub returns-clause-ids : goal.returns-clause-ids
returns-clause-ids g c = record {
  is_ids = rw c.in-Some.is at c.in_ok-ids.ensures;
  are_open = none_shut c.args.table.now.lines c.in-Some.ids.items
      (ap (first_shut c.args.table.now.lines) (sym c.deref.ensures.value)
      ∙ sym c.in_default-first_shut.ensures);
}
