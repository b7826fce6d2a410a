use Rattle.std.proofs.Common.{rules, ◌≡◌, ◌<◌, length}
use Rattle.formulas.specs.declared.tree.Formula.TheViews.{roll-Row}
use Rattle.formulas.proofs.Trees.{row_made}
use Rattle.formulas.proofs.group.row.Goals as goal

pub returns-in_ok-row : goal.returns-in_ok-row
returns-in_ok-row g c =
    let is : c.in_ok-row.row.value ≡ roll-Row _ (record {
      first = c.args.first;
      links =
          c.args.links;
    }) = search rules in
    let some : 0 < length c.args.links.items = search rules in
    row_made c.in_ok-row.row c.args.first c.args.links is some
