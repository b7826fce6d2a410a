use Rattle.std.proofs.Common.{rules, ◌≡◌, ◌++◌, ◌∷◌, subst}
use Rattle.choices.specs.Lines.{Rise, numbers, upcoming}
use Rattle.choices.proofs.Changes.{fits_first_out}
use Rattle.choices.proofs.Rising.{first_out}
use Rattle.choices.proofs.table.Table.close_oldest.Goals as goal

pub returns-clause-closes : goal.returns-clause-closes
returns-clause-closes g c =
    let split : c.args.self.now.lines ≡ c.remove-entry.result ∷ c.remove-entry.new.self.items =
    search rules in
    let same : c.remove-entry.result.id ≡ c.id.result = search rules in
    let rise : Rise (numbers c.args.self.now.lines ++ upcoming c.args.self.now.next) =
    subst (λ t. Rise (numbers t.lines ++ upcoming t.next)) c.self.view_is c.self.invariant.1 in
    first_out c.id.result c.remove-entry.result c.args.self.now.lines
    c.remove-entry.new.self.items c.args.self.now.next split same rise

pub returns-clause-fits : goal.returns-clause-fits
returns-clause-fits g c =
    fits_first_out c.id.result c.args.self.now.lines c.remove-entry.new.self.items
    (returns-clause-closes g c)
