use Rattle.std.proofs.Common.{◌∙◌, rules}
use Rattle.tcltext.proofs.Behind.{list_of_canonical}
use Rattle.tcltext.specs.Canonical.{IsCanonical}
use Rattle.tcltext.proofs.value.Value.as_list.Goals as goal

pub returns-then-is_list-clause-list : goal.returns-then-is_list-clause-list
returns-then-is_list-clause-list g c =
    let canonical : IsCanonical c.args.self.now = search rules in
    let is = list_of_canonical c.args.self.now canonical in
    (is.0, is.1, c.in_ok-share.ensures ∙ is.2)
