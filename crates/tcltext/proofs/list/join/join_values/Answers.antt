use Rattle.std.proofs.Common.{◌≡◌, arith, sym, subst}
use Rattle.std.proofs.lemmas.Grind.{common_steps}
use Rattle.tcltext.specs.Canonical.{canonical}
use Rattle.tcltext.specs.Elements.{IsList}
use Rattle.tcltext.proofs.Written.{reads_back}
use Rattle.tcltext.proofs.list.join.join_values.Goals as goal

pub returns-clause-reads_back : goal.returns-clause-reads_back
returns-clause-reads_back g c =
    let e : c.push_values.new.text.items ≡ canonical c.args.list.now = grind (arith, common_steps) in
    subst (IsList c.args.list.now) (sym e) (reads_back c.args.list.now)
