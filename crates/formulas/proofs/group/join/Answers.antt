use Rattle.std.proofs.Common.{rules, ◌≡◌, [], subst}
use Rattle.tclparse.specs.Formula.{no_links}
use Rattle.tclparse.specs.Grouping.{row_of}
use Rattle.formulas.specs.View.{formula_of, links_then}
use Rattle.formulas.proofs.Groups.{IsHalfJoined, run_push, rest_push, whole_joined}
use Rattle.formulas.proofs.group.join.Goals as goal

pub loop-operator-preserved-in-Continue-1 : goal.loop-operator-preserved-in-Continue-1
loop-operator-preserved-in-Continue-1 g c =
    let l = c.loop-operator in
    record {
      joined = run_push c.args.level (links_then c.args.links.items no_links) l.links.items _
          l.run.items c.push.new.self.items l.rest.items c.in-Some.field-0.operator
          c.in-Some.field-0.operand
          (search rules) l.invariant.joined (search rules) (search rules);
      first = l.invariant.first;
    }

pub loop-operator-preserved : goal.loop-operator-preserved
loop-operator-preserved g c =
    let l = c.loop-operator in
    record {
      joined = rest_push c.args.level (links_then c.args.links.items no_links) l.links.items _
          l.run.items c.reverse.new.self.items c.new-run-else-level_of-level.result.items
          l.rest.items
          c.push-else-level_of-level.new.self.items c.in-Some.field-0.operator
          c.in-Some.field-0.operand c.in_ok-operand.operand
          (search rules) l.invariant.joined (search rules) (search rules) c.in_ok-operand.ensures
          (search rules) (search rules);
      first = l.invariant.first;
    }

pub returns : goal.returns
returns g c =
    let l = c.loop-operator in
    let whole = links_then c.args.links.items no_links in
    let empty : l.links.items ≡ [] = search rules in
    let part : formula_of c.in_ok-part.part ≡ row_of (formula_of c.args.first)
    (links_then c.reverse-2.new.self.items no_links) =
    subst (λ f. formula_of c.in_ok-part.part ≡ row_of (formula_of f)
    (links_then c.reverse-2.new.self.items no_links)) l.invariant.first c.in_ok-part.ensures in
    whole_joined c.args.level (formula_of c.args.first) whole l.run.items l.rest.items
    c.reverse-2.new.self.items c.reverse-3.new.self.items c.in_ok-part.part
    (subst (λ m. IsHalfJoined c.args.level whole m l.run.items l.rest.items) empty
    l.invariant.joined) (search rules) (search rules) part
