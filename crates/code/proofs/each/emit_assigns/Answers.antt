use Rattle.std.proofs.Common.{◌+◌, drop, arith, rules}
use Rattle.std.proofs.Math.ListN.{drop_of_length-le}
use Rattle.code.proofs.Foreach.{all_names_left, assigns_block, name_at, name_left}
use Rattle.code.proofs.each.emit_assigns.Goals as goal

pub loop-name-init : goal.loop-name-init
loop-name-init g c = all_names_left c.args.code.now.items c.args.names.now

pub loop-name-preserved : goal.loop-name-preserved
loop-name-preserved g c =
    let names = c.args.names.now in
    let n = c.loop-name.name-index in
    let name = c.name-item.result in
    name_left c.args.code.now.items c.loop-name.code.items c.push.new.self.items name
    (drop n names) (drop (n + 1) names) names c.loop-name.invariant (search rules)
    (name_at names n name c.loop-name-test.true c.name-item.is)

pub returns : goal.returns
returns g c =
    let names = c.args.names.now in
    let n = c.loop-name.name-index in
    assigns_block c.args.code.now.items c.loop-name.code.items (drop n names) names
    c.loop-name.invariant (drop_of_length-le names {i = n} (omega (arith, c.loop-name-test.false)))
