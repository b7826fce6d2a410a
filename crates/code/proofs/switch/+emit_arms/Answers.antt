use Rattle.std.proofs.Common.{◌≡◌, ◌-◌, ◌<◌, false, true, codes, drop, length, take, arith, rules}
use Rattle.std.specs.Prelude.{slice_set}
use Rattle.std.specs.Str.{bytes_eq}
use Rattle.code.proofs.Choices.{arm_block, default_arms, none_block, own_arms, shared_arms, shared_block, some_block}
use Rattle.code.proofs.Fronts.{two_first}
use Rattle.code.specs.Code.{test_of}
use Rattle.code.specs.Switch.{is_default}
use Rattle.code.proofs.switch.+emit_arms.Goals as goal

pub emit_shared-returns : goal.emit_shared-returns
emit_shared-returns g t c = λ other short some whole.
    let old = c.args.code.now.items in
    let hole = c.push.new.self.items in
    let all = c.emit_arms.new.code.items in
    let globs = c.args.globs in
    let pattern = c.args.pattern.now in
    let taken = c.in_ok-taken.taken in
    let is = c.in_ok-it.ensures short in
    let fill : c.fill.new.code.items
    ≡ slice_set all (length old) (test_of globs pattern taken (length hole)) =
    first_of (search rules, cc) in
    shared_block old hole all c.fill.new.code.items globs pattern c.args.more.now taken other short
    (search rules) (c.in_ok-taken.ensures some whole) fill

pub emit_arm-returns : goal.emit_arm-returns
emit_arm-returns g t c = λ other short own whole.
    let old = c.args.code.now.items in
    let hole = c.push.new.self.items in
    let two = c.push-2.new.self.items in
    let globs = c.args.globs in
    let pattern = c.args.pattern.now in
    let is = c.in_ok-it.ensures short in
    let fill : c.fill.new.code.items
    ≡ slice_set two (length old) (test_of globs pattern (length hole) (length two)) =
    first_of (search rules, cc) in
    let done = arm_block old hole c.emit_chosen.new.code.items two c.fill.new.code.items
    c.emit_rest.new.code.items c.fill-2.new.code.items globs pattern c.args.body.now
    c.args.more.now other short own (search rules) c.in_ok-emit_chosen.ensures (search rules) fill
    (c.in_ok-emit_rest.ensures whole) (search rules) in
    search (rules, done)

pub emit_arms-returns-then-is_last_default : goal.emit_arms-returns-then-is_last_default
emit_arms-returns-then-is_last_default g t c = λ some whole.
    let arms = c.args.arms.now in
    let pattern = c.pattern-item.result in
    let body = c.body-item.result in
    let more = take (length arms - 2) (drop 2 arms) in
    let split = two_first arms pattern body c.in-len2-up.len_at_least c.pattern-item.is
    c.body-item.is in
    let is : is_default pattern more ≡ true = search rules in
    let done = default_arms c.args.code.now.items c.emit_chosen.new.code.items c.args.globs arms
    pattern body more split is whole c.in_ok-emit_chosen.ensures in
    search (rules, done)

pub emit_arms-returns-then-eq : goal.emit_arms-returns-then-eq
emit_arms-returns-then-eq g t c = λ some whole.
    let arms = c.args.arms.now in
    let pattern = c.pattern-item.result in
    let body = c.body-item.result in
    let more = take (length arms - 2) (drop 2 arms) in
    let split = two_first arms pattern body c.in-len2-up.len_at_least c.pattern-item.is
    c.body-item.is in
    let other : is_default pattern more ≡ false = search rules in
    let same : bytes_eq body (codes "-") ≡ true = search rules in
    shared_arms c.args.code.now.items c.emit_shared.new.code.items c.args.globs arms pattern body
    more c.in_ok-emit_shared.field-0 split same whole (c.in_ok-emit_shared.ensures other)

pub emit_arms-returns : goal.emit_arms-returns
emit_arms-returns g t c = λ some whole.
    let arms = c.args.arms.now in
    let pattern = c.pattern-item.result in
    let body = c.body-item.result in
    let more = take (length arms - 2) (drop 2 arms) in
    let split = two_first arms pattern body c.in-len2-up.len_at_least c.pattern-item.is
    c.body-item.is in
    let other : is_default pattern more ≡ false = search rules in
    let own : bytes_eq body (codes "-") ≡ false = search rules in
    own_arms c.args.code.now.items c.emit_arm.new.code.items c.args.globs arms pattern body more
    c.in_ok-emit_arm.field-0 split whole (λ short rest. c.in_ok-emit_arm.ensures other short own rest)

pub emit_rest-returns-then-is_empty : goal.emit_rest-returns-then-is_empty
emit_rest-returns-then-is_empty g t c = λ whole.
    let none : length c.args.arms.now ≡ 0 = search rules in
    none_block c.args.code.now.items c.push.new.self.items c.push-then-is_empty.new.self.items
    c.args.globs c.args.arms.now none (search rules) (search rules)

pub emit_rest-returns : goal.emit_rest-returns
emit_rest-returns g t c = λ whole.
    let arms = c.args.arms.now in
    let some : 0 < length arms = search (rules, arith) in
    some_block c.args.code.now.items c.emit_arms.new.code.items c.args.globs
    c.in_ok-emit_arms.field-0 arms (c.in_ok-emit_arms.ensures some whole)
