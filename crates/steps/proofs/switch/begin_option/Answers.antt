use Rattle.std.proofs.Common.{◌≡◌, ◌∙◌, ◌-◌, false, true, Some, length, rules, sym, ap, if◌then◌else◌}
use Rattle.std.specs.Prelude.{slice_get}
use Rattle.steps.specs.Moves.{on_top}
use Rattle.steps.specs.Spot.{Went}
use Rattle.steps.specs.Switch.{by_words, is_string}
use Rattle.steps.specs.View.{spot_of}
use Rattle.steps.proofs.Strings.{last_on_top}
use Rattle.steps.proofs.switch.begin_option.Goals as goal

pub returns-then-is_string-clause-does : goal.returns-then-is_string-clause-does
returns-then-is_string-clause-does g c = λ s.
    let spot = spot_of c.args.spot.now in
    let options = c.args.options in
    let after = c.args.after.now in
    let old = c.args.spot.now.operands.items in
    let v = c.in-Some.text.now in
    let top : Some v ≡ slice_get old (length old - 1) = search rules in
    let free : is_string options v after ≡ true = search rules in
    sym (ap (λ os. on_top os (λ text below.
    if is_string options text after then Went spot s
    else by_words options after c.args.place spot s)) (last_on_top old v top)
    ∙ ap (λ b. if b then Went spot s else by_words options after c.args.place spot s) free)

pub returns-clause-does : goal.returns-clause-does
returns-clause-does g c = λ s.
    let spot = spot_of c.args.spot.now in
    let options = c.args.options in
    let after = c.args.after.now in
    let old = c.args.spot.now.operands.items in
    let v = c.in-Some.text.now in
    let top : Some v ≡ slice_get old (length old - 1) = search rules in
    let taken : is_string options v after ≡ false = search rules in
    c.in_ok-begin_by_words.ensures.does s
    ∙ sym (ap (λ os. on_top os (λ text below.
    if is_string options text after then Went spot s
    else by_words options after c.args.place spot s)) (last_on_top old v top)
    ∙ ap (λ b. if b then Went spot s else by_words options after c.args.place spot s) taken)
