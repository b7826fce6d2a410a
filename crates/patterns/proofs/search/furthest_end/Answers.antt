use Rattle.std.proofs.Common.{◌≡◌, ℕ, List, ◌+◌, ◌*◌, ◌≤◌, ◌∷◌, ◌++◌, length, drop, refl, ap, sym, subst, arith}
use Rattle.patterns.specs.Item.{Item, any_run}
use Rattle.patterns.specs.Runs.{items_of_run, starred_items, Leaves, IsFurthest}
use Rattle.patterns.proofs.Finds.{none_furthest, last_is_furthest, none_inside}
use Rattle.patterns.proofs.Stars.{first_serves, first_joins}
use Rattle.patterns.proofs.RunItems.{IsFixed-run, starred_items-cons, starred_items-none, steps_of_parts}
use Rattle.patterns.proofs.search.furthest_end.Goals as goal

pub returns-in_err-from-clause-end : goal.returns-in_err-from-clause-end
returns-in_err-from-clause-end g c =
    let last = items_of_run c.args.last.now in
    let run = c.in-Some.run'.now in
    let more = c.in-Some.more.now in
    let items = starred_items-cons c.loop-run.rest.now more run last c.in-Some.ensures.cases.0 in
    rw c.from_residual.ensures
    (none_inside (starred_items c.args.inner.now last) (items_of_run run) (starred_items more last)
    c.args.window.now c.args.place c.loop-run.from c.args.tied
    (IsFixed-run run) c.loop-run.invariant.inside
    (λ u leaves. subst (λ (x : List Item). Leaves (any_run ∷ x)
    (drop c.loop-run.from c.args.window.now) u) items (c.loop-run.invariant.to u leaves))
    c.in_err-from.ensures.place)

pub loop-run-preserved : goal.loop-run-preserved
loop-run-preserved g c =
    let last = items_of_run c.args.last.now in
    let run = items_of_run c.in-Some.run'.now in
    let more = starred_items c.in-Some.more.now last in
    let items = starred_items-cons c.loop-run.rest.now c.in-Some.more.now c.in-Some.run'.now last
    c.in-Some.ensures.cases.0 in
    let fixed = IsFixed-run c.in-Some.run'.now in
    let first = c.in_ok-from.ensures.place in
    let q = c.in_ok-from.field-0 in
    let w = c.args.window.now in
    let wide : ℕ = length w + 1 in
    let next : q + length run ≡ q + c.len.result = ap (λ (n : ℕ). q + n) (sym c.len.ensures) in
    let whole : length (starred_items c.loop-run.rest.now last) * wide
    ≡ length (run ++ any_run ∷ more) * wide = ap (λ (x : List Item). length x * wide) items in
    let counted : c.saturating_add.result ≤ c.loop-run.steps + 1 =
    omega (arith, c.saturating_add.ensures) in
    let parts = steps_of_parts run more c.loop-run.steps c.first_place.new.steps
    (c.first_place.new.steps + length more * wide) wide (omega arith)
    (omega (arith, c.first_place.ensures.steps)) (omega arith) in
    record {
      inside = omega (arith, first.here.room);
      to = λ u leaves.
          let starred = subst (λ (x : List Item). Leaves (any_run ∷ x) (drop c.loop-run.from w) u)
          items (c.loop-run.invariant.to u leaves) in
          let behind = first_serves run more w u c.loop-run.from q fixed first starred in
          subst (λ (p : ℕ). Leaves (any_run ∷ more) (drop p w) u) next behind;
      back = λ u leaves.
          let behind = subst (λ (p : ℕ). Leaves (any_run ∷ more) (drop p w) u) (sym next) leaves in
          let starred = first_joins run more w u c.loop-run.from q fixed first behind in
          c.loop-run.invariant.back u
          (subst (λ (x : List Item). Leaves (any_run ∷ x) (drop c.loop-run.from w) u)
          (sym items) starred);
      steps = omega (arith, parts, whole, c.loop-run.invariant.steps);
    }

pub returns-in_err-end-clause-end : goal.returns-in_err-end-clause-end
returns-in_err-end-clause-end g c =
    let last = items_of_run c.args.last.now in
    let items = starred_items-none c.loop-run.rest.now last c.in_default.ensures.cases in
    rw c.from_residual-in_err-end.ensures
    (none_furthest (starred_items c.args.inner.now last) last c.args.window.now c.args.place
    c.loop-run.from (length last) c.args.tied
    (IsFixed-run c.args.last.now) refl c.loop-run.invariant.inside
    (λ u leaves. subst (λ (x : List Item). Leaves (any_run ∷ x)
    (drop c.loop-run.from c.args.window.now) u) items (c.loop-run.invariant.to u leaves))
    c.in_err-end.ensures.place)

pub returns-clause-end : goal.returns-clause-end
returns-clause-end g c =
    let last = items_of_run c.args.last.now in
    let all = starred_items c.args.inner.now last in
    let items = starred_items-none c.loop-run.rest.now last c.in_default.ensures.cases in
    let place = c.in_ok-end.ensures.place in
    subst (λ (n : ℕ). IsFurthest (any_run ∷ all) c.args.tied c.args.window.now c.args.place
    (c.in_ok-end.end + n)) (sym c.len-2.ensures)
    (last_is_furthest all last c.args.window.now c.args.place c.loop-run.from (length last)
    c.in_ok-end.end c.args.tied
    (IsFixed-run c.args.last.now) refl c.loop-run.invariant.inside
    (λ u leaves. subst (λ (x : List Item). Leaves (any_run ∷ x)
    (drop c.loop-run.from c.args.window.now) u) items (c.loop-run.invariant.to u leaves))
    (λ u leaves. c.loop-run.invariant.back u
    (subst (λ (x : List Item). Leaves (any_run ∷ x) (drop c.loop-run.from c.args.window.now) u)
    (sym items) leaves))
    place.0 place.1.0 place.1.1 place.2)
