use Rattle.std.proofs.Common.{◌∙◌, ℕ, ◌+◌, false, length, refl, sym, ap, subst, arith}
use Rattle.patterns.specs.Match.{IsFound}
use Rattle.patterns.specs.Runs.{items_of_run, items_of_runs, starred_items, reading_of}
use Rattle.patterns.proofs.Finds.{only_nowhere, only_found, start_nowhere, end_nowhere, starred_found}
use Rattle.patterns.proofs.RunItems.{IsFixed-run, starred_items-cons, starred_items-none, steps_of_parts}
use Rattle.patterns.proofs.search.locate.Goals as goal

pub returns-in_err-start-in-None-clause-found : goal.returns-in_err-start-in-None-clause-found
returns-in_err-start-in-None-clause-found g c =
    let runs = c.args.runs.now in
    let last = items_of_run runs.last in
    let same = starred_items-none runs.starred.items last (ap length (sym c.deref.ensures.value)
    ∙ c.in-None.ensures.cases) in
    rw c.from_residual.ensures
    (only_nowhere (items_of_runs runs) last c.args.ties.start c.args.ties.end c.args.window.now
    (length last) same (IsFixed-run runs.last) refl c.in_err-start-in-None.ensures.place)

pub returns-in_ok-start-in-None-clause-found : goal.returns-in_ok-start-in-None-clause-found
returns-in_ok-start-in-None-clause-found g c =
    let runs = c.args.runs.now in
    let last = items_of_run runs.last in
    let same = starred_items-none runs.starred.items last (ap length (sym c.deref.ensures.value)
    ∙ c.in-None.ensures.cases) in
    let place = c.in_ok-start-in-None.ensures.place in
    let start = c.in_ok-start-in-None.start in
    subst (λ (n : ℕ). IsFound (reading_of runs c.args.ties false) c.args.window.now start (start + n))
    (sym c.len.ensures)
    (only_found (items_of_runs runs) last c.args.ties.start c.args.ties.end c.args.window.now
    (length last) start same (IsFixed-run runs.last) refl place.0 place.1 place.2)

pub returns-in_err-start-in-Some-clause-found : goal.returns-in_err-start-in-Some-clause-found
returns-in_err-start-in-Some-clause-found g c =
    let runs = c.args.runs.now in
    let last = items_of_run runs.last in
    let first = c.in-Some.first.now in
    let inner = c.in-Some.inner.now in
    let same = starred_items-cons runs.starred.items inner first last (sym c.deref.ensures.value
    ∙ c.in-Some.ensures.cases.0) in
    rw c.from_residual-in_err-start-in-Some.ensures
    (start_nowhere (items_of_runs runs) (items_of_run first) (starred_items inner last)
    c.args.ties.start c.args.ties.end c.args.window.now same (IsFixed-run first)
    c.in_err-start-in-Some.ensures.place)

pub returns-in_err-end-in-Some-clause-found : goal.returns-in_err-end-in-Some-clause-found
returns-in_err-end-in-Some-clause-found g c =
    let runs = c.args.runs.now in
    let last = items_of_run runs.last in
    let first = c.in-Some.first.now in
    let inner = c.in-Some.inner.now in
    let same = starred_items-cons runs.starred.items inner first last (sym c.deref.ensures.value
    ∙ c.in-Some.ensures.cases.0) in
    rw c.from_residual-in_err-end-in-Some.ensures
    (end_nowhere (items_of_runs runs) (items_of_run first) (starred_items inner last)
    c.args.ties.start c.args.ties.end c.args.window.now
    c.len-in-Some.result c.in_ok-start-in-Some.start same (IsFixed-run first) c.len-in-Some.ensures
    c.in_ok-start-in-Some.ensures.place.2 c.in_err-end-in-Some.ensures.end)

pub returns-in_err-end-in-Some-clause-steps : goal.returns-in_err-end-in-Some-clause-steps
returns-in_err-end-in-Some-clause-steps g c =
    let runs = c.args.runs.now in
    let last = items_of_run runs.last in
    let first = c.in-Some.first.now in
    let inner = c.in-Some.inner.now in
    let wide : ℕ = length c.args.window.now + 1 in
    let same = starred_items-cons runs.starred.items inner first last (sym c.deref.ensures.value
    ∙ c.in-Some.ensures.cases.0) in
    rw same
    (steps_of_parts (items_of_run first) (starred_items inner last) c.args.steps.now
    c.start_place.new.steps c.furthest_end.new.steps wide (omega arith)
    (omega (arith, c.start_place.ensures.steps)) c.furthest_end.ensures.steps)

pub returns-in_ok-end-in-Some-clause-found : goal.returns-in_ok-end-in-Some-clause-found
returns-in_ok-end-in-Some-clause-found g c =
    let runs = c.args.runs.now in
    let last = items_of_run runs.last in
    let first = c.in-Some.first.now in
    let inner = c.in-Some.inner.now in
    let same = starred_items-cons runs.starred.items inner first last (sym c.deref.ensures.value
    ∙ c.in-Some.ensures.cases.0) in
    let start = c.in_ok-start-in-Some.ensures.place in
    starred_found (items_of_runs runs) (items_of_run first) (starred_items inner last)
    c.args.ties.start c.args.ties.end c.args.window.now
    c.len-in-Some.result c.in_ok-start-in-Some.start c.in_ok-end-in-Some.end same
    (IsFixed-run first) c.len-in-Some.ensures start.0 start.1 start.2
    c.in_ok-end-in-Some.ensures.end

pub returns-in_ok-end-in-Some-clause-steps : goal.returns-in_ok-end-in-Some-clause-steps
returns-in_ok-end-in-Some-clause-steps g c =
    let runs = c.args.runs.now in
    let last = items_of_run runs.last in
    let first = c.in-Some.first.now in
    let inner = c.in-Some.inner.now in
    let wide : ℕ = length c.args.window.now + 1 in
    let same = starred_items-cons runs.starred.items inner first last (sym c.deref.ensures.value
    ∙ c.in-Some.ensures.cases.0) in
    rw same
    (steps_of_parts (items_of_run first) (starred_items inner last) c.args.steps.now
    c.start_place.new.steps c.furthest_end.new.steps wide (omega arith)
    (omega (arith, c.start_place.ensures.steps)) c.furthest_end.ensures.steps)
