use Rattle.std.proofs.Common.{◌≡◌, ◌∙◌, ◌+◌, ◌++◌, List, ap, arith, drop, length, map, refl, subst, sym}
use Rattle.std.proofs.lemmas.List.{append-nil, drop_all, drop_more}
use Rattle.acts.specs.declared.id.Id.{Id}
use Rattle.acts.specs.declared.row.Row.{Row}
use Rattle.choices.specs.Lines.{row_of_line, rows_of}
use Rattle.choices.proofs.Refused.{err_from, ok_from, on_err}
use Rattle.choices.proofs.RowsMade.{rows_further}
use Rattle.choices.proofs.table.Table.fill.Goals as goal

pub returns-then-are_all-clause-rows : goal.returns-then-are_all-clause-rows
returns-then-are_all-clause-rows g c =
    let all = map row_of_line c.args.self.now.lines in
    ok_from c.push_all.result (λ is. is
    ∙ ap (λ (rs : List Row). rs ++ all) c.clear.ensures.items
    ∙ sym (c.if-are_all.ensures.rows refl)) c.push_all.ensures.rows

pub returns-then-are_all-clause-begun : goal.returns-then-are_all-clause-begun
returns-then-are_all-clause-begun g c =
    let all = rows_of c.args.self.now.lines c.args.ids.now in
    err_from c.push_all.result (λ same. (
      all,
      ap (λ (rs : List Row). rs ++ all) (same ∙ c.clear.ensures.items),
    )) c.push_all.ensures.unchanged

pub loop-id-init : goal.loop-id-init
loop-id-init g c =
    let all = rows_of c.args.self.now.lines c.args.ids.now in
    let none = ap length c.clear.ensures.items in (
      ap (λ (rs : List Row). rs ++ all) c.clear.ensures.items,
      omega (arith, none),
      omega (arith, c.clear.ensures.capacity),
    )

pub loop-id-preserved : goal.loop-id-preserved
loop-id-preserved g c =
    let lines = c.args.self.now.lines in
    let ids = c.args.ids.now in
    let at = c.loop-id.id-index in
    let old = c.loop-id.rows.items in
    let so_far = c.loop-id.invariant in (
      rows_further lines old c.push_row.new.rows.items (rows_of lines ids) _ (drop (at + 1) ids)
          c.in_ok-push_row.ensures.rows
          (subst (λ (is : List Id). old ++ rows_of lines is ≡ rows_of lines ids)
          (drop_more ids at _ c.loop-id-test.true) so_far.0),
      omega (arith, c.in_ok-push_row.ensures.longer, so_far.1),
      omega (arith, c.push_row.ensures.room, so_far.2),
    )

pub returns-clause-rows : goal.returns-clause-rows
returns-clause-rows g c =
    let items = c.loop-id.rows.items in
    sym (append-nil items)
    ∙ ap (λ (is : List Id). items ++ rows_of c.args.self.now.lines is)
    (sym (drop_all c.loop-id.id-index c.args.ids.now c.loop-id-test.false))
    ∙ c.loop-id.invariant.0

pub returns-in_err-push_row-clause-refused : goal.returns-in_err-push_row-clause-refused
returns-in_err-push_row-clause-refused g c =
    let so_far = c.loop-id.invariant in
    on_err c.from_residual.result
    (omega (arith, c.in_err-push_row.ensures.refused, so_far.1, so_far.2, c.loop-id-test.true))

pub returns-in_err-push_row-clause-begun : goal.returns-in_err-push_row-clause-begun
returns-in_err-push_row-clause-begun g c =
    let rest = rows_of c.args.self.now.lines (drop c.loop-id.id-index c.args.ids.now) in
    on_err c.from_residual.result (
      rest,
      ap (λ (rs : List Row). rs ++ rest) c.in_err-push_row.ensures.unchanged
          ∙ c.loop-id.invariant.0,
    )
