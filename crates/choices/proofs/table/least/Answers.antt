use Rattle.std.proofs.Common.{◌∙◌, ◌+◌, ap, sym, drop}
use Rattle.std.proofs.lemmas.List.{drop_all, drop_more}
use Rattle.acts.specs.declared.id.Id.{Id}
use Rattle.choices.specs.Lines.{Line, least_of, lesser}
use Rattle.choices.proofs.table.least.Goals as goal

pub loop-entry-preserved : goal.loop-entry-preserved
loop-entry-preserved g c =
    let lines = c.args.entries.now in
    let at = c.loop-entry.entry-index in
    let least = c.loop-entry.least in
    let rest = drop (at + 1) lines in
    ap (λ (i : Id). least_of i rest) c.lesser-least.ensures
    ∙ ap (λ (i : Id). least_of (lesser least i) rest) c.id.ensures
    ∙ ap (λ (l : Line). least_of (lesser least l.id) rest) c.entry-item.is
    ∙ sym (ap (least_of least) (drop_more lines at c.entry-item.result c.loop-entry-test.true))
    ∙ c.loop-entry.invariant

pub returns : goal.returns
returns g c =
    sym (ap (least_of c.loop-entry.least)
    (drop_all c.loop-entry.entry-index c.args.entries.now c.loop-entry-test.false))
    ∙ c.loop-entry.invariant
