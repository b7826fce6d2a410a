use Rattle.std.proofs.Common.{◌∙◌, ◌+◌, Bool, List, Some, if◌then◌else◌, ap, sym, drop}
use Rattle.std.proofs.lemmas.List.{at_drop_all, at_drop_more}
use Rattle.std.specs.Str.{bytes_eq}
use Rattle.acts.specs.Id.{id_text}
use Rattle.acts.specs.declared.id.Id.{Id}
use Rattle.choices.specs.Channels.{named}
use Rattle.choices.specs.Lines.{Line}
use Rattle.choices.proofs.names.first_named.Goals as goal

pub loop-entry-preserved : goal.loop-entry-preserved
loop-entry-preserved g c =
    let lines = c.args.entries.now in
    let text = c.args.text.now in
    let at = c.loop-entry.entry-index in
    let rest = named (drop (at + 1) lines) text in
    ap (λ (b : Bool). if b then Some c.entry-item.result.id else rest)
    (c.if-is_named.ensures ∙ ap (λ (i : Id). bytes_eq text (id_text i.0)) c.id.ensures)
    ∙ ap (λ (l : Line). if bytes_eq text (id_text l.id.0) then Some l.id else rest)
    c.entry-item.is
    ∙ sym (at_drop_more (λ (ls : List Line). named ls text) lines at c.entry-item.result
    c.loop-entry-test.true)
    ∙ c.loop-entry.invariant

pub returns-then-is_named : goal.returns-then-is_named
returns-then-is_named g c =
    let lines = c.args.entries.now in
    let text = c.args.text.now in
    let at = c.loop-entry.entry-index in
    let rest = named (drop (at + 1) lines) text in
    ap Some c.id-then-is_named.ensures
    ∙ ap (λ (b : Bool). if b then Some c.entry-item.result.id else rest)
    (c.if-is_named.ensures ∙ ap (λ (i : Id). bytes_eq text (id_text i.0)) c.id.ensures)
    ∙ ap (λ (l : Line). if bytes_eq text (id_text l.id.0) then Some l.id else rest)
    c.entry-item.is
    ∙ sym (at_drop_more (λ (ls : List Line). named ls text) lines at c.entry-item.result
    c.loop-entry-test.true)
    ∙ c.loop-entry.invariant

pub returns : goal.returns
returns g c =
    sym (at_drop_all (λ (ls : List Line). named ls c.args.text.now) c.args.entries.now
    c.loop-entry.entry-index c.loop-entry-test.false)
    ∙ c.loop-entry.invariant
