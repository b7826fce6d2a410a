use Rattle.std.proofs.Common.{◌∙◌, ◌+◌, Bool, List, Some, if◌then◌else◌, ap, sym, drop}
use Rattle.std.proofs.lemmas.List.{at_drop_all, at_drop_more}
use Rattle.choices.specs.Channels.{connection, is_channel}
use Rattle.choices.specs.Lines.{Line}
use Rattle.choices.proofs.names.first_connection.Goals as goal

pub loop-entry-preserved : goal.loop-entry-preserved
loop-entry-preserved g c =
    let lines = c.args.entries.now in
    let text = c.args.text.now in
    let at = c.loop-entry.entry-index in
    let rest = connection (drop (at + 1) lines) text in
    ap (λ (b : Bool). if b then Some c.entry-item.result.id else rest) c.if-is_channel.ensures
    ∙ ap (λ (l : Line). if is_channel text l.kind l.id then Some l.id else rest) c.entry-item.is
    ∙ sym (at_drop_more (λ (ls : List Line). connection ls text) lines at c.entry-item.result
    c.loop-entry-test.true)
    ∙ c.loop-entry.invariant

pub returns-then-is_channel : goal.returns-then-is_channel
returns-then-is_channel g c =
    let lines = c.args.entries.now in
    let text = c.args.text.now in
    let at = c.loop-entry.entry-index in
    let rest = connection (drop (at + 1) lines) text in
    ap Some c.id.ensures
    ∙ ap (λ (b : Bool). if b then Some c.entry-item.result.id else rest) c.if-is_channel.ensures
    ∙ ap (λ (l : Line). if is_channel text l.kind l.id then Some l.id else rest) c.entry-item.is
    ∙ sym (at_drop_more (λ (ls : List Line). connection ls text) lines at c.entry-item.result
    c.loop-entry-test.true)
    ∙ c.loop-entry.invariant

pub returns : goal.returns
returns g c =
    sym (at_drop_all (λ (ls : List Line). connection ls c.args.text.now) c.args.entries.now
    c.loop-entry.entry-index c.loop-entry-test.false)
    ∙ c.loop-entry.invariant
