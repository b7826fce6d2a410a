use Rattle.std.proofs.Common.{◌≡◌, ◌+◌, ◌-◌, ◌≤◌, ◌++◌, length, drop, sym, ap, ◌∙◌, arith}
use Rattle.std.proofs.lemmas.List.Edits.{length-between}
use Rattle.std.specs.List.{between}
use Rattle.circular_buffer.specs.Buffer.{keep_last}
use Rattle.matchbuf.specs.Held.{Held, held}
use Rattle.matchbuf.proofs.Parts.{between-written, kept}
use Rattle.matchbuf.proofs.Windows.{fits_arrived}
use Rattle.matchbuf.proofs.buffer.MatchBuf.arrive.Goals as goal

pub returns-clause-value : goal.returns-clause-value
returns-clause-value g c =
    let before = c.args.self.now in
    let bytes = c.args.bytes.now in
    let m = c.max-size.result in
    let newest = c.last_bytes-newest.result.now in
    let inside = c.self.inside in
    let count = c.len-count.result in
    let first = c.make_room-self-inside.result in
    let moved = c.make_room-self-inside.new.ring in
    let over = length before.bytes + length newest - m in
    let part : between inside.begin inside.end inside.ring.items ≡ c.take.new.self.bytes =
    ap (λ (h : Held). h.bytes) c.self.view_is in
    let long : count ≡ inside.end - inside.begin =
    c.len-count.ensures.len ∙ sym (ap length part)
    ∙ length-between inside.ring.items inside.begin inside.end (omega (arith, c.self.invariant)) in
    let forgotten : c.saturating_sub-over.result ≡ over =
    c.saturating_sub-over.ensures ∙ ap (λ n. n + length newest - m) c.len.ensures.len in
    let left : between first (first + count) moved.items ≡ drop over before.bytes =
    ap (λ n. between first (first + n) moved.items) long ∙ c.make_room-self-inside.ensures.bytes ∙ part
    ∙ ap (λ (h : Held). h.bytes) c.take.ensures.value ∙ ap (λ n. drop n before.bytes) forgotten in
    let fits : first + count ≤ length moved.items =
    omega (arith, long, c.make_room-self-inside.ensures.within) in
    let all : between first (first + count + length newest) c.write_at.new.ring.items
    ≡ keep_last m (before.bytes ++ bytes) =
    between-written first (first + count) moved c.write_at.new.ring newest (omega arith) fits
    c.write_at.ensures
    ∙ ap (λ l. l ++ newest) left
    ∙ ap (λ l. drop (length before.bytes + length l - m) before.bytes ++ l)
    c.last_bytes-newest.ensures
    ∙ kept m before.bytes bytes in
    let size : inside.size ≡ before.max =
    ap (λ (h : Held). h.max) c.self.view_is ∙ ap (λ (h : Held). h.max) c.take.ensures.value in
    ap (λ l. held l inside.size) all
    ∙ ap (λ n. held (keep_last m (before.bytes ++ bytes)) n) size
    ∙ ap (λ n. held (keep_last n (before.bytes ++ bytes)) before.max) c.max-size.ensures.max

pub returns-clause-fits : goal.returns-clause-fits
returns-clause-fits g c = λ j fits. rw (returns-clause-value g c)
    (fits_arrived j c.args.self.now c.args.bytes.now fits)
