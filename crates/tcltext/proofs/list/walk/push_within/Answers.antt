use Rattle.std.proofs.Common.{◌≡◌, ◌<◌, ◌≤◌, ◌-◌, ◌==◌, ◌∙◌, ℕ, List, length, sym, ap, rules, arith}
use Rattle.tcltext.proofs.Walks.{part_written}
use Rattle.tcltext.proofs.list.walk.push_within.Goals.{then-first+in_ok-reserve, else-first}
use Rattle.tcltext.proofs.list.walk.push_within.Goals as goal

pub returns : goal.returns
returns g c = λ v counts is.
    let old : c.if-first.list.items ≡ c.args.list.now.items =
    elim c.if-first.branch [
      | then-first+in_ok-reserve w ↦ search rules
      | else-first w ↦ search rules
    ] in
    let empty : c.is_empty-first.result ≡ (length c.args.list.now.items == 0) = search rules in
    let begun : c.args.from ≤ length v = omega arith in
    let more : length v - c.args.from < c.args.most = omega arith in
    part_written v c.args.element.now c.if-first.list.items _ c.args.from c.args.most
    c.is_empty-first.result begun more (old ∙ is)
    (empty ∙ ap (λ (x : List ℕ). length x == 0) (sym old)) c.in_ok-push_next.ensures
