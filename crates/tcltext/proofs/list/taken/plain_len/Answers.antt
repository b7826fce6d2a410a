use Rattle.std.proofs.Common.{◌≡◌, true, get_or, length, sym, rules, arith}
use Rattle.std.proofs.lemmas.List.Sums.{position_or_len_is}
use Rattle.tcltext.specs.Style.{ends_plain}
use Rattle.tcltext.proofs.list.taken.plain_len.Goals as goal

pub returns-then-ends_plain-clause-place : goal.returns-then-ends_plain-clause-place
returns-then-ends_plain-clause-place c =
    let text = c.args.text.now in
    let i = c.loop-place.place in
    let here : ends_plain (get_or text i 0) ≡ true = search rules in
    sym (position_or_len_is ends_plain text i 0 (omega arith) c.loop-place.invariant (λ _. here))

pub returns-clause-place : goal.returns-clause-place
returns-clause-place c =
    let text = c.args.text.now in
    sym (position_or_len_is ends_plain text (length text) 0 (omega arith)
    (λ k below. c.loop-place.invariant k (omega arith)) (λ below. absurd (omega arith)))
