use Rattle.std.proofs.Common.{codes, ◌++◌, sym, ap, ◌∙◌}
use Rattle.std.proofs.lemmas.Result.{IfOk-weaker}
use Rattle.lines.proofs.Arrivals.{arrival_only, arrival_word}
use Rattle.lines.proofs.Cuts.{match_weaker, no_prefix, prefix_split}
use Rattle.records.proofs.record.read_first.Goals as goal

pub returns-in-Some : goal.returns-in-Some
returns-in-Some g c =
    let behind = c.in-Some.behind.now in
    let (test, is, room) = c.in-Some.ensures.cases in
    let split = prefix_split c.args.text.now (codes "arrive ") behind test is in
    IfOk-weaker c.read_arrival.result _ _ (λ found. match_weaker found
    (λ none (reply, line, rest, is, e).
    let (n, bytes, below, small, cut) = arrival_only reply line rest behind is (sym e ∙ split) in
    none n bytes rest below small cut)
    (λ first (line, is, e).
    (codes "arrive " ++ line, is, split ∙ ap (λ l. codes "arrive " ++ l) e)))
    c.read_arrival.ensures

pub returns-in-None : goal.returns-in-None
returns-in-None g c =
    match_weaker c.read_short.result
    (λ none (reply, line, rest, is, e).
    let (behind, word) = arrival_word reply line rest (none reply line rest is e) is in
    no_prefix c.args.text.now (codes "arrive ") behind c.in-None.ensures.cases (e ∙ word))
    (λ first found. found) c.read_short.ensures
