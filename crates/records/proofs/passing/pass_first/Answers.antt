use Rattle.std.proofs.Common.{codes, ◌++◌, refl, sym, ap, ◌∙◌}
use Rattle.acts.specs.Deed as said
use Rattle.lines.specs.Line.{arrival_text}
use Rattle.lines.proofs.Arrivals.{arrival_only, arrival_word}
use Rattle.lines.proofs.Cuts.{match_weaker, no_prefix, prefix_split}
use Rattle.records.proofs.passing.pass_first.Goals as goal

pub returns-in-Some : goal.returns-in-Some
returns-in-Some c =
    let behind = c.in-Some.behind.now in
    let (test, is, room) = c.in-Some.ensures.cases in
    let split = prefix_split c.args.text.now (codes "arrive ") behind test is in
    match_weaker c.pass_arrival.result
    (λ none (reply, line, rest, is, e).
    let (n, bytes, below, small, cut) = arrival_only reply line rest behind is (sym e ∙ split) in
    none n bytes rest below small cut)
    (λ rest (n, bytes, below, small, cut). (
      said.Arrive (record { 0 = n }) bytes,
      codes "arrive " ++ arrival_text n bytes,
      (below, small, refl),
      split ∙ ap (λ l. codes "arrive " ++ l) cut,
    ))
    c.pass_arrival.ensures

pub returns-in-None : goal.returns-in-None
returns-in-None c =
    match_weaker c.pass_other.result
    (λ none (reply, line, rest, is, e).
    let (behind, word) = arrival_word reply line rest (none reply line rest is e) is in
    no_prefix c.args.text.now (codes "arrive ") behind c.in-None.ensures.cases (e ∙ word))
    (λ rest found. found) c.pass_other.ensures
