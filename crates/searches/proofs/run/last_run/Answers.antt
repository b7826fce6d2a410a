use Rattle.std.proofs.Common.{◌∙◌, sym, arith}
use Rattle.std.proofs.lemmas.Bool.{eqb-true, false≢true}
use Rattle.tcltext.proofs.Elements.{none_left}
use Rattle.searches.proofs.Scans.{met_next, met_nothing, met_last, alone_next, alone_nothing, alone_last}
use Rattle.searches.proofs.run.last_run.Goals as goal

pub loop-more-preserved-then-is_alone : goal.loop-more-preserved-then-is_alone
loop-more-preserved-then-is_alone c =
    let front = c.front_run-in-Some.result in (
      met_next c.args.text.now c.loop-more.rest.now c.loop-more.run.text.now c.in-Some.more.now
          front.0.text.now front.1.now c.loop-more.run.size front.0.size
          c.loop-more.invariant.0 c.in-Some.ensures c.front_run-in-Some.ensures,
      λ none. alone_next c.args.text.now c.loop-more.rest.now c.loop-more.run.text.now
          c.in-Some.more.now front.0.text.now front.1.now c.loop-more.run.size front.0.size
          c.loop-more.invariant.0 (c.loop-more.invariant.1 c.if-is_alone.true)
          (eqb-true c.loop-more.run.size 0 none) c.in-Some.ensures c.front_run-in-Some.ensures,
    )

pub loop-more-preserved-else-is_alone : goal.loop-more-preserved-else-is_alone
loop-more-preserved-else-is_alone c =
    let front = c.front_run-in-Some.result in (
      met_next c.args.text.now c.loop-more.rest.now c.loop-more.run.text.now c.in-Some.more.now
          front.0.text.now front.1.now c.loop-more.run.size front.0.size
          c.loop-more.invariant.0 c.in-Some.ensures c.front_run-in-Some.ensures,
      λ is. absurd (false≢true (sym c.if-is_alone.false ∙ is)),
    )

pub loop-more-preserved : goal.loop-more-preserved
loop-more-preserved c =
    let front = c.front_run-in-Some.result in (
      met_nothing c.args.text.now c.loop-more.rest.now c.loop-more.run.text.now
          c.in-Some.more.now front.0.text.now front.1.now c.loop-more.run.size front.0.size
          c.loop-more.invariant.0 c.in-Some.ensures c.front_run-in-Some.ensures
          (omega (arith, c.if-next-gt0.false)),
      λ is. alone_nothing c.args.text.now c.loop-more.rest.now c.loop-more.run.text.now
          c.in-Some.more.now front.0.text.now front.1.now front.0.size
          (c.loop-more.invariant.1 is) c.in-Some.ensures c.front_run-in-Some.ensures
          (omega (arith, c.if-next-gt0.false)),
    )

pub returns-clause-within : goal.returns-clause-within
returns-clause-within c =
    met_last c.args.text.now c.loop-more.rest.now c.loop-more.run.text.now
    c.loop-more.run.size (sym c.begins_in_caret.ensures ∙ c.if-begins_in_caret.false)
    c.loop-more.invariant.0 (none_left c.loop-more.rest.now c.if-not-is_empty.ensures)

pub returns-clause-alone : goal.returns-clause-alone
returns-clause-alone c = λ is.
    alone_last c.args.text.now c.loop-more.rest.now c.loop-more.run.text.now
    (c.loop-more.invariant.1 is) (none_left c.loop-more.rest.now c.if-not-is_empty.ensures)
