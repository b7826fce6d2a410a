use Rattle.std.proofs.Common.{◌∙◌, ◌∷◌, ap, sym, Ok, Err}
use Rattle.std.specs.Prelude.{IfSome}
use Rattle.readings.specs.Drafts.{blank}
use Rattle.readings.specs.Misreads.{flaw_of}
use Rattle.readings.specs.Parts.{parts}
use Rattle.readings.specs.Reads.{place, IsRead}
use Rattle.readings.proofs.Goes.{part_read, read_fails, read_ends, passed_on, at_words, at_last, ok_then, err_then, some_then}
use Rattle.readings.proofs.branches.Branches.read.Goals as goal

pub loop-word-preserved : goal.loop-word-preserved
loop-word-preserved g c =
    part_read (place c.args.table.now.lines c.args.current c.args.standing) blank
    c.loop-word.draft c.read_part.new.draft c.args.words.now c.loop-word.rest.now
    (c.as_slice.result.now ∷ c.in-Some.behind.now) c.in_ok-rest.rest.now c.loop-word.invariant
    (c.in-Some.ensures.cases.0 ∙ ap (λ w. w ∷ c.in-Some.behind.now) (sym c.as_slice.ensures))
    c.in_ok-rest.ensures.goes_on

pub returns-in_err-rest-clause-flaw : goal.returns-in_err-rest-clause-flaw
returns-in_err-rest-clause-flaw g c =
    let at = place c.args.table.now.lines c.args.current c.args.standing in
    let ws = c.as_slice.result.now ∷ c.in-Some.behind.now in
    let goes = at_words at blank c.loop-word.draft c.args.words.now c.loop-word.rest.now ws
    c.loop-word.invariant
    (c.in-Some.ensures.cases.0 ∙ ap (λ w. w ∷ c.in-Some.behind.now) (sym c.as_slice.ensures)) in
    passed_on (λ e. IfSome (flaw_of e) (λ flaw. IsRead at c.args.words.now (Err flaw)))
    c.from_residual.result _ c.from_residual.ensures.1 (some_then (flaw_of _) (λ flaw fails.
    read_fails at c.args.words.now c.loop-word.draft (parts c.args.standing ws) flaw goes fails)
    c.in_err-rest.ensures.fails)

pub returns-clause-branches : goal.returns-clause-branches
returns-clause-branches g c =
    let at = place c.args.table.now.lines c.args.current c.args.standing in
    let last = at_last at blank c.loop-word.draft c.args.words.now c.loop-word.rest.now
    c.loop-word.invariant c.in_default.ensures.cases in
    ok_then c.finish.result (λ b is.
    read_ends at c.args.words.now c.loop-word.draft (Ok b) last is) c.finish.ensures.branches

pub returns-clause-flaw : goal.returns-clause-flaw
returns-clause-flaw g c =
    let at = place c.args.table.now.lines c.args.current c.args.standing in
    let last = at_last at blank c.loop-word.draft c.args.words.now c.loop-word.rest.now
    c.loop-word.invariant c.in_default.ensures.cases in
    err_then c.finish.result (λ e. some_then (flaw_of e) (λ flaw is.
    read_ends at c.args.words.now c.loop-word.draft (Err flaw) last is)) c.finish.ensures.flaw
