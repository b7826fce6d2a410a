use Rattle.std.proofs.Common.{sym, subst}
use Rattle.code.proofs.Branching.{behind_test, behind_then}
use Rattle.code.specs.Branching.{IsFront}
use Rattle.code.proofs.branches.first_branch.Goals as goal

pub returns-then-is_word-clause-front : goal.returns-then-is_word-clause-front
returns-then-is_word-clause-front g c =
    subst (λ found. IsFront c.with_body.result found)
    (sym (behind_then c.args.words.now c.test-item.result c.word-item.result
    c.in-len2-up.len_at_least c.test-item.is c.word-item.is (sym c.if-is_word.ensures)))
    c.with_body.ensures.front

pub returns-clause-front : goal.returns-clause-front
returns-clause-front g c =
    behind_test c.args.words.now c.test-item.result c.word-item.result c.in-len2-up.len_at_least
    c.test-item.is c.word-item.is (sym c.if-is_word.ensures)
