use Rattle.std.proofs.Common.{◌≡◌, ◌∙◌, ◌<◌, length, true, false, is_some, ap, rules, arith}
use Rattle.std.specs.List.{list_all}
use Rattle.std.specs.Prelude.{codes}
use Rattle.acts.specs.Flaw as flaw
use Rattle.nesting.proofs.Names.{names_none, names_good, names_bad}
use Rattle.nesting.specs.Foreach.{on_names}
use Rattle.state.proofs.Reaches.{same_reaches, then_reaches}
use Rattle.state.specs.Dialogue.{raises}
use Rattle.tclparse.specs.Variable.{named}
use Rattle.nesting.proofs.pair.names_of.Goals as goal

pub returns-in-Err-clause-names : goal.returns-in-Err-clause-names
returns-in-Err-clause-names g c = λ s next.
    let missed = rw c.in-Err.is at c.in_ok-names.ensures in
    missed s (λ ns. on_names c.args.word.now ns s next)

pub returns-then-is_empty-clause-names : goal.returns-then-is_empty-clause-names
returns-then-is_empty-clause-names g c = λ s next.
    let word = c.args.word.now in
    let names = c.in-Ok.names.items in
    let came = rw c.in-Ok.is at c.in_ok-names.ensures in
    let none : length names ≡ 0 = search (rules, arith) in
    let told : flaw.BadArgument word (codes "foreach")
    ≡ flaw.BadArgument c.in_ok-word.word.items c.in_ok-command.command.items = search rules in
    then_reaches (came s (λ ns. on_names word ns s next))
    (same_reaches (names_none word names s next none ∙ ap (λ f. raises f s) told))

pub returns-then-not-all_named-clause-names : goal.returns-then-not-all_named-clause-names
returns-then-not-all_named-clause-names g c = λ s next.
    let word = c.args.word.now in
    let names = c.in-Ok.names.items in
    let came = rw c.in-Ok.is at c.in_ok-names.ensures in
    let some : 0 < length names = search (rules, arith) in
    let bad : list_all (λ w. is_some (named w)) names ≡ false = search rules in
    then_reaches (came s (λ ns. on_names word ns s next))
    (same_reaches (names_bad word names s next some bad))

pub returns-clause-names : goal.returns-clause-names
returns-clause-names g c = λ s next.
    let word = c.args.word.now in
    let names = c.in-Ok.names.items in
    let came = rw c.in-Ok.is at c.in_ok-names.ensures in
    let some : 0 < length names = search (rules, arith) in
    let good : list_all (λ w. is_some (named w)) names ≡ true = search rules in
    then_reaches (came s (λ ns. on_names word ns s next))
    (same_reaches (names_good word names s next some good))
