use Rattle.std.proofs.Common.{◌∙◌, ap}
use Rattle.nesting.proofs.Doings.{begun_so, catch_so, for_so, if_so, while_so}
use Rattle.nesting.specs.Commands.{does}
use Rattle.nesting.specs.Doing.{catch_words, for_words, if_words, while_words}
use Rattle.nesting.specs.View.{control_of}
use Rattle.nesting.proofs.table.begin.Goals as goal

pub returns-in_ok-from_words-in-Catch-clause-begins : goal.returns-in_ok-from_words-in-Catch-clause-begins
returns-in_ok-from_words-in-Catch-clause-begins g c = λ s fits.
    let levels = c.args.levels in
    let args = c.args.args.now in
    begun_so c.in_ok-from_words-in-Catch.field-0 c.args.state.now _ s fits
    (ap (λ it. does (control_of it) levels args s) c.in-Catch.is ∙ catch_so levels s args
    ∙ c.in_ok-from_words-in-Catch.ensures (catch_words args) s c.read.ensures)

pub returns-in_ok-from_words-in-For-clause-begins : goal.returns-in_ok-from_words-in-For-clause-begins
returns-in_ok-from_words-in-For-clause-begins g c = λ s fits.
    let levels = c.args.levels in
    let args = c.args.args.now in
    begun_so c.in_ok-from_words-in-For.field-0 c.args.state.now _ s fits
    (ap (λ it. does (control_of it) levels args s) c.in-For.is ∙ for_so levels s args
    ∙ c.in_ok-from_words-in-For.ensures (for_words args) s c.read-in-For.ensures)

pub returns-in_ok-from_words-in-If-clause-begins : goal.returns-in_ok-from_words-in-If-clause-begins
returns-in_ok-from_words-in-If-clause-begins g c = λ s fits.
    let levels = c.args.levels in
    let args = c.args.args.now in
    begun_so c.in_ok-from_words-in-If.field-0 c.args.state.now _ s fits
    (ap (λ it. does (control_of it) levels args s) c.in-If.is ∙ if_so levels s args
    ∙ c.in_ok-from_words-in-If.ensures (if_words args) s c.read-in-If.ensures)

pub returns-in_ok-from_words-in-While-clause-begins : goal.returns-in_ok-from_words-in-While-clause-begins
returns-in_ok-from_words-in-While-clause-begins g c = λ s fits.
    let levels = c.args.levels in
    let args = c.args.args.now in
    begun_so c.in_ok-from_words-in-While.field-0 c.args.state.now _ s fits
    (ap (λ it. does (control_of it) levels args s) c.in-While.is ∙ while_so levels s args
    ∙ c.in_ok-from_words-in-While.ensures (while_words args) s c.read-in-While.ensures)
