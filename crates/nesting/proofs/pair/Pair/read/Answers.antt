use Rattle.std.proofs.Common.{ℕ, List, ap, sym}
use Rattle.nesting.specs.Foreach.{Pair}
use Rattle.state.specs.Listed.{with_list}
use Rattle.state.proofs.Reaches.{same_reaches, then_reaches}
use Rattle.state.specs.Dialogue.{Course}
use Rattle.nesting.proofs.pair.Pair.read.Goals as goal

-- what follows the elements of some names
abbrev seen : (Pair → Course) → List (List ℕ) → List (List ℕ) → Course
seen next names elements = next (record { names = names; elements = elements })

pub returns-in-Err-clause-reads : goal.returns-in-Err-clause-reads
returns-in-Err-clause-reads g c = λ s next.
    let missed = rw c.in-Err.is at c.in_ok-names.ensures.names in
    missed s (λ names. with_list c.args.list.now s (seen next names))

pub returns-in-Err-2-clause-reads : goal.returns-in-Err-2-clause-reads
returns-in-Err-2-clause-reads g c = λ s next.
    let came = rw c.in-Ok.is at c.in_ok-names.ensures.names in
    let missed = rw c.in-Err-2.is at c.in_ok-elements.ensures in
    then_reaches (came s (λ names. with_list c.args.list.now s (seen next names)))
    (missed s (seen next c.in-Ok.names.items))

pub returns-clause-reads : goal.returns-clause-reads
returns-clause-reads g c = λ s next.
    let names = c.in-Ok.names.items in
    let came = rw c.in-Ok.is at c.in_ok-names.ensures.names in
    let more = rw c.in-Ok-2.is at c.in_ok-elements.ensures in
    then_reaches (came s (λ names. with_list c.args.list.now s (seen next names)))
    (then_reaches (more s (seen next names))
    (same_reaches (ap (λ elements. seen next names elements) (sym c.from-elements.ensures.0))))
