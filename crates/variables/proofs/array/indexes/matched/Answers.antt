use Rattle.std.proofs.Common.{rules, ◌≡◌, ℕ, List, Result, Ok, Err, false, length, nat_lt, if◌then◌else◌, refl, sym, ap, subst}
use Rattle.acts.specs.Flaw as flaw
use Rattle.acts.specs.Flaw.{Flaw}
use Rattle.kinds.proofs.Readings.{then_comes}
use Rattle.kinds.specs.Readings.{ComesTo, Found, Reading, and_then}
use Rattle.patterns.specs.Glob.{plain}
use Rattle.variables.specs.Array.Indexes as definition
use Rattle.variables.proofs.array.indexes.matched.Goals as goal

pub returns-in_ok-taken-in-Ok : goal.returns-in_ok-taken-in-Ok
returns-in_ok-taken-in-Ok g c =
    let word = c.args.word.now in
    let texts = c.args.texts.now in
    let found = c.in_ok-taken-in-Ok.field-0.items in
    let next : List (List ℕ) → Reading (Result (List (List ℕ)) Flaw) = λ ts. Found (Ok ts) in
    let short : nat_lt 1000000 (length word) ≡ false = search rules in
    let takes = subst (λ items. ComesTo (definition.taken items texts) found)
    (ap (λ p. p.items) c.in-Ok.ensures.value) c.in_ok-taken-in-Ok.ensures in
    subst
    (λ long. ComesTo (if long then Found (Err flaw.PatternTooLong)
    else and_then (definition.taken (plain word).items texts) next) (Ok found)) (sym short)
    (then_comes (definition.taken (plain word).items texts) next found (Ok found) takes refl)
