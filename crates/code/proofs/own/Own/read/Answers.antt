use Rattle.std.proofs.Common.{◌-◌, codes, drop, length, refl, rules, take}
use Rattle.code.proofs.Fronts.{one_first}
use Rattle.code.proofs.Owns.{read_by_name}
use Rattle.code.specs.declared.own.Own.TheVariants as own
use Rattle.code.proofs.own.Own.read.Goals as goal

pub returns-then-eq : goal.returns-then-eq
returns-then-eq g c =
    let texts = c.args.texts.now in
    let name = c.name-item.result in
    read_by_name own.If (codes "if") name texts (take (length texts - 1) (drop 1 texts))
    c.in_ok-read_if.field-0 c.map.result (λ it. refl) (search rules)
    (one_first texts name c.in-len1-up.len_at_least c.name-item.is) c.in_ok-read_if.ensures
    (search rules)

pub returns-then-eq-2 : goal.returns-then-eq-2
returns-then-eq-2 g c =
    let texts = c.args.texts.now in
    let name = c.name-item.result in
    read_by_name own.While (codes "while") name texts (take (length texts - 1) (drop 1 texts))
    c.in_ok-read_while.field-0 c.map-then-eq-2.result (λ it. refl) (search rules)
    (one_first texts name c.in-len1-up.len_at_least c.name-item.is) c.in_ok-read_while.ensures
    (search rules)

pub returns-then-eq-3 : goal.returns-then-eq-3
returns-then-eq-3 g c =
    let texts = c.args.texts.now in
    let name = c.name-item.result in
    read_by_name own.For (codes "for") name texts (take (length texts - 1) (drop 1 texts))
    c.in_ok-read_for.field-0 c.map-then-eq-3.result (λ it. refl) (search rules)
    (one_first texts name c.in-len1-up.len_at_least c.name-item.is) c.in_ok-read_for.ensures
    (search rules)

pub returns-then-eq-4 : goal.returns-then-eq-4
returns-then-eq-4 g c =
    let texts = c.args.texts.now in
    let name = c.name-item.result in
    read_by_name own.Eval (codes "eval") name texts (take (length texts - 1) (drop 1 texts))
    c.in_ok-read_joined.field-0 c.map-then-eq-4.result (λ it. refl) (search rules)
    (one_first texts name c.in-len1-up.len_at_least c.name-item.is) c.in_ok-read_joined.ensures
    (search rules)

pub returns-then-eq-5 : goal.returns-then-eq-5
returns-then-eq-5 g c =
    let texts = c.args.texts.now in
    let name = c.name-item.result in
    read_by_name own.Catch (codes "catch") name texts (take (length texts - 1) (drop 1 texts))
    c.in_ok-read_catch.field-0 c.map-then-eq-5.result (λ it. refl) (search rules)
    (one_first texts name c.in-len1-up.len_at_least c.name-item.is) c.in_ok-read_catch.ensures
    (search rules)

pub returns-then-eq-6 : goal.returns-then-eq-6
returns-then-eq-6 g c =
    let texts = c.args.texts.now in
    let name = c.name-item.result in
    read_by_name own.Expr (codes "expr") name texts (take (length texts - 1) (drop 1 texts))
    c.in_ok-read_joined-2.field-0 c.map-then-eq-6.result (λ it. refl) (search rules)
    (one_first texts name c.in-len1-up.len_at_least c.name-item.is) c.in_ok-read_joined-2.ensures
    (search rules)
