use Rattle.std.proofs.Common.{◌≡◌, None, length, reverse, refl, sym, ap, subst, ◌∙◌, rules}
use Rattle.std.proofs.lemmas.List.{nil_from_length}
use Rattle.std.proofs.lemmas.Option.{IfSome_then}
use Rattle.tclstate.specs.Scopes.{read, scopes, written}
use Rattle.tclstate.specs.Sum.{HasSum, NoSumInPlace}
use Rattle.tclstate.proofs.Innermost.{changed_innermost, holds_innermost, unchanged_innermost}
use Rattle.tclstate.proofs.Sums.{IfNone_then, IfNone_both, same_sum, same_missed}
use Rattle.tclstate.proofs.scopes.Scopes.add.Goals as goal

pub returns-in-Some-clause-added : goal.returns-in-Some-clause-added
returns-in-Some-clause-added g c =
    IfSome_then c.add.result c.add.ensures.added
    (λ sum h. holds_innermost c.self.inside.locals.items _ c.self.inside.locals.ok.0
    (c.in-Some.ensures.variant.0 refl) c.in-Some.frame.now c.in-Some.ensures.value
    c.self.inside.globals _ c.self.view_is (HasSum c.args.by sum)
    (λ s. read s c.args.name.now None) (λ outer. same_sum c.args.by sum _ c.ranges.by (h outer)))

pub returns-in-Some-clause-written : goal.returns-in-Some-clause-written
returns-in-Some-clause-written g c =
    IfSome_then c.add.result c.add.ensures.written
    (λ sum. changed_innermost c.self.inside.locals.items _ c.self.inside.locals.ok.0
    (c.in-Some.ensures.variant.0 refl) c.in-Some.frame.now c.in-Some.ensures.value
    c.self.inside.globals _ c.self.view_is (λ s. written s c.args.name.now None sum) _ _)

pub returns-in-Some-clause-unchanged : goal.returns-in-Some-clause-unchanged
returns-in-Some-clause-unchanged g c =
    IfNone_both c.add.result
    (unchanged_innermost c.self.inside.locals.items _ c.self.inside.locals.ok.0
    (c.in-Some.ensures.variant.0 refl) c.in-Some.frame.now c.in-Some.ensures.value
    c.self.inside.globals _ c.self.view_is _ _)
    c.add.ensures.unchanged c.add.ensures.unchanged_globals

pub returns-in-Some-clause-missed : goal.returns-in-Some-clause-missed
returns-in-Some-clause-missed g c =
    IfNone_then c.add.result c.add.ensures.missed
    (λ h. holds_innermost c.self.inside.locals.items _ c.self.inside.locals.ok.0
    (c.in-Some.ensures.variant.0 refl) c.in-Some.frame.now c.in-Some.ensures.value
    c.self.inside.globals _ c.self.view_is (NoSumInPlace c.args.by)
    (λ s. read s c.args.name.now None) (λ outer. same_missed c.args.by _ c.ranges.by (h outer)))

pub returns-in-None-clause-missed : goal.returns-in-None-clause-missed
returns-in-None-clause-missed g c =
    let none : length c.self.inside.locals.items ≡ 0 = search rules in
    let top = ap (λ l. scopes (reverse l) c.self.inside.globals)
    (sym (nil_from_length c.self.inside.locals.items none)) ∙ c.self.view_is in
    IfNone_then c.add-in-None.result c.add-in-None.ensures.missed
    (λ h. subst (λ s. NoSumInPlace c.args.by (read s c.args.name.now None)) top
    (same_missed c.args.by _ c.ranges.by h))
