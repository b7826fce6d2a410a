use Rattle.std.proofs.Common.{◌≡◌, ◌<◌, ◌==◌, ◌++◌, ℕ, Option, IfSome, List, ap, length, position, subst, sym, ◌∙◌, rules}
use Rattle.choices.specs.Lines.{Line, Rise, numbers, upcoming}
use Rattle.std.specs.List.Sorted.{IsSearchInRange}
use Rattle.std.specs.Result.{result_ok}
use Rattle.std.proofs.lemmas.List.Sorted.{answers_always}
use Rattle.choices.proofs.Halves.{by_halves, ok_below}
use Rattle.choices.proofs.table.Table.place.Goals as goal

pub returns-clause-place : goal.returns-clause-place
returns-clause-place g c =
    let same = c.deref.ensures.value in
    c.ok.ensures.value
    ∙ subst (λ (ls : List Line). result_ok c.binary_search_by_key.result
    ≡ position (λ l. l.id.0 == c.args.id.0) ls) (same ∙ ap (λ t. t.lines) c.self.view_is)
    (by_halves c.args.id c.deref.result.now (upcoming c.self.inside.next)
    c.binary_search_by_key.result
    (subst (λ (ls : List Line). Rise (numbers ls ++ upcoming c.self.inside.next)) (sym same)
    c.self.invariant.1)
    c.binary_search_by_key.ensures.bound
    (c.binary_search_by_key.ensures.position (λ l. l.id.0)
    (answers_always _ _ _ (λ f a r h called. search rules))))

pub returns-clause-inside : goal.returns-clause-inside
returns-clause-inside g c =
    subst (λ (o : Option ℕ). IfSome o (λ place. place < length c.args.self.now.lines))
    (sym c.ok.ensures.value)
    (ok_below c.binary_search_by_key.result (length c.args.self.now.lines)
    (subst (λ (ls : List Line). IsSearchInRange c.binary_search_by_key.result (length ls))
    (c.deref.ensures.value ∙ ap (λ t. t.lines) c.self.view_is)
    c.binary_search_by_key.ensures.bound))
