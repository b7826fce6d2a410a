use Rattle.std.proofs.Common.{◌≡◌, ◌==◌, ◌++◌, ◌∙◌, ℕ, List, Option, length, IfOk, IfSome, ap, subst}
use Rattle.tcltext.specs.Elements.{IsList}
use Rattle.tcltext.proofs.Grown.{grown_text, grown_list}
use Rattle.tcltext.proofs.value.Value.push_elements.Goals as goal

pub with_elements-requires-clause-canonical : goal.with_elements-requires-clause-canonical
with_elements-requires-clause-canonical g c = (
  c.requires.0 ++ c.args.more.now,
  grown_text c.args.self c.in_ok-text.text.items c.push_values.new.text.items c.requires.0
      c.args.more.now c.is_empty-first.result c.requires.1
      (c.is_empty-first.ensures ∙ ap (λ (x : List ℕ). length x == 0) c.as_slice.ensures)
      c.in_ok-text.ensures.bytes c.in_ok-push_values.ensures,
)

pub with_elements-requires-clause-elements : goal.with_elements-requires-clause-elements
with_elements-requires-clause-elements g c =
    grown_list c.args.self c.push_values.new.text.items c.in-Some.elements c.requires.0
    c.args.more.now c.push_all.new.self c.requires.1
    (subst (λ (o : Option (List (List ℕ))). IfSome o (λ v. IsList v c.args.self)) c.in-Some.is
    c.in_ok-text.ensures.elements)
    c.in_ok-push_all-in-Some.ensures
    (grown_text c.args.self c.in_ok-text.text.items c.push_values.new.text.items c.requires.0
    c.args.more.now c.is_empty-first.result c.requires.1
    (c.is_empty-first.ensures ∙ ap (λ (x : List ℕ). length x == 0) c.as_slice.ensures)
    c.in_ok-text.ensures.bytes c.in_ok-push_values.ensures)

pub marked-requires : goal.marked-requires
marked-requires g c = λ marked. (
  c.requires.0 ++ c.args.more.now,
  grown_text c.args.self c.in_ok-text.text.items c.push_values.new.text.items c.requires.0
      c.args.more.now c.is_empty-first.result c.requires.1
      (c.is_empty-first.ensures ∙ ap (λ (x : List ℕ). length x == 0) c.as_slice.ensures)
      c.in_ok-text.ensures.bytes c.in_ok-push_values.ensures,
)

pub returns-in_ok-push_all-in-Some : goal.returns-in_ok-push_all-in-Some
returns-in_ok-push_all-in-Some g c = λ v is.
    subst (λ (text : List ℕ). IfOk c.with_elements.result (λ list. list ≡ text))
    (grown_text c.args.self c.in_ok-text.text.items c.push_values.new.text.items v
    c.args.more.now c.is_empty-first.result is
    (c.is_empty-first.ensures ∙ ap (λ (x : List ℕ). length x == 0) c.as_slice.ensures)
    c.in_ok-text.ensures.bytes c.in_ok-push_values.ensures)
    c.with_elements.ensures

pub returns-in-None : goal.returns-in-None
returns-in-None g c = λ v is.
    subst (λ (text : List ℕ). IfOk c.marked.result (λ list. list ≡ text))
    (grown_text c.args.self c.in_ok-text.text.items c.push_values.new.text.items v
    c.args.more.now c.is_empty-first.result is
    (c.is_empty-first.ensures ∙ ap (λ (x : List ℕ). length x == 0) c.as_slice.ensures)
    c.in_ok-text.ensures.bytes c.in_ok-push_values.ensures)
    c.marked.ensures
