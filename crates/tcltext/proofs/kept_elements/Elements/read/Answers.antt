use Rattle.std.proofs.Common.{ℕ, List, [], ◌∷◌, ◌++◌, ◌∙◌, ap, sym, subst}
use Rattle.tcltext.specs.Seen.{bytes_of}
use Rattle.tcltext.proofs.Elements.{ListSoFar, list_begins, after_element, list_ends, skipped_is, passed_on, split_fault, none_left}
use Rattle.tcltext.proofs.kept_elements.Elements.read.Goals as goal

pub loop-rest-init : goal.loop-rest-init
loop-rest-init g c = record {
  list = subst (λ es. ListSoFar c.args.text.now c.skip_white-rest.result.now es)
      (sym c.new-items.ensures.items) (list_begins c.args.text.now _
      c.skip_white-rest.ensures.rest);
  skipped = skipped_is c.args.text.now _ c.skip_white-rest.ensures.rest;
  begins = c.skip_white-rest.ensures.begins;
}

pub returns-in_err-element-clause-fault : goal.returns-in_err-element-clause-fault
returns-in_err-element-clause-fault g c =
    split_fault c.args.text.now c.loop-rest.rest.now c.loop-rest.items.items _ _
    c.loop-rest.invariant.list c.loop-rest.invariant.skipped c.in_err-element.ensures.element
    (passed_on c.from_residual.result _ c.from_residual.ensures.1)

pub loop-rest-preserved : goal.loop-rest-preserved
loop-rest-preserved g c = record {
  list = after_element c.args.text.now c.loop-rest.rest.now c.in_ok-element.behind.now _
      c.loop-rest.items.items _ (bytes_of c.in_ok-element.element) c.loop-rest.invariant.list
      c.loop-rest.invariant.skipped
      c.in_ok-element.ensures.element (c.in_ok-push.ensures.items
      ∙ ap (λ (b : List ℕ). c.loop-rest.items.items ++ b ∷ []) c.in_ok-kept.ensures)
      c.skip_white-rest-in-loop-rest.ensures.rest;
  skipped = skipped_is c.in_ok-element.behind.now _ c.skip_white-rest-in-loop-rest.ensures.rest;
  begins = c.skip_white-rest-in-loop-rest.ensures.begins;
}

pub returns-clause-list : goal.returns-clause-list
returns-clause-list g c = list_ends c.args.text.now c.loop-rest.rest.now c.loop-rest.items.items
    c.loop-rest.invariant.list (none_left _ c.loop-rest-test.ensures)
