use Rattle.std.proofs.Common.{[], ◌∷◌, ◌++◌, ◌∙◌, true, if◌then◌else◌, ap}
use Rattle.tcltext.specs.Joined.{separated}
use Rattle.tcltext.specs.Seen.{bytes_of}
use Rattle.tcltext.proofs.Elements.{list_begins, list_ends, skipped_is, passed_on, split_fault, none_left}
use Rattle.tcltext.proofs.Walks.{one_more, joins_one, joins_all}
use Rattle.tcltext.proofs.list.walk.joined.Goals as goal

pub loop-rest-init : goal.loop-rest-init
loop-rest-init g c = record {
  read = (
    [],
    list_begins c.args.text.now _ c.skip_white-rest.ensures.rest,
    λ v. ap (λ t. t ++ separated true c.args.separator.now v) c.new-whole.ensures.items,
  );
  skipped = skipped_is c.args.text.now _ c.skip_white-rest.ensures.rest;
  begins = c.skip_white-rest.ensures.begins;
}

pub returns-in_err-element-clause-fault : goal.returns-in_err-element-clause-fault
returns-in_err-element-clause-fault g c =
    split_fault c.args.text.now c.loop-rest.rest.now c.loop-rest.invariant.read.0 _ _
    c.loop-rest.invariant.read.1 c.loop-rest.invariant.skipped c.in_err-element.ensures.element
    (passed_on c.from_residual.result _ c.from_residual.ensures.1)

pub loop-rest-preserved-in_ok-push_separated : goal.loop-rest-preserved-in_ok-push_separated
loop-rest-preserved-in_ok-push_separated g c =
    let read = c.loop-rest.invariant.read in
    let e = bytes_of c.in_ok-element.element in record {
      read = (
        read.0 ++ e ∷ [],
        one_more c.args.text.now c.loop-rest.rest.now c.in_ok-element.behind.now _ read.0 e read.1
            c.loop-rest.invariant.skipped c.in_ok-element.ensures.element
            c.skip_white-rest-in-loop-rest.ensures.rest,
        joins_one read.0 e c.args.separator.now c.loop-rest.whole.items
            c.push_separated.new.whole.items c.loop-rest.first read.2
            (c.in_ok-push_separated.ensures
            ∙ ap (λ b. c.loop-rest.whole.items
            ++ ((if c.loop-rest.first then [] else c.args.separator.now) ++ b)) c.as_slice.ensures),
      );
      skipped = skipped_is c.in_ok-element.behind.now _ c.skip_white-rest-in-loop-rest.ensures.rest;
      begins = c.skip_white-rest-in-loop-rest.ensures.begins;
    }

pub loop-rest-preserved : goal.loop-rest-preserved
loop-rest-preserved g c =
    let read = c.loop-rest.invariant.read in
    let e = bytes_of c.in_ok-element.element in record {
      read = (
        read.0 ++ e ∷ [],
        one_more c.args.text.now c.loop-rest.rest.now c.in_ok-element.behind.now _ read.0 e read.1
            c.loop-rest.invariant.skipped c.in_ok-element.ensures.element
            c.skip_white-rest-in-loop-rest.ensures.rest,
        joins_one read.0 e c.args.separator.now c.loop-rest.whole.items
            c.push_separated.new.whole.items c.loop-rest.first read.2
            (c.in_ok-push_separated.ensures
            ∙ ap (λ b. c.loop-rest.whole.items
            ++ ((if c.loop-rest.first then [] else c.args.separator.now) ++ b)) c.as_slice.ensures),
      );
      skipped = skipped_is c.in_ok-element.behind.now _ c.skip_white-rest-in-loop-rest.ensures.rest;
      begins = c.skip_white-rest-in-loop-rest.ensures.begins;
    }

pub returns-clause-joined : goal.returns-clause-joined
returns-clause-joined g c =
    let read = c.loop-rest.invariant.read in
    let is = list_ends c.args.text.now c.loop-rest.rest.now read.0 read.1
    (none_left _ c.loop-rest-test.ensures) in
    (read.0, is, joins_all read.0 c.args.separator.now c.loop-rest.whole.items c.loop-rest.first read.2)
