use Rattle.std.proofs.Common.{[], ◌∷◌, ◌++◌, ◌<◌, length, refl, arith}
use Rattle.tcltext.specs.Seen.{bytes_of}
use Rattle.tcltext.proofs.Elements.{list_begins, list_ends, skipped_is, passed_on, split_fault, none_left}
use Rattle.tcltext.proofs.Walks.{one_more, counted}
use Rattle.tcltext.proofs.list.walk.count.Goals as goal

pub loop-rest-init : goal.loop-rest-init
loop-rest-init g c = record {
  read = ([], list_begins c.args.text.now _ c.skip_white-rest.ensures.rest, refl);
  fewer = omega arith;
  skipped = skipped_is c.args.text.now _ c.skip_white-rest.ensures.rest;
  begins = c.skip_white-rest.ensures.begins;
}

pub returns-in_err-_element-clause-fault : goal.returns-in_err-_element-clause-fault
returns-in_err-_element-clause-fault g c =
    split_fault c.args.text.now c.loop-rest.rest.now c.loop-rest.invariant.read.0 _ _
    c.loop-rest.invariant.read.1 c.loop-rest.invariant.skipped c.in_err-_element.ensures.element
    (passed_on c.from_residual.result _ c.from_residual.ensures.1)

pub loop-rest-preserved-in_ok-_element : goal.loop-rest-preserved-in_ok-_element
loop-rest-preserved-in_ok-_element g c =
    let read = c.loop-rest.invariant.read in
    let e = bytes_of c.in_ok-_element._element in
    let less : length c.in_ok-_element.behind.now < length c.loop-rest.rest.now =
    c.in_ok-_element.ensures.shorter in record {
      read = (
        read.0 ++ e ∷ [],
        one_more c.args.text.now c.loop-rest.rest.now c.in_ok-_element.behind.now _ read.0 e read.1
            c.loop-rest.invariant.skipped c.in_ok-_element.ensures.element
            c.skip_white-rest-in-loop-rest.ensures.rest,
        counted read.0 e c.loop-rest.count read.2,
      );
      fewer = omega arith;
      skipped = skipped_is c.in_ok-_element.behind.now _ c.skip_white-rest-in-loop-rest.ensures.rest;
      begins = c.skip_white-rest-in-loop-rest.ensures.begins;
    }

pub loop-rest-preserved : goal.loop-rest-preserved
loop-rest-preserved g c =
    let read = c.loop-rest.invariant.read in
    let e = bytes_of c.in_ok-_element._element in
    let less : length c.in_ok-_element.behind.now < length c.loop-rest.rest.now =
    c.in_ok-_element.ensures.shorter in record {
      read = (
        read.0 ++ e ∷ [],
        one_more c.args.text.now c.loop-rest.rest.now c.in_ok-_element.behind.now _ read.0 e read.1
            c.loop-rest.invariant.skipped c.in_ok-_element.ensures.element
            c.skip_white-rest-in-loop-rest.ensures.rest,
        counted read.0 e c.loop-rest.count read.2,
      );
      fewer = omega arith;
      skipped = skipped_is c.in_ok-_element.behind.now _ c.skip_white-rest-in-loop-rest.ensures.rest;
      begins = c.skip_white-rest-in-loop-rest.ensures.begins;
    }

pub returns-clause-len : goal.returns-clause-len
returns-clause-len g c =
    let read = c.loop-rest.invariant.read in
    let is = list_ends c.args.text.now c.loop-rest.rest.now read.0 read.1
    (none_left _ c.loop-rest-test.ensures) in
    (read.0, is, read.2)
