use Rattle.std.proofs.Common.{◌∙◌, [], Ok, unwrap_or, sym, ap}
use Rattle.meanings.proofs.Splits.{no_list}
use Rattle.pure.proofs.Fixed.{element_there}
use Rattle.pure.proofs.lindex.at_number.Goals as goal
use Rattle.pure.specs.Lindex.{element}

pub returns-in_err-element : goal.returns-in_err-element
returns-in_err-element g c = λ index fixed.
    no_list c.args.list.now (element index) c.from_residual.result c.in_err-element.field-0.0
    c.in_err-element.ensures.fault c.from_residual.ensures.1

pub returns-in-Some : goal.returns-in-Some
returns-in-Some g c = λ index fixed.
    let read = c.in_ok-element.ensures.element in (
      Ok read.0,
      read.1,
      element_there read.0 index c.args.number c.in-Some.element fixed
          (ap (λ o. unwrap_or o []) (sym c.in-Some.is ∙ read.2)),
    )

pub returns-in-None : goal.returns-in-None
returns-in-None g c = λ index fixed.
    let read = c.in_ok-element.ensures.element in (
      Ok read.0,
      read.1,
      element_there read.0 index c.args.number _ fixed
          (c.empty.ensures ∙ ap (λ o. unwrap_or o []) (sym c.in-None.is ∙ read.2)),
    )
