use Rattle.std.proofs.Common.{sym, subst}
use Rattle.tcltext.specs.Elements.{IsList}
use Rattle.tclstate.specs.FormalsError.{IsNoFormal}
use Rattle.tclstate.proofs.Reading.{bad_formal, formals_end}
use Rattle.tclstate.proofs.formals.Formals.read.Goals as goal

pub returns-in-Err-read_formal-clause-fault : goal.returns-in-Err-read_formal-clause-fault
returns-in-Err-read_formal-clause-fault g c =
    bad_formal c.in-Err-read_formal.error c.args.text.now c.deref-word-items.result.now
    c.loop-word.word-index c.word-item.result
    (subst (λ l. IsList l c.args.text.now) (sym c.deref-word-items.ensures.value)
    c.in-Ok.ensures.list) c.loop-word-test.true c.word-item.is
    (subst (IsNoFormal c.in-Err-read_formal.error) c.as_slice.ensures
    c.in-Err-read_formal.ensures.fault)

pub returns-clause-formals : goal.returns-clause-formals
returns-clause-formals g c = (
  c.deref-word-items.result.now,
  subst (λ l. IsList l c.args.text.now) (sym c.deref-word-items.ensures.value) c.in-Ok.ensures.list,
  formals_end c.deref-word-items.result.now c.loop-word.word-index c.loop-word.list.items
      c.loop-word.invariant c.loop-word-test.false,
)
