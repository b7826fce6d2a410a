use Rattle.std.proofs.Common.{◌<◌, length, ap, ◌∙◌, arith}
use Rattle.tclstate.specs.Pairs.{put}
use Rattle.tclstate.specs.Stored.{procedures_of}
use Rattle.tclstate.proofs.Entries.{put_insert}
use Rattle.tclstate.proofs.Slots.{AreMarked-put}
use Rattle.tclstate.proofs.procs.Procs.define.Goals as goal

pub invariant_of-self : goal.invariant_of-self
invariant_of-self g c = rw c.in_err-insert.ensures.err c.self.invariant

pub invariant_of-self-2 : goal.invariant_of-self-2
invariant_of-self-2 g c =
    let within : c.slot_of.result < length c.self.inside.slots = omega arith in
    let was = procedures_of c.self.inside.procedures.entries in
    AreMarked-put c.self.inside.slots was _ c.args.name.now c.args.procedure c.slot_of.result
    c.slot_of.ensures.is within
    (ap procedures_of c.in_ok-insert.ensures.entries
    ∙ put_insert (λ p. p) c.self.inside.procedures.entries c.in_ok-key.key c.args.procedure
    ∙ (λ i. put was (c.in_ok-key.ensures.items i) c.args.procedure))
    c.self.invariant

pub returns-clause-ok : goal.returns-clause-ok
returns-clause-ok g c =
    ap procedures_of c.in_ok-insert.ensures.entries
    ∙ put_insert (λ p. p) c.self.inside.procedures.entries c.in_ok-key.key c.args.procedure
    ∙ (λ i. put (c.self.view_is i) (c.in_ok-key.ensures.items i) c.args.procedure)
