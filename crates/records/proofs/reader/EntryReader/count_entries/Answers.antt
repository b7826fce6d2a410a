use Rattle.std.proofs.Common.{◌+◌, IfErr, sym, ap, subst}
use Rattle.std.proofs.lemmas.Result.{err_from_is_err_and}
use Rattle.records.specs.Reading.{HasFault, place_of}
use Rattle.records.proofs.Readings.{AreSome-all, AreSome-more, AreSome-none, front_some, stopped_on}
use Rattle.records.proofs.reader.EntryReader.count_entries.Goals as goal

pub returns-in_err-lines-clause-fault : goal.returns-in_err-lines-clause-fault
returns-in_err-lines-clause-fault g c =
    let gives = g.S.Source.gives in
    let up = g.S.Source.gives_up in
    let most = g.S.Source.most in
    let before = place_of c.args.self.now in
    let after = place_of c.pass.new.self in
    let (found, is, same) = err_from_is_err_and c.from_residual.result c.from_residual.ensures.1 in
    subst (λ result. IfErr result (HasFault gives up most before after)) (sym is)
    (subst (HasFault gives up most before after) (sym same)
    (stopped_on gives most up before (place_of c.loop-lines.self) after c.loop-lines.count
    c.loop-lines.line c.in_err-lines.field-0.0 c.loop-lines.invariant.0 c.in_err-lines.ensures.stopped))

pub loop-lines-init : goal.loop-lines-init
loop-lines-init g c = (
  AreSome-none g.S.Source.gives g.S.Source.most (place_of c.args.self.now),
  c.requires.known,
)

pub loop-lines-smaller : goal.loop-lines-smaller
loop-lines-smaller g c =
    let (note, front, are, number, reads) = rw c.in-Some.is at c.in_ok-lines.ensures.next in
    front_some g.S.Source.gives g.S.Source.most (place_of c.loop-lines.self)
    (place_of c.pass.new.self) note front are reads

pub loop-lines-preserved : goal.loop-lines-preserved
loop-lines-preserved g c =
    let (note, front, are, number, reads) = rw c.in-Some.is at c.in_ok-lines.ensures.next in (
      AreSome-more g.S.Source.gives g.S.Source.most (place_of c.args.self.now)
          (place_of c.loop-lines.self) (place_of c.pass.new.self) c.loop-lines.count c.loop-lines.line _
          note front c.loop-lines.invariant.0 are reads (ap (λ n. c.loop-lines.line + n) number),
      c.in_ok-lines.ensures.known c.loop-lines.invariant.1,
    )

pub returns-clause-all : goal.returns-clause-all
returns-clause-all g c =
    let (reads, none) = rw c.in_default.is at c.in_ok-lines.ensures.next in
    AreSome-all g.S.Source.gives g.S.Source.most (place_of c.args.self.now)
    (place_of c.loop-lines.self) (place_of c.pass.new.self) c.loop-lines.count c.loop-lines.line
    c.loop-lines.invariant.0 reads none
    (c.in_ok-lines.ensures.known c.loop-lines.invariant.1 (rw c.in_default.is at c.in_ok-lines.ensures.ended))
