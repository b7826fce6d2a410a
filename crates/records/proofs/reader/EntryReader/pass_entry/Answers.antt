use Rattle.std.proofs.Common.{◌-◌, drop, length, sym, ap, ◌∙◌}
use Rattle.records.specs.Reading.{unused}
use Rattle.records.proofs.Readings.{ReadsOn-used}
use Rattle.records.proofs.reader.EntryReader.pass_entry.Goals as goal

pub returns-clause-next : goal.returns-clause-next
returns-clause-next g c =
    let held = unused c.args.self.now.ahead in
    let rest = c.in_ok-lines.rest.now in
    let (note, front, are, number, split) = c.in_ok-lines.ensures in (
      note,
      front,
      are,
      number,
      ReadsOn-used g.S.Source.gives g.S.Source.most c.args.self.now.source held front rest
          (unused c.use_up.new.self) (sym c.text-text.ensures ∙ split)
          (c.use_up.ensures ∙ ap (λ text. drop (length text - length rest) held) c.text-text.ensures),
    )
