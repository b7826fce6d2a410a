use Rattle.std.proofs.Common.{◌≡◌, ◌∙◌, decimal, subst}
use Rattle.records.specs.Sink.{Takes}
use Rattle.records.proofs.sink.put_digits.Goals as goal

pub returns : goal.returns
returns g c =
    let digits : c.as_bytes.result.now ≡ decimal c.args.number =
    c.as_bytes.ensures.value ∙ c.format.ensures.text in
    subst (λ text. Takes g.S.Sink.adds g.S.Sink.has_failed c.args.sink.now text
    c.put_all.new.sink) digits c.put_all.ensures
