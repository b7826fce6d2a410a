use Rattle.std.proofs.Common.{codes, ◌++◌, ◌∷◌, refl, sym, ap, ◌∙◌}
use Rattle.acts.specs.Id.{id_text}
use Rattle.lines.specs.Line.{arrival_text}
use Rattle.records.proofs.record.read_arrival.Goals as goal

pub returns-in-Some : goal.returns-in-Some
returns-in-Some g c =
    let (below, small, cut) = rw c.in-Some.is at c.in_ok-id.ensures in
    (arrival_text c.in-Some.id.0 c.in-Some.bytes.items, (below, small, refl), cut)

pub returns : goal.returns
returns g c =
    let (below, bytes, small, spelled, cut) = rw c.in-Some-cut_arrival.is at c.cut_arrival.ensures in
    let id = c.in-Some-cut_arrival.id in
    let rest = c.in-Some-cut_arrival.rest.now in
    let items = c.in_ok-bytes.bytes.items in (
      arrival_text id.0 items,
      (below, c.in_ok-bytes.ensures.bytes, refl),
      cut ∙ ap (λ digits. (id_text id.0 ++ (codes " " ++ digits)) ++ 10 ∷ rest)
          (sym spelled ∙ c.in_ok-bytes.ensures.digits),
    )
