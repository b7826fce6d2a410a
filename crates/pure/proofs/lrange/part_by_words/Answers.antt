use Rattle.std.proofs.Common.{◌≡◌, ◌∙◌, length, codes, Some, Ok, sym, ap, rules}
use Rattle.meanings.proofs.Splits.{follows, no_list}
use Rattle.meanings.specs.Meaning.{Gives}
use Rattle.pure.proofs.KeptLists.{as_many, part_same, placed_none, placed_some}
use Rattle.pure.proofs.lrange.part_by_words.Goals as goal
use Rattle.pure.specs.Lrange.{part}
use Rattle.pure.specs.Place.{items_from, on_place, place_of}
use Rattle.tcltext.specs.Canonical.{canonical}

pub returns-in_err-len : goal.returns-in_err-len
returns-in_err-len g c =
    no_list c.args.list.now (part c.args.first.now c.args.last.now) c.from_residual.result
    c.in_err-len.field-0.0 c.in_err-len.ensures.fault c.from_residual.ensures.1

pub returns-in_default : goal.returns-in_default
returns-in_default g c =
    let read = c.in_ok-len.ensures.len in
    follows c.args.list.now (part c.args.first.now c.args.last.now) c.bad_argument.result read.0
    read.1
    (placed_none (codes "lrange") c.args.first.now (λ from.
    on_place (codes "lrange") c.args.last.now (length read.0) (λ to.
    Gives (canonical (items_from read.0 from to))))
    c.bad_argument.result (place_of c.args.first.now (length read.0))
    (ap (place_of c.args.first.now) (sym read.2) ∙ sym c.place_of.ensures ∙ c.in_default.is)
    c.bad_argument.ensures)

pub returns-in_default-place_of : goal.returns-in_default-place_of
returns-in_default-place_of g c =
    let read = c.in_ok-len.ensures.len in
    follows c.args.list.now (part c.args.first.now c.args.last.now)
    c.bad_argument-in_default-place_of.result read.0 read.1
    (placed_some (codes "lrange") c.args.first.now (λ from.
    on_place (codes "lrange") c.args.last.now (length read.0) (λ to.
    Gives (canonical (items_from read.0 from to))))
    c.bad_argument-in_default-place_of.result (place_of c.args.first.now (length read.0))
    c.in-Some.from
    (ap (place_of c.args.first.now) (sym read.2) ∙ sym c.place_of.ensures ∙ c.in-Some.is)
    (placed_none (codes "lrange") c.args.last.now (λ to.
    Gives (canonical (items_from read.0 c.in-Some.from to)))
    c.bad_argument-in_default-place_of.result (place_of c.args.last.now (length read.0))
    (ap (place_of c.args.last.now) (sym read.2) ∙ sym c.place_of-2.ensures
    ∙ c.in_default-place_of.is)
    c.bad_argument-in_default-place_of.ensures))

pub returns-in_err-range_of : goal.returns-in_err-range_of
returns-in_err-range_of g c =
    no_list c.args.list.now (part c.args.first.now c.args.last.now)
    c.from_residual-in_err-range_of.result c.in_err-range_of.field-0.0
    c.in_err-range_of.ensures.fault c.from_residual-in_err-range_of.ensures.1

pub returns : goal.returns
returns g c =
    let first = c.in_ok-len.ensures.len in
    let read = c.in_ok-range_of.ensures.list in
    let many = as_many c.args.list.now first.0 read.0 c.in_ok-len.len first.1 read.1 first.2 in
    let from : place_of c.args.first.now (length read.0) ≡ Some c.in-Some.from =
    ap (place_of c.args.first.now) (sym many) ∙ sym c.place_of.ensures ∙ c.in-Some.is in
    let to : place_of c.args.last.now (length read.0) ≡ Some c.in-Some-place_of.to =
    ap (place_of c.args.last.now) (sym many) ∙ sym c.place_of-2.ensures ∙ c.in-Some-place_of.is in
    (Ok read.0, read.1, rw (from, to) (search (rules, part_same)))
