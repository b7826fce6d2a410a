use Rattle.std.proofs.Common.{◌≡◌, ◌∙◌, [], length, codes, Some, None, Ok, unwrap_or, to_z, of_z, sym, ap, rules}
use Rattle.std.specs.Int.{w128}
use Rattle.meanings.proofs.Splits.{follows, no_list}
use Rattle.meanings.specs.Meaning.{Gives}
use Rattle.pure.proofs.KeptLists.{as_many, item_there, none_there, placed_none}
use Rattle.pure.proofs.lindex.at_word.Goals as goal
use Rattle.pure.specs.Lindex.{element}
use Rattle.pure.specs.Place.{item_at, place_of, within}

pub returns-in_err-len : goal.returns-in_err-len
returns-in_err-len g c =
    no_list c.args.list.now (element c.args.index.now) c.from_residual.result
    c.in_err-len.field-0.0 c.in_err-len.ensures.fault c.from_residual.ensures.1

pub returns-in_default : goal.returns-in_default
returns-in_default g c =
    let index = c.args.index.now in
    let read = c.in_ok-len.ensures.len in
    follows c.args.list.now (element index) c.bad_argument.result read.0 read.1
    (placed_none (codes "lindex") index (λ p. Gives (unwrap_or (item_at read.0 p) []))
    c.bad_argument.result (place_of index (length read.0))
    (ap (place_of index) (sym read.2) ∙ sym c.place_of.ensures ∙ c.in_default.is)
    c.bad_argument.ensures)

pub returns-in_default-within : goal.returns-in_default-within
returns-in_default-within g c =
    let read = c.in_ok-len.ensures.len in
    let at : place_of c.args.index.now (length read.0) ≡ Some c.in-Some.place =
    ap (place_of c.args.index.now) (sym read.2) ∙ sym c.place_of.ensures ∙ c.in-Some.is in
    let same : to_z w128 (of_z w128 c.in-Some.place) ≡ c.in-Some.place = search rules in
    let out : within c.in-Some.place (length read.0) ≡ None =
    ap (within c.in-Some.place) (sym read.2) ∙ ap (λ p. within p c.in_ok-len.len) (sym same)
    ∙ sym c.within.ensures ∙ c.in_default-within.is in
    (Ok read.0, read.1, rw (at, none_there read.0 c.in-Some.place out) (search rules))

pub returns-in_err-element : goal.returns-in_err-element
returns-in_err-element g c =
    no_list c.args.list.now (element c.args.index.now) c.from_residual-in_err-element.result
    c.in_err-element.field-0.0 c.in_err-element.ensures.fault
    c.from_residual-in_err-element.ensures.1

pub returns-in-Some-2 : goal.returns-in-Some-2
returns-in-Some-2 g c =
    let first = c.in_ok-len.ensures.len in
    let read = c.in_ok-element.ensures.element in
    let many = as_many c.args.list.now first.0 read.0 c.in_ok-len.len first.1 read.1 first.2 in
    let at : place_of c.args.index.now (length read.0) ≡ Some c.in-Some.place =
    ap (place_of c.args.index.now) (sym many) ∙ sym c.place_of.ensures ∙ c.in-Some.is in
    let same : to_z w128 (of_z w128 c.in-Some.place) ≡ c.in-Some.place = search rules in
    let there : within c.in-Some.place (length read.0) ≡ Some c.in-Some-within.place =
    ap (within c.in-Some.place) (sym many) ∙ ap (λ p. within p c.in_ok-len.len) (sym same)
    ∙ sym c.within.ensures ∙ c.in-Some-within.is in
    let item : item_at read.0 c.in-Some.place ≡ Some c.in-Some-2.element =
    item_there read.0 c.in-Some.place c.in-Some-within.place there ∙ sym read.2 ∙ c.in-Some-2.is in
    (Ok read.0, read.1, rw (at, item) (search rules))

pub returns-in-None : goal.returns-in-None
returns-in-None g c =
    let first = c.in_ok-len.ensures.len in
    let read = c.in_ok-element.ensures.element in
    let many = as_many c.args.list.now first.0 read.0 c.in_ok-len.len first.1 read.1 first.2 in
    let at : place_of c.args.index.now (length read.0) ≡ Some c.in-Some.place =
    ap (place_of c.args.index.now) (sym many) ∙ sym c.place_of.ensures ∙ c.in-Some.is in
    let same : to_z w128 (of_z w128 c.in-Some.place) ≡ c.in-Some.place = search rules in
    let there : within c.in-Some.place (length read.0) ≡ Some c.in-Some-within.place =
    ap (within c.in-Some.place) (sym many) ∙ ap (λ p. within p c.in_ok-len.len) (sym same)
    ∙ sym c.within.ensures ∙ c.in-Some-within.is in
    let item : item_at read.0 c.in-Some.place ≡ None =
    item_there read.0 c.in-Some.place c.in-Some-within.place there ∙ sym read.2 ∙ c.in-None.is in
    (Ok read.0, read.1, rw (at, item) (search rules))
