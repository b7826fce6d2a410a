use Rattle.std.proofs.Common.{◌≡◌, ◌∙◌, ◌<◌, ℕ, ℤ, List, IfNone, length, w64, to_z, of_z, sym, ap, subst, rules}
use Rattle.std.specs.Fmt.{signed_decimal}
use Rattle.tcltext.specs.Numeral.{IsNumeral}
use Rattle.tcltext.proofs.Decimals.{is_numeral}
use Rattle.tcltext.proofs.Room.{small_has_room}
use Rattle.tcltext.proofs.value.Value.int_in_place.Goals as goal

pub with_number-requires : goal.with_number-requires
with_number-requires g c =
    let same : to_z w64 (of_z w64 c.args.n) ≡ c.args.n = search rules in
    subst (IsNumeral (to_z w64 (of_z w64 c.args.n)))
    (sym (c.as_bytes-text.ensures.value ∙ c.format.ensures.text))
    (subst (λ (z : ℤ). IsNumeral z (signed_decimal z)) (sym same)
    (is_numeral c.args.n c.ranges.n.sfits))

pub returns-in-None-clause-small : goal.returns-in-None-clause-small
returns-in-None-clause-small g c =
    let same : to_z w64 (of_z w64 c.args.n) ≡ c.args.n = search rules in
    small_has_room c.in_place.result c.args.n
    (subst (λ (text : List ℕ). IfNone c.in_place.result (14 < length text))
    (c.as_bytes-text.ensures.value ∙ c.format.ensures.text ∙ ap signed_decimal same)
    c.in_place.ensures.room)
