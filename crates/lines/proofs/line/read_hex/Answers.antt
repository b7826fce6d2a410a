use Rattle.std.proofs.Common.{length, ap, ◌∙◌, arith}
use Rattle.std.specs.List.{list_all}
use Rattle.hex.specs.Hex.{lower_digits}
use Rattle.hex.proofs.HexLemmas.{length-encode_with}
use Rattle.lines.specs.Line.{is_lower_digit}
use Rattle.lines.proofs.HexTexts.{lower_text}
use Rattle.lines.proofs.line.read_hex.Goals as goal

pub read_digits-requires-clause-lower : goal.read_digits-requires-clause-lower
read_digits-requires-clause-lower g c =
    let (bytes, small, is) = c.requires in
    ap (list_all is_lower_digit) is ∙ lower_text bytes small

pub read_digits-requires-clause-twice : goal.read_digits-requires-clause-twice
read_digits-requires-clause-twice g c =
    let (bytes, small, is) = c.requires in
    let twice = ap length is ∙ length-encode_with lower_digits bytes in
    omega (arith, twice, c.deref_mut.ensures.len, c.in_ok-bytes.ensures.len)
