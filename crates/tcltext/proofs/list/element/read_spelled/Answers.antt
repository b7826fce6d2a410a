use Rattle.std.proofs.Common.{refl}
use Rattle.tcltext.specs.Seen.{style_of}
use Rattle.tcltext.proofs.Spelled.{spelled_here, meets_escape, halted}
use Rattle.tcltext.proofs.list.element.read_spelled.Goals as goal

pub returns-in-NoEscape-clause-bytes : goal.returns-in-NoEscape-clause-bytes
returns-in-NoEscape-clause-bytes g c = (
  refl,
  meets_escape (style_of c.args.style) c.args.text.now c.loop-byte.rest.now
      c.loop-byte.bytes.items c.loop-byte.invariant.spelled c.in-NoEscape.ensures.piece,
)

pub returns-in_default-clause-bytes : goal.returns-in_default-clause-bytes
returns-in_default-clause-bytes g c = (
  spelled_here (style_of c.args.style) c.args.text.now c.loop-byte.rest.now c.loop-byte.bytes.items
      c.loop-byte.invariant.spelled,
  halted c.next.result _ c.next.ensures.piece c.in_default.not-Byte c.in_default.not-NoEscape,
)
