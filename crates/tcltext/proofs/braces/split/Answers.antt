use Rattle.std.proofs.Common.{rules}
use Rattle.tcltext.proofs.Pairing.{found_here, found_nowhere}
use Rattle.tcltext.proofs.braces.split.Goals as goal

pub returns-then-open-eq0-clause-pair : goal.returns-then-open-eq0-clause-pair
returns-then-open-eq0-clause-pair c =
    found_here c.args.text.now c.loop-len.len c.loop-len.open c.loop-len.hidden
    c.loop-len.invariant.found (search rules) c.if-hidden.false c.if-open-eq0.true
    c.if-c-eq125.true

pub returns-clause-pair : goal.returns-clause-pair
returns-clause-pair c = found_nowhere c.args.text.now c.loop-len.len c.loop-len.open
    c.loop-len.hidden c.loop-len.invariant.found c.loop-len-test.false
