use Rattle.std.proofs.Common.{sym}
use Rattle.tclparse.specs.Tree.{no_parts}
use Rattle.tclparse.specs.Seen.{context_of}
use Rattle.tclparse.specs.Braces.{IsValue}
use Rattle.tclparse.proofs.Exits.{memory_braced}
use Rattle.tclparse.proofs.WordKinds.{unpaired_brace, goes_on, braced_word}
use Rattle.tclparse.proofs.read.read_braces.Goals as goal

pub returns-in_default-clause-tree : goal.returns-in_default-clause-tree
returns-in_default-clause-tree g c = unpaired_brace (context_of c.args.context) c.args.text.now
    c.in_default.ensures.pair

pub returns-then-not-ends_word-clause-tree : goal.returns-then-not-ends_word-clause-tree
returns-then-not-ends_word-clause-tree g c =
    goes_on (context_of c.args.context) c.args.text.now c.in-Some.content.now c.in-Some.rest.now
    c.in-Some.ensures.pair (sym c.if-not-ends_word.ensures)

pub returns-in_err-bytes-clause-tree : goal.returns-in_err-bytes-clause-tree
returns-in_err-bytes-clause-tree g c =
    memory_braced (context_of c.args.context) c.args.text.now _ c.from_residual.ensures.1

pub returns-in_err-value-clause-tree : goal.returns-in_err-value-clause-tree
returns-in_err-value-clause-tree g c =
    memory_braced (context_of c.args.context) c.args.text.now _
    c.from_residual-in_err-value.ensures.1

pub returns-in_err-parts-clause-tree : goal.returns-in_err-parts-clause-tree
returns-in_err-parts-clause-tree g c =
    memory_braced (context_of c.args.context) c.args.text.now _
    c.from_residual-in_err-parts.ensures.1

pub returns-clause-tree : goal.returns-clause-tree
returns-clause-tree g c =
    let value : IsValue c.in_ok-value.value c.in-Some.content.now =
    rw c.in_ok-value.ensures c.in_ok-bytes.ensures in
    braced_word (context_of c.args.context) c.args.text.now c.in-Some.content.now c.in-Some.rest.now
    c.in_ok-value.value _
    c.in-Some.ensures.pair (sym c.if-not-ends_word.ensures) value
    (c.in_ok-parts.ensures.parts no_parts)
