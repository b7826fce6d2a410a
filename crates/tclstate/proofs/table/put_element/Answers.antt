use Rattle.std.proofs.Common.{ap, ◌∙◌, sym}
use Rattle.tclstate.specs.Pairs.{put}
use Rattle.tclstate.specs.Stored.{texts_of}
use Rattle.tclstate.proofs.Entries.{put_set, put_insert}
use Rattle.tclstate.proofs.table.put_element.Goals as goal

pub returns-in-Some-clause-ok : goal.returns-in-Some-clause-ok
returns-in-Some-clause-ok g c =
    ap texts_of (c.get_mut.follows.holds c.args.value).0
    ∙ put_set (λ v. v) c.args.elements.now.entries c.args.index.now _ c.args.value
    (sym c.in-Some.ensures.value)

pub returns-in_ok-insert-in-None-clause-ok : goal.returns-in_ok-insert-in-None-clause-ok
returns-in_ok-insert-in-None-clause-ok g c =
    ap texts_of c.in_ok-insert-in-None.ensures.entries
    ∙ put_insert (λ v. v) c.get_mut.follows.lender-at-none.entries _ c.args.value
    ∙ (λ i. put (texts_of (c.get_mut.follows.holds-at-none i).entries)
    (c.in_ok-key-in-None.ensures.items i) c.args.value)
