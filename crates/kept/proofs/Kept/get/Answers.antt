use Rattle.std.proofs.Common.{◌≡◌, ap, sym, ◌∙◌, is_some, false}
use Rattle.kept.specs.Kept.{is_among, with_newest}
use Rattle.kept.proofs.Entries.{either_outcome, found_among, shared_tree, tree_found}
use Rattle.kept.proofs.Kept.get.Goals as goal

pub returns-in-Some-clause-tree : goal.returns-in-Some-clause-tree
returns-in-Some-clause-tree g c =
    let es = c.self.inside.scripts.entries in
    let text = c.args.text.now in
    let script = c.in-Some.script.now in
    let found = tree_found es text script c.self.invariant.0 (sym c.in-Some.ensures) in
    shared_tree c.share.result script text found c.share.ensures

pub keep-requires-clause-new : goal.keep-requires-clause-new
keep-requires-clause-new g c =
    let among = found_among c.self.inside.scripts.entries c.args.text.now in
    rw (← c.self.view_is) (sym among ∙ ap is_some (sym c.in_default.ensures))

pub returns-clause-texts : goal.returns-clause-texts
returns-clause-texts g c =
    let text = c.args.text.now in
    let old = c.args.self.now in
    let new = c.keep.new.self in
    let among = found_among c.self.inside.scripts.entries text in
    let fresh : is_among text old ≡ false =
    rw (← c.self.view_is) (sym among ∙ ap is_some (sym c.in_default.ensures)) in
    rw fresh (
    either_outcome (new ≡ with_newest text old) (new ≡ old) c.keep.result c.keep.ensures.ok
    c.keep.ensures.unchanged
    )
