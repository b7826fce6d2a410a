use Rattle.kept.proofs.Entries.{Inserted, same_tree, trees_kept, few_left, texts_left}
use Rattle.kept.proofs.Kept.keep.Goals as goal

pub invariant_of-self-2 : goal.invariant_of-self-2
invariant_of-self-2 g c =
    let es = c.self.inside.scripts.entries in
    let new = c.insert.new.self.entries in
    let key = c.in_ok-key.key in
    let script = c.in_ok-share.field-0 in
    let text = c.args.text.now in
    let texts = c.args.self.now in
    let put : Inserted es new key script text texts = record {
      view = c.self.view_is;
      items = c.in_ok-key.ensures.items;
      fresh = c.requires.new;
      entries = c.in_ok-insert.ensures.entries;
    } in
    let tree = same_tree c.args.script.now script text c.in_ok-share.ensures c.requires.tree in
    let left = c.drop_oldest.new.scripts.entries in
    let is = c.drop_oldest.ensures in (
      trees_kept es new key script text texts put left is c.self.invariant.0 tree,
      few_left es new key script text texts put left is c.self.invariant.1,
    )

pub returns-clause-ok : goal.returns-clause-ok
returns-clause-ok g c =
    let es = c.self.inside.scripts.entries in
    let new = c.insert.new.self.entries in
    let key = c.in_ok-key.key in
    let script = c.in_ok-share.field-0 in
    let text = c.args.text.now in
    let texts = c.args.self.now in
    let put : Inserted es new key script text texts = record {
      view = c.self.view_is;
      items = c.in_ok-key.ensures.items;
      fresh = c.requires.new;
      entries = c.in_ok-insert.ensures.entries;
    } in
    let left = c.drop_oldest.new.scripts.entries in
    texts_left es new key script text texts put left c.drop_oldest.ensures c.self.invariant.1
