use Rattle.std.proofs.Common.{ℕ, List, IfSome, [], ◌∷◌, rules, subst}
use Rattle.code.proofs.Owns.{own_block}
use Rattle.code.specs.Argument.{IsArgued}
use Rattle.code.specs.Literals.{Are}
use Rattle.tclparse.specs.Tree.{no_words}
use Rattle.tclparse.specs.View.{words_then}
use Rattle.code.proofs.argument.put_argued.Goals as goal

pub returns : goal.returns
returns g c =
    let words = c.args.words.now in
    let own = c.in-Some.own in
    let read : (text : List ℕ) × Are words (own.name ∷ text ∷ []) × IsArgued own text =
    subst (λ r. IfSome r (λ it. (text : List ℕ) × Are words (it.name ∷ text ∷ []) ×
    IsArgued it text)) c.in-Some.is c.in_ok-own.ensures in
    own_block c.args.code.now.items c.push.new.self.items c.emit_words.new.code.items
    c.push-2.new.self.items c.fill.new.code.items c.emit_argued.new.code.items
    c.fill-2.new.code.items c.in_ok-name.name own.name (read.0 ∷ []) (words_then words no_words)
    (search rules) read.1 (search rules) (search rules) (search rules) (search rules)
    (c.in_ok-emit_argued.ensures read.0 read.2) (search rules)
