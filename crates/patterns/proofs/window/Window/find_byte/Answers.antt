use Rattle.std.proofs.Common.{◌≡◌, true}
use Rattle.patterns.proofs.Bytes.{none_upper, first_folded}
use Rattle.patterns.proofs.window.Window.find_byte.Goals as goal

pub returns-then-is_ascii_uppercase : goal.returns-then-is_ascii_uppercase
returns-then-is_ascii_uppercase c =
    let folds : c.self.inside.folds ≡ true = search (c.if-not-self.false) in
    rw (← c.self.view_is) (λ k low below is. none_upper c.self.inside.folds c.args.byte
    c.self.inside.bytes.now folds c.if-is_ascii_uppercase.ensures.cases k is)

pub returns : goal.returns
returns c =
    let folds : c.self.inside.folds ≡ true = search (c.if-not-self.false) in
    rw (← c.self.view_is) (first_folded c.self.inside.folds c.args.byte c.to_ascii_uppercase.result
    c.self.inside.bytes.now c.memchr2.result folds c.if-is_ascii_uppercase.ensures.cases
    c.to_ascii_uppercase.ensures.value c.memchr2.ensures)
