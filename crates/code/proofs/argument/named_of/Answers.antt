use Rattle.std.proofs.Common.{◌≡◌, [], ◌∷◌, length, rules}
use Rattle.code.proofs.Literals.{no_literals}
use Rattle.code.proofs.argument.named_of.Goals as goal
use Rattle.tclparse.specs.Tree.{literals}

pub returns-then-is_braced : goal.returns-then-is_braced
returns-then-is_braced g c =
    let name = c.in_ok-name.name in
    let word = c.in_ok-word.word in
    let none : length word.rest.now ≡ 0 = search rules in (
      c.in_ok-name.ensures (literals (word.text.now ∷ []))
          (c.in_ok-word.ensures (literals []) (no_literals word.rest.now none)),
      search rules,
      search rules,
    )
