use Rattle.std.proofs.Common.{◌∙◌, sym, ap}
use Rattle.std.specs.Str.{bytes_eq}
use Rattle.nesting.proofs.Choosing.{default_takes}
use Rattle.state.proofs.Reaches.{same_reaches}
use Rattle.nesting.proofs.switch.tried.Goals as goal

pub returns-then-is_empty : goal.returns-then-is_empty
returns-then-is_empty g c = λ s next.
    let pattern = c.args.pattern.now in
    same_reaches (default_takes pattern c.args.text.now s next _ c.args.more.now
    (ap (bytes_eq pattern) (sym c.as_slice.ensures) ∙ sym c.if-eq.ensures)
    (sym c.if-is_empty.ensures))
