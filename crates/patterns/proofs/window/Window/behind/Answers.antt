use Rattle.std.proofs.Common.{List, ℕ, ◌∙◌, ap, sym}
use Rattle.std.proofs.lemmas.List.{take_rest}
use Rattle.patterns.specs.Match.{compared}
use Rattle.patterns.proofs.Folds.{compared-drop}
use Rattle.patterns.proofs.window.Window.behind.Goals as goal

pub returns : goal.returns
returns c =
    let bytes : List ℕ = c.self.inside.bytes.now in
    let folds = c.self.inside.folds in
    rw (← c.self.view_is) (ap (compared folds) (take_rest bytes c.args.place)
    ∙ sym (compared-drop folds c.args.place bytes))
