use Rattle.std.proofs.Common.{◌++◌, subst}
use Rattle.choices.specs.Lines.{Rise, numbers, upcoming}
use Rattle.choices.proofs.Rising.{rise_open}
use Rattle.choices.proofs.laws.open_ids_rise.Goals as goal

pub returns : goal.returns
returns g c = λ ps fits.
    rise_open c.args.table.now.lines (upcoming c.args.table.now.next) ps fits
    (subst (λ t. Rise (numbers t.lines ++ upcoming t.next)) c.table.view_is c.table.invariant.1)
