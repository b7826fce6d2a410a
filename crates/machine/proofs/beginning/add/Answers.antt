use Rattle.std.proofs.Common.{◌∙◌, ◌++◌, ◌∷◌, [], ap}
use Rattle.tclstate.specs.Scopes.{Text, scopes}
use Rattle.machine.proofs.Added.{written_new}
use Rattle.machine.proofs.beginning.add.Goals as goal

pub returns-in-Ok : goal.returns-in-Ok
returns-in-Ok g c =
    let name = c.args.name.now in
    let globals = c.args.scopes.now.globals in
    written_new c.args.scopes.now c.set.new.self name c.in_ok-from_slice.field-0
    c.requires.global c.requires.absent c.in-Ok.ensures.ok
    ∙ ap (λ value. scopes [] (globals ++ (name, Text value) ∷ [])) c.in_ok-from_slice.ensures
