use Rattle.std.proofs.Common.{◌≡◌, Ok, Some, None, refl, ap, ◌∙◌, sym}
use Rattle.std.proofs.lemmas.Result.{err_from_is_err_and}
use Rattle.tclstate.specs.Pairs.{found, put}
use Rattle.tclstate.specs.Scopes.{as_array, Array}
use Rattle.tclstate.specs.Stored.{variable_of, texts_of}
use Rattle.tclstate.proofs.Frames.{found_in}
use Rattle.tclstate.proofs.globals.Globals.make_array.Goals as goal

pub returns-in_err-put-in-None-clause-trouble : goal.returns-in_err-put-in-None-clause-trouble
returns-in_err-put-in-None-clause-trouble g c =
    let p = err_from_is_err_and c.from_residual.result c.from_residual.ensures.1 in
    let e : found c.args.self.now c.args.name.now ≡ None =
    found_in variable_of c.self.inside.variables.entries _ c.self.view_is c.args.name.now None
    c.in-None.ensures.value in
    rw (p.1, p.2, e) refl

pub returns-in-Some-Text-clause-trouble : goal.returns-in-Some-Text-clause-trouble
returns-in-Some-Text-clause-trouble g c =
    ap (as_array c.args.self.now c.args.name.now)
    (found_in variable_of c.self.inside.variables.entries _ c.self.view_is c.args.name.now (Some _)
    (ap Some (sym c.in-Some-Text.field-0-is) ∙ c.in-Some-Text.ensures.value))

pub returns-in-Some-Array-clause-ok : goal.returns-in-Some-Array-clause-ok
returns-in-Some-Array-clause-ok g c =
    ap (as_array c.args.self.now c.args.name.now)
    (found_in variable_of c.self.inside.variables.entries _ c.self.view_is c.args.name.now (Some _)
    (ap Some (sym c.in-Some-Array.field-0-is) ∙ c.in-Some-Array.ensures.value))

pub returns-in_ok-put-in-None-clause-ok : goal.returns-in_ok-put-in-None-clause-ok
returns-in_ok-put-in-None-clause-ok g c =
    ap (as_array c.args.self.now c.args.name.now)
    (found_in variable_of c.self.inside.variables.entries _ c.self.view_is c.args.name.now None
    c.in-None.ensures.value)
    ∙ (λ i. Ok (put c.args.self.now c.args.name.now (Array (texts_of (sym c.new_table.ensures i)))))
    ∙ (λ i. Ok (sym c.in_ok-put-in-None.ensures.ok i))
