use Rattle.std.proofs.Common.{ℕ, List, Bool, not}
use Rattle.meanings.proofs.Splits.{no_list}
use Rattle.meanings.specs.Meaning.{Gives, truth}
use Rattle.operators.specs.Member.{contains}
use Rattle.operators.proofs.Found.{found_told}
use Rattle.operators.proofs.members.is_not_in.Goals as goal

pub returns-in_err-found : goal.returns-in_err-found
returns-in_err-found g c =
    let text = c.args.text.now in
    let next = λ (elements : List (List ℕ)). Gives (truth (not (contains text elements))) in
    no_list c.args.list.now next c.from_residual.result c.in_err-found.field-0.0
    c.in_err-found.ensures.fault c.from_residual.ensures.1

pub returns : goal.returns
returns g c =
    found_told (λ (b : Bool). not b) c.args.text.now c.args.list.now c.truth.result
    c.in_ok-found.found c.in_ok-found.ensures.ok c.truth.ensures
