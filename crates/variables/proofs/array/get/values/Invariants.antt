use Rattle.std.proofs.Common.{◌≡◌, ◌++◌, ℕ, List, Ok, Result, drop}
use Rattle.state.specs.Prelude.{Flaw, bind}
use Rattle.variables.specs.Array.Get.{values}
use Rattle.variables.proofs.array.get.values.Given as goal

abbrev pub invariant-loop-index : goal.invariant-loop-index
invariant-loop-index g l =
    let read : List (List ℕ) → Result (List (List ℕ)) Flaw =
    λ more. Ok (l.elements.items ++ more) in
    values l.name l.indexes l.scopes
    ≡ bind (values l.name (drop l.index-index l.indexes) l.scopes) read
