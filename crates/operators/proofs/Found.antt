-- What follows whether a text is an element of a list.
use Rattle.std.proofs.Common.{◌≡◌, ℕ, List, Bool, Ok, ap, ◌∙◌}
use Rattle.meanings.specs.Meaning.{Answer, Gives, Splits, Comes, truth}
use Rattle.operators.specs.Member.{contains, IsFound}

-- the text was looked for, and the result is a function of whether it was found
pub found_told : (of : Bool → Bool) (text list value : List ℕ) (found : Bool) →
    IsFound text list found → value ≡ truth (of found) →
    Comes (Splits list (λ elements. Gives (truth (of (contains text elements))))) (Ok value)
found_told of text list value found is told =
    let answer = λ (v : List ℕ). let a : Answer = Ok v in a in
    (Ok is.0, is.1, ap answer (told ∙ ap (λ b. truth (of b)) is.2))
