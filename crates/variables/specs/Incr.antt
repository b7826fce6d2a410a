-- What incr does.
use Rattle.std.specs.Prelude.{ℕ, ℤ, pos, ◌+ℤ◌, List, [], ◌∷◌, codes, Option, Some, None, Result, Ok, Err, if◌then◌else◌}
use Rattle.std.specs.Fmt.{signed_decimal}
use Rattle.acts.specs.Flaw as flaw
use Rattle.state.specs.Prelude.{Flaw, bind, Scopes}
use Rattle.kinds.specs.Variables.{name_in}
use Rattle.kinds.specs.Words.{number}
use Rattle.tcltext.specs.Numbers.{is_in_range}
use Rattle.variables.specs.Values.{held, puts}

-- the number to add: one, where no word says it (incr(n))
abbrev pub step_of : Option (List ℕ) → Result ℤ Flaw
step_of (Some word) = number word
step_of None = Ok (pos 1)

-- the number of a text; a missing text counts as 0 (incr(n); expr(n), operands)
abbrev pub number_of : Option (List ℕ) → Result ℤ Flaw
number_of (Some text) = number text
number_of None = Ok (pos 0)

-- the number of a variable (incr(n))
abbrev pub number_in : List ℕ → Option (List ℕ) → Scopes → Result ℤ Flaw
number_in name index v = bind (held name index v) number_of

-- a number is written in decimal, and given (incr(n))
abbrev pub put : List ℕ → Option (List ℕ) → ℤ → Scopes → Result (Scopes × List ℕ) Flaw
put name index n v = puts name index (signed_decimal n) v

-- the same, where 64 bits hold it (incr(n); expr(n))
abbrev pub put_in_range : List ℕ → Option (List ℕ) → ℤ → Scopes → Result (Scopes × List ℕ) Flaw
put_in_range name index n v =
    if is_in_range n then put name index n v else Err flaw.OutOfRange

-- a number is added to that of a variable: the number is read first, then the variable (incr(n))
abbrev pub adds_to : List ℕ → Option (List ℕ) → Option (List ℕ) → Scopes →
    Result (Scopes × List ℕ) Flaw
adds_to name index by v = bind (step_of by) (λ k.
    bind (number_in name index v) (λ number. put_in_range name index (number +ℤ k) v))

-- a number is added to that of what a word names, which is read first (incr(n))
abbrev pub adds : List ℕ → Option (List ℕ) → Scopes → Result (Scopes × List ℕ) Flaw
adds word by v = bind (name_in word) (λ n. adds_to n.0 n.1 by v)

-- incr n ?k? (incr(n))
abbrev pub incr : List (List ℕ) → Scopes → Result (Scopes × List ℕ) Flaw
incr (n ∷ []) v = adds n None v
incr (n ∷ k ∷ []) v = adds n (Some k) v
incr _ v = Err (flaw.WrongArgs (codes "incr"))
