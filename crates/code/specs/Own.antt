-- What the words of a command that has code of its own are kept as.
use Rattle.std.specs.Prelude.{◌≡◌, ℕ, ◌||◌, Bool, List, [], ◌∷◌, codes, None, Some}
use Rattle.std.specs.Str.{bytes_eq}
use Rattle.code.specs.Branches.{branches}
use Rattle.code.specs.Branching.{branches_of}
use Rattle.code.specs.Code.{HasFormula, IsTaker}
use Rattle.code.specs.Repeat.{for_args}
use Rattle.code.specs.declared.own.Own.{Own}
use Rattle.code.specs.declared.own.Own.TheVariants as own
use Rattle.pure.specs.Concat.{concatenated}

-- whether a command of this name may have code of its own (this project's own rule)
abbrev pub has_own : List ℕ → Bool
has_own name =
    bytes_eq name (codes "if") || (bytes_eq name (codes "while") || (bytes_eq name (codes "for")
    || (bytes_eq name (codes "eval") || (bytes_eq name (codes "catch")
    || bytes_eq name (codes "expr")))))

-- the name of the command
abbrev pub name_of : {A : Type 0} → Own A → List ℕ
name_of (own.If it) = codes "if"
name_of (own.While it) = codes "while"
name_of (own.For it) = codes "for"
name_of (own.Eval joined) = codes "eval"
name_of (own.Catch it) = codes "catch"
name_of (own.Expr joined) = codes "expr"

-- it is what the words after the name are kept as; of eval and of expr, their only word without the
-- white space at its ends (if(n); while(n); for(n); eval(n); concat(n); catch(n); expr(n))
abbrev pub IsOwn : {A : Type 0} → Own A → List (List ℕ) → Type 0
IsOwn (own.If it) args = branches args ≡ Some (branches_of it)
IsOwn (own.While it) args =
    (it.step ≡ None) × HasFormula it.test × (args ≡ it.test ∷ it.body ∷ [])
IsOwn (own.For it) args =
    (step : List ℕ) × (it.turns.step ≡ Some step) × HasFormula it.turns.test
    × (args ≡ for_args it step)
IsOwn (own.Eval joined) args =
    (text : List ℕ) × (args ≡ text ∷ []) × (joined ≡ concatenated (text ∷ []))
IsOwn (own.Catch it) args =
    (more : List (List ℕ)) × IsTaker it.variable more × (args ≡ it.body ∷ more)
IsOwn (own.Expr joined) args =
    (text : List ℕ) × (args ≡ text ∷ []) × (joined ≡ concatenated (text ∷ []))
