-- The formal arguments of a procedure (proc(n)).
use Rattle.std.specs.Prelude.{ℕ, List, [], ◌∷◌, Bool, false, Option, Some, None, if◌then◌else◌}
use Rattle.std.specs.Str.{bytes_eq}
use Rattle.tcltext.specs.Elements.{IsList}

-- A formal argument: its name, and its default if it has one (proc(n)).
pub record Formal : Type 0 where
  pub name : List ℕ
  pub default : Option (List ℕ)

-- A name alone, or a name and its default (proc(n)).
abbrev pub parts : List ℕ → Option (List ℕ) → List (List ℕ)
parts name None = name ∷ []
parts name (Some default) = name ∷ default ∷ []

-- The text is this formal: a list of a name, or of a name and its default (proc(n)).
abbrev pub IsFormal : Formal → List ℕ → Type 0
IsFormal f text = IsList (parts f.name f.default) text

-- The texts are these formals, one each and in order (proc(n)).
abbrev pub AreFormals : List Formal → List (List ℕ) → Type 0
AreFormals [] [] = Unit {0}
AreFormals (f ∷ fs) (t ∷ ts) = IsFormal f t × AreFormals fs ts
AreFormals [] (t ∷ ts) = ⊥
AreFormals (f ∷ fs) [] = ⊥

-- The text is these formals: a list of them (proc(n)).
abbrev pub IsFormals : List Formal → List ℕ → Type 0
IsFormals fs text = (ts : List (List ℕ)) × IsList ts text × AreFormals fs ts

-- The text is a list, and some element of it is no formal (this project's own rule).
abbrev pub HasBadFormal : List ℕ → Type 0
HasBadFormal text =
    (ts : List (List ℕ)) × IsList ts text × ((fs : List Formal) → AreFormals fs ts → ⊥)

-- The name `args` (proc(n)).
abbrev pub args : List ℕ
args = 97 ∷ 114 ∷ 103 ∷ 115 ∷ []

-- Whether a last formal `args` takes the remaining words (proc(n)).
abbrev pub takes_rest : List Formal → Bool
takes_rest [] = false
takes_rest (f ∷ []) = bytes_eq f.name args
takes_rest (f ∷ (g ∷ fs)) = takes_rest (g ∷ fs)

-- The formals that take one word each: all but a last `args` (proc(n)).
abbrev pub single : List Formal → List Formal
single [] = []
single (f ∷ []) = if bytes_eq f.name args then [] else f ∷ []
single (f ∷ (g ∷ fs)) = f ∷ single (g ∷ fs)
