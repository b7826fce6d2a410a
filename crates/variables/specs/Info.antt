-- What info does.
use Rattle.std.specs.Prelude.{ℕ, List, [], ◌∷◌, codes, Bool, true, false, Result, Ok, Err, if◌then◌else◌}
use Rattle.std.specs.Str.{bytes_eq}
use Rattle.acts.specs.Flaw as flaw
use Rattle.state.specs.Prelude.{Flaw, bind, Scopes}
use Rattle.kinds.specs.Variables.{name_in}
use Rattle.meanings.specs.Meaning.{truth}
use Rattle.tclstate.specs.Scopes.{Trouble, IsArray, read}

-- a variable is there that can be read, or is an array (info(n), info exists)
abbrev pub is_there : Result (List ℕ) Trouble → Bool
is_there (Ok text) = true
is_there (Err IsArray) = true
is_there (Err trouble) = false

-- info exists n (info(n))
abbrev pub exists : List (List ℕ) → Scopes → Result (List ℕ) Flaw
exists (w ∷ []) v = bind (name_in w) (λ n. Ok (truth (is_there (read v n.0 n.1))))
exists _ v = Err (flaw.WrongArgs (codes "info"))

-- info exists n; another word after info is the first error (info(n))
abbrev pub info : List (List ℕ) → Scopes → Result (List ℕ) Flaw
info [] v = Err (flaw.WrongArgs (codes "info"))
info (w ∷ ws) v =
    if bytes_eq w (codes "exists") then exists ws v
    else Err (flaw.BadArgument w (codes "info"))
