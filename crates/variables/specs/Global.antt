-- What global does.
use Rattle.std.specs.Prelude.{ℕ, List, [], ◌∷◌, codes, Option, Some, None, Result, Ok, Err}
use Rattle.acts.specs.Flaw as flaw
use Rattle.state.specs.Prelude.{Flaw, bind, Scopes}
use Rattle.kinds.specs.Variables.{name_in}
use Rattle.tclstate.specs.Scopes.{linked}

-- no index stands after the name that a word says, or there is the error (global(n))
abbrev pub without_index : List ℕ → Option (List ℕ) → Result (Unit {0}) Flaw
without_index word None = Ok tt
without_index word (Some index) = Err (flaw.BadArgument word (codes "global"))

-- a word names a variable as a whole, or there is the error (global(n))
abbrev pub whole : List ℕ → Result (Unit {0}) Flaw
whole word = bind (name_in word) (λ n. without_index word n.1)

-- each word names a variable as a whole, or there is the error of the first that does not
-- (global(n))
abbrev pub all_whole : List (List ℕ) → Result (Unit {0}) Flaw
all_whole [] = Ok tt
all_whole (w ∷ ws) = bind (whole w) (λ done. all_whole ws)

-- the names are linked to the globals in turn (global(n))
abbrev pub links : List (List ℕ) → Scopes → Scopes
links [] v = v
links (w ∷ ws) v = links ws (linked v w)

-- none is linked where one of the words names no variable as a whole (global(n))
abbrev pub links_named : List (List ℕ) → Scopes → Result (Scopes × List ℕ) Flaw
links_named words v = bind (all_whole words) (λ done. Ok (links words v, []))

-- global n .. (global(n))
abbrev pub global : List (List ℕ) → Scopes → Result (Scopes × List ℕ) Flaw
global [] v = Err (flaw.WrongArgs (codes "global"))
global (w ∷ ws) v = links_named (w ∷ ws) v
