-- What array exists does.
use Rattle.std.specs.Prelude.{ℕ, List, Result, Ok}
use Rattle.state.specs.Prelude.{Flaw, bind, Scopes}
use Rattle.kinds.specs.Variables.{name_in}
use Rattle.meanings.specs.Meaning.{truth}
use Rattle.tclstate.specs.Scopes.{read}
use Rattle.variables.specs.Array.Words.{is_array, one_word}

-- whether a word names an array (array(n), array exists)
abbrev pub tells : List ℕ → Scopes → Result (List ℕ) Flaw
tells word v = bind (name_in word) (λ n. Ok (truth (is_array (read v n.0 n.1))))

-- array exists a (array(n))
abbrev pub exists : List (List ℕ) → Scopes → Result (List ℕ) Flaw
exists words v = bind (one_word words) (λ word. tells word v)
