-- What contracts see of the maps that hold variables.
use Rattle.std.specs.Prelude.{ℕ, List, Option, Some, map, Result}
use Rattle.std.specs.declared.vec.Vec.{Vec}
use Rattle.tclstate.specs.declared.content.Content.{Content}
use Rattle.tclstate.specs.declared.content.Content.TheVariants as content
use Rattle.tclstate.specs.declared.local.Local.{Local}
use Rattle.tclstate.specs.declared.local.Local.TheVariants as local
use Rattle.tclstate.specs.Pairs.{found}
use Rattle.tclstate.specs.Procs.{Procedure, Procs}
use Rattle.tclstate.specs.Scopes.{Variable, Text, Array, Link, Frame, Trouble, on_ok, value_of}

-- The entries of a map as keys with what is seen of their values.
abbrev pub pairs_of : {A X Y : Type 0} → (X → Y) → List (Vec ℕ A × X) → List (List ℕ × Y)
pairs_of seen es = map (λ e. (e.0.items, seen e.1)) es

-- The entries of an array.
abbrev pub texts_of : {A : Type 0} → List (Vec ℕ A × List ℕ) → List (List ℕ × List ℕ)
texts_of es = pairs_of (λ v. v) es

-- A text or an array.
abbrev pub variable_of : {A : Type 0} → Content A → Variable
variable_of (content.Text value) = Text value
variable_of (content.Array elements) = Array (texts_of elements.entries)

-- What a local name stands for.
abbrev pub local_of : {A : Type 0} → Local A → Variable
local_of (local.Own c) = variable_of c
local_of local.Link = Link

-- The globals, which are no links.
abbrev pub globals_of : {A : Type 0} → List (Vec ℕ A × Content A) → Frame
globals_of es = pairs_of variable_of es

-- The names of a local frame.
abbrev pub locals_of : {A : Type 0} → List (Vec ℕ A × Local A) → Frame
locals_of es = pairs_of local_of es

-- A change of what a local name stands for, with the globals after it: for a link the global is
-- changed, and the name stays a link (global(n)).
abbrev pub reached : (Variable → Result Variable Trouble) → (Frame → Result Frame Trouble) →
    Variable → Frame → Result (Variable × Frame) Trouble
reached own global Link globals = on_ok (λ g. (Link, g)) (global globals)
reached own global v globals = on_ok (λ w. (w, globals)) (own v)

-- What is read of a local name: for a link the global is read (global(n)).
abbrev pub reached_value : List ℕ → Option (List ℕ) → Variable → Frame → Result (List ℕ) Trouble
reached_value name index Link globals = value_of (found globals name) index
reached_value name index v globals = value_of (Some v) index

-- The procedures by their names.
abbrev pub procedures_of : {A : Type 0} → List (Vec ℕ A × Procedure) → Procs
procedures_of es = pairs_of (λ p. p) es
