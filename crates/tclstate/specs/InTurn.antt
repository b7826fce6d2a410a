-- Elements of an array that are written one after the other.
use Rattle.std.specs.Prelude.{◌≡◌, ℕ, List, [], ◌∷◌, Bool, true, false, Option, Some, Result, Ok, Err, map, take}
use Rattle.std.specs.Borrow.{Bor}
use Rattle.memory.specs.declared.NoMemory.{NoMemory}
use Rattle.tclstate.specs.declared.error.ScopeError.{ScopeError}
use Rattle.tclstate.specs.declared.error.ScopeError.TheVariants as error
use Rattle.tclstate.specs.Pairs.{found, put}
use Rattle.tclstate.specs.Scopes.{Variable, Array, Frame, Scopes, Trouble, NotArray, on_ok, in_frame, all_written}

-- The indexes and the texts of elements (array(n)).
abbrev pub elements_in : List (Bor (List ℕ) × List ℕ) → List (List ℕ × List ℕ)
elements_in es = map (λ e. (e.0.now, e.1)) es

-- The elements of an array after these are put, one after the other (array(n), array set).
abbrev pub all_put : List (List ℕ × List ℕ) → List (List ℕ × List ℕ) → List (List ℕ × List ℕ)
all_put elements [] = elements
all_put elements (e ∷ es) = all_put (put elements e.0 e.1) es

-- All are put, or where memory was refused so many of them (this project's own rule).
abbrev pub Fills : {T E : Type 0} → List (List ℕ × List ℕ) → List (List ℕ × List ℕ) → Result T E →
    List (List ℕ × List ℕ) → Type 0
Fills old es (Ok done) new = new ≡ all_put old es
Fills old es (Err e) new = (n : ℕ) × (new ≡ all_put old (take n es))

-- An array after more elements are put; what is no array is not written so (array(n), array set).
abbrev pub extended : List (List ℕ × List ℕ) → Option Variable → Result Variable Trouble
extended es (Some (Array elements)) = Ok (Array (all_put elements es))
extended es _ = Err NotArray

-- A frame after more elements of an array are put (array(n), array set).
abbrev pub frame_extended : List ℕ → List (List ℕ × List ℕ) → Frame → Result Frame Trouble
frame_extended name es frame = on_ok (put frame name) (extended es (found frame name))

-- The scopes after more elements of an array are put (array(n), array set).
abbrev pub scopes_extended : Scopes → List ℕ → List (List ℕ × List ℕ) → Result Scopes Trouble
scopes_extended s name es = in_frame (frame_extended name es) s name

-- All elements are put into an array, or where memory was refused so many of them; or there is no
-- array, and nothing has changed (this project's own rule).
abbrev pub Extends : {X : Type 0} → (List (List ℕ × List ℕ) → Result X Trouble) →
    List (List ℕ × List ℕ) → List (List ℕ × List ℕ) → Result Bool NoMemory → X → X → Type 0
Extends extend es left (Ok true) old new = extend es ≡ Ok new
Extends extend es left (Ok false) old new = (new ≡ old) × (left ≡ es)
Extends extend es left (Err refusal) old new = (n : ℕ) × (extend (take n es) ≡ Ok new)

-- What an error leaves: where memory was refused, what so many of the writes leave, else the scopes
-- as they were (this project's own rule).
abbrev pub Leaves : ScopeError → List ℕ → List (List ℕ × List ℕ) → Scopes → Scopes → Type 0
Leaves (error.NoMemory refusal) name es old new =
    (n : ℕ) × (all_written old name (take n es) ≡ Ok new)
Leaves error.NoVariable name es old new = new ≡ old
Leaves error.IsArray name es old new = new ≡ old
Leaves error.NotArray name es old new = new ≡ old
Leaves error.NoElement name es old new = new ≡ old
