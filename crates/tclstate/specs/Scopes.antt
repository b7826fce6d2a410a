-- Scopes of variables: what a name stands for, and what each command makes of it (Tcl(n),
-- variables; array(n); global(n)).
use Rattle.std.specs.Prelude.{ℕ, List, [], ◌∷◌, ◌++◌, Option, Some, None, Result, Ok, Err, Bool, true, false, if◌then◌else◌, length}
use Rattle.std.specs.Option.{ok_or}
use Rattle.tclstate.specs.Pairs.{found, keys_of, put, without}

-- What a name stands for in a frame: a text, an array of texts by index, or the global of its name
-- (Tcl(n); array(n); global(n)).
pub data Variable : Type 0 where
  Text : (bytes : List ℕ) → Variable
  Array : (elements : List (List ℕ × List ℕ)) → Variable
  Link : Variable

-- The names of a frame, each once, in the order in which they were first set (Tcl(n); array(n)).
abbrev pub Frame : Type 0
Frame = List (List ℕ × Variable)

-- The local frames, the innermost first and none at the top level, and the global one (proc(n);
-- global(n)).
pub record Scopes : Type 0 where
  pub locals : List Frame
  pub globals : Frame

-- Why a variable is not read, written or removed (set(n); unset(n); array(n)).
pub data Trouble : Type 0 where
  NoVariable : Trouble
  IsArray : Trouble
  NotArray : Trouble
  NoElement : Trouble

-- A change where there is no trouble (this project's own rule).
abbrev pub on_ok : {X Y : Type 0} → (X → Y) → Result X Trouble → Result Y Trouble
on_ok f (Ok x) = Ok (f x)
on_ok f (Err t) = Err t

-- The bytes of a variable, or of its element at an index; what is absent, or is itself a link, has
-- none (set(n)).
abbrev pub value_of : Option Variable → Option (List ℕ) → Result (List ℕ) Trouble
value_of (Some (Text bytes)) None = Ok bytes
value_of (Some (Text bytes)) (Some index) = Err NotArray
value_of (Some (Array elements)) None = Err IsArray
value_of (Some (Array elements)) (Some index) = ok_or (found elements index) NoElement
value_of _ index = Err NoVariable

-- A variable after a write of it or of its element at an index; what is absent is made (set(n);
-- array(n)).
abbrev pub changed : Option Variable → Option (List ℕ) → List ℕ → Result Variable Trouble
changed (Some (Text bytes)) (Some index) value = Err NotArray
changed (Some (Array elements)) None value = Err IsArray
changed (Some (Array elements)) (Some index) value = Ok (Array (put elements index value))
changed _ (Some index) value = Ok (Array ((index, value) ∷ []))
changed _ None value = Ok (Text value)

-- An array's elements without one of them (unset(n)).
abbrev pub without_element : List (List ℕ × List ℕ) → List ℕ → Option (List ℕ) →
    Result Variable Trouble
without_element elements index None = Err NoElement
without_element elements index (Some value) = Ok (Array (without elements index))

-- A variable without its element at an index (unset(n); array(n)).
abbrev pub reduced : Option Variable → List ℕ → Result Variable Trouble
reduced (Some (Text bytes)) index = Err NotArray
reduced (Some (Array elements)) index = without_element elements index (found elements index)
reduced _ index = Err NoVariable

-- A frame after a name or its element is written (set(n)).
abbrev pub frame_written : List ℕ → Option (List ℕ) → List ℕ → Frame → Result Frame Trouble
frame_written name index value frame =
    on_ok (put frame name) (changed (found frame name) index value)

-- A frame without a name that stands for a text or an array (unset(n)).
abbrev pub without_name : Frame → List ℕ → Option Variable → Result Frame Trouble
without_name frame name (Some (Text bytes)) = Ok (without frame name)
without_name frame name (Some (Array elements)) = Ok (without frame name)
without_name frame name _ = Err NoVariable

-- A frame after a name or its element is removed (unset(n)).
abbrev pub frame_without : List ℕ → Option (List ℕ) → Frame → Result Frame Trouble
frame_without name None frame = without_name frame name (found frame name)
frame_without name (Some index) frame = on_ok (put frame name) (reduced (found frame name) index)

-- A frame after a name that stands for this is made an array; an array stays as it is
-- (array(n), array set).
abbrev pub as_array : Frame → List ℕ → Option Variable → Result Frame Trouble
as_array frame name (Some (Text bytes)) = Err NotArray
as_array frame name (Some (Array elements)) = Ok frame
as_array frame name _ = Ok (put frame name (Array []))

-- A frame after a name is made an array (array(n), array set).
abbrev pub frame_with_array : List ℕ → Frame → Result Frame Trouble
frame_with_array name frame = as_array frame name (found frame name)

-- Whether a name is linked to the global of its name (global(n)).
abbrev pub is_link : Option Variable → Bool
is_link (Some Link) = true
is_link _ = false

-- Whether a name means a global: at the top level, and where it is linked (global(n)).
abbrev pub means_global : List Frame → List ℕ → Bool
means_global [] name = true
means_global (frame ∷ outer) name = is_link (found frame name)

-- The innermost local frame (proc(n)).
abbrev pub innermost : List Frame → Frame
innermost [] = []
innermost (frame ∷ outer) = frame

-- The frames around the innermost local one (proc(n)).
abbrev pub outer : List Frame → List Frame
outer [] = []
outer (frame ∷ frames) = frames

-- The frame in which a name is read and written: the innermost local one, or the global one
-- (global(n)).
abbrev pub frame_of : Scopes → List ℕ → Frame
frame_of s name = if means_global s.locals name then s.globals else innermost s.locals

-- The scopes with this frame in place of the one in which a name is read and written (global(n)).
abbrev pub with_frame : Scopes → List ℕ → Frame → Scopes
with_frame s name frame =
    if means_global s.locals name
    then record { locals = s.locals; globals = frame }
    else record { locals = frame ∷ outer s.locals; globals = s.globals }

-- What a name means (Tcl(n), variables; global(n)).
abbrev pub variable : Scopes → List ℕ → Option Variable
variable s name = found (frame_of s name) name

-- What reading a name or an element gives (set(n)).
abbrev pub read : Scopes → List ℕ → Option (List ℕ) → Result (List ℕ) Trouble
read s name index = value_of (variable s name) index

-- What reading a name or an element in the global frame gives (this project's own rule).
abbrev pub read_global : Scopes → List ℕ → Option (List ℕ) → Result (List ℕ) Trouble
read_global s name index = value_of (found s.globals name) index

-- The scopes after a change of the frame in which a name is read and written (global(n)).
abbrev pub in_frame : (Frame → Result Frame Trouble) → Scopes → List ℕ → Result Scopes Trouble
in_frame change s name = on_ok (with_frame s name) (change (frame_of s name))

-- The scopes after a name or an element is written (set(n)).
abbrev pub written : Scopes → List ℕ → Option (List ℕ) → List ℕ → Result Scopes Trouble
written s name index value = in_frame (frame_written name index value) s name

-- What follows where there is no trouble (this project's own rule).
abbrev pub and_then : {X Y : Type 0} → Result X Trouble → (X → Result Y Trouble) → Result Y Trouble
and_then (Ok x) next = next x
and_then (Err t) next = Err t

-- The scopes after elements of an array are written one after the other, up to the first that can't
-- be (set(n); array(n)).
abbrev pub all_written : Scopes → List ℕ → List (List ℕ × List ℕ) → Result Scopes Trouble
all_written s name [] = Ok s
all_written s name (e ∷ es) =
    and_then (written s name (Some e.0) e.1) (λ after. all_written after name es)

-- The scopes after a name or an element is removed; a link stays (unset(n)).
abbrev pub removed : Scopes → List ℕ → Option (List ℕ) → Result Scopes Trouble
removed s name index = in_frame (frame_without name index) s name

-- The scopes after a name is made an array; an array stays as it is (array(n), array set).
abbrev pub with_array : Scopes → List ℕ → Result Scopes Trouble
with_array s name = in_frame (frame_with_array name) s name

-- The scopes after a name is linked: a local of that name is dropped (global(n)); at the top level
-- nothing changes.
abbrev pub linked : Scopes → List ℕ → Scopes
linked s name =
    if means_global s.locals name then s
    else with_frame s name (without (innermost s.locals) name ++ (name, Link) ∷ [])

-- The scopes in a procedure that begins with this frame (proc(n)).
abbrev pub entered : Frame → Scopes → Scopes
entered frame s = record { locals = frame ∷ s.locals; globals = s.globals }

-- The scopes in a procedure that begins without names (proc(n)).
abbrev pub pushed : Scopes → Scopes
pushed s = entered [] s

-- The scopes after the innermost procedure returns (proc(n)); at the top level, where none runs,
-- nothing changes.
abbrev pub popped : Scopes → Scopes
popped s = record { locals = outer s.locals; globals = s.globals }

-- The elements of an array; what is no array has none (array(n)).
abbrev pub elements_of : Option Variable → List (List ℕ × List ℕ)
elements_of (Some (Array elements)) = elements
elements_of _ = []

-- The indexes of an array, in order; what is no array has none (array(n), array names).
abbrev pub names_of : Scopes → List ℕ → List (List ℕ)
names_of s name = keys_of (elements_of (variable s name))

-- The number of an array's elements, 0 for what is no array (array(n), array size).
abbrev pub size_of : Scopes → List ℕ → ℕ
size_of s name = length (elements_of (variable s name))

-- Scopes without any name, at the top level (set(n)).
abbrev pub empty : Scopes
empty = record { locals = []; globals = [] }

-- Scopes of these frames (this project's own rule).
abbrev pub scopes : List Frame → Frame → Scopes
scopes locals globals = record { locals = locals; globals = globals }
