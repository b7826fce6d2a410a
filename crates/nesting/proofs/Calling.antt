-- What a call does, where it is known what its words are and how its body ended.
use Rattle.std.proofs.Common.{◌≡◌, ℕ, ◌≤◌, List, [], ◌∷◌, length, drop, Bool, false, Option, Some, None, option_map, refl, ap, arith}
use Rattle.std.proofs.Math.ListN.{drop_of_length-le}
use Rattle.acts.specs.Flaw as flaw
use Rattle.nesting.specs.Calls.{Values, call, frame_of, given, returned, taken, behind, rest_of, values_of, with_value}
use Rattle.state.specs.Prelude.{raises, within, Status}
use Rattle.tclstate.specs.Formals.{Formal}
use Rattle.tclstate.specs.Pairs.{put}
use Rattle.tclstate.specs.Procs.{Procedure}
use Rattle.tclstate.specs.Scopes.{Frame, Text, entered}

-- the names get their values in this frame, where all have one
abbrev pub all_given : Option Values → Frame → Option Frame
all_given values frame = option_map (λ vs. given vs frame) values

one_given : (name value : List ℕ) (others : Option Values) (frame : Frame) →
    all_given (with_value name (Some value) others) frame
    ≡ all_given others (put frame name (Text value))
one_given name value None frame = refl
one_given name value (Some others) frame = refl

module _ (rest : Bool) (f : Formal) (fs : List Formal) (words : List (List ℕ)) (frame : Frame) where
  -- a formal takes its value, and the formals after it take theirs
  pub next_given : (value : List ℕ) → taken f words ≡ Some value →
      all_given (values_of rest (f ∷ fs) words) frame
      ≡ all_given (values_of rest fs (behind words)) (put frame f.name (Text value))
  next_given value is = rw is (one_given f.name value (values_of rest fs (behind words)) frame)

  -- a formal has nothing to take
  pub none_given : taken f words ≡ None → all_given (values_of rest (f ∷ fs) words) frame ≡ None
  none_given is = rw is refl

-- after the last formal only the remaining words count
pub ended_given : (rest : Bool) (fs : List Formal) (i : ℕ) (words : List (List ℕ))
    (frame : Frame) → length fs ≤ i →
    all_given (values_of rest (drop i fs) words) frame ≡ all_given (rest_of rest words) frame
ended_given rest fs i words frame over =
    ap (λ l. all_given (values_of rest l words) frame) (drop_of_length-le fs {i = i} over)

-- words remain that no formal takes
pub none_left : (rest : Bool) (words : List (List ℕ)) (frame : Frame) → rest ≡ false →
    1 ≤ length words → all_given (rest_of rest words) frame ≡ None
none_left rest [] frame is some = absurd (omega arith)
none_left rest (w ∷ ws) frame is some = rw is refl

module _ (levels : ℕ) (name : List ℕ) (procedure : Procedure) (words : List (List ℕ))
    (s : Status) where
  pub call_refused : frame_of procedure.formals words ≡ None →
      call levels name procedure words s ≡ raises (flaw.WrongArgs name) s
  call_refused is = rw is refl

  pub call_runs : (frame : Frame) → frame_of procedure.formals words ≡ Some frame →
      call levels name procedure words s
      ≡ within levels procedure.body (record s { scopes = entered frame s.scopes }) returned
  call_runs frame is = rw is refl
