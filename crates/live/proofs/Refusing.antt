-- Calls that stop short.
use Rattle.std.proofs.Common.{◌≡◌, ◌⊎◌, inl, inr, ℕ, suc, ◌<◌, List, [], ◌∷◌, ◌++◌, length, drop, map, refl, sym, ap, subst, ◌∙◌, append_assoc, drop-cons, slice_index_or, Result, Ok, Err}
use Rattle.std.specs.Prelude.{IfErr, IsErrAnd}
use Rattle.std.specs.IoError.{error_kind}
use Rattle.std.specs.Str.{IsUtf8}
use Rattle.std.specs.declared.io.Error.{Error}
use Rattle.std.specs.declared.io.ErrorKind.TheVariants.{OutOfMemory}
use Rattle.acts.specs.declared.id.Id.{Id}
use Rattle.live.specs.Calls.{Arg, Call, Command, Made, Pipes, Poll, Refused, Start}
use Rattle.live.specs.Live.{IsNamed}
use Rattle.live.specs.Refusing.{IsUnsaid, NamingStops, StartStops, StopsShort}
use Rattle.live.proofs.Chains.{made_one, made_then, map_then}
use Rattle.live.proofs.Starting.{map_twice}

-- an error is handed on as it is
pub handed_on : {A : Type 0} (r : Result A Error) (was : Error) (P : Error → Type 0) →
    IsErrAnd r (λ error. error ≡ was) → P was → IfErr r P
handed_on (Ok answer) was P is holds = tt
handed_on (Err error) was P is holds = subst P (sym is) holds

-- an error says that memory was refused
pub of_memory : {A : Type 0} (r : Result A Error) (P : Error → Type 0) →
    IsErrAnd r (λ error. error_kind error ≡ OutOfMemory) →
    ((error : Error) → error_kind error ≡ OutOfMemory → P error) → IfErr r P
of_memory (Ok answer) P is holds = tt
of_memory (Err error) P is holds = holds error is

module _ {S : Type 0} (step : S → Call → S → Type 0) where
  -- the system refused the call after these
  pub refused_next : (a b c : S) (done : List Call) (next : Call) (rest planned : List Call)
      (error : Error) → planned ≡ done ++ next ∷ rest → Made step a done b →
      step b (Refused (error_kind error)) c → StopsShort step a planned error c
  refused_next a b c done next rest planned error is made refused = (
    done,
    next,
    rest,
    is,
    inl (made_one step a b c done (Refused (error_kind error)) made refused),
  )

  -- the call after these was not made
  pub unmade_next : (a b : S) (done : List Call) (next : Call) (rest planned : List Call)
      (error : Error) → planned ≡ done ++ next ∷ rest → Made step a done b →
      IsUnsaid next ⊎ (error_kind error ≡ OutOfMemory) → StopsShort step a planned error b
  unmade_next a b done next rest planned error is made why = (done, next, rest, is, inr (made, why))

  -- where more calls were planned
  stops_longer : (a b : S) (planned more : List Call) (error : Error) →
      StopsShort step a planned error b → StopsShort step a (planned ++ more) error b
  stops_longer a b planned more error stops =
      let (done, next, rest, is, how) = stops in (
        done,
        next,
        rest ++ more,
        ap (λ calls. calls ++ more) is ∙ append_assoc done (next ∷ rest) more,
        how,
      )

  -- a start for which there is no memory
  pub start_unmade : (a : S) (id : Id) (words : List (List ℕ)) (error : Error) →
      error_kind error ≡ OutOfMemory → StartStops step a id words error a
  start_unmade a id [] error why = refl
  start_unmade a id (name ∷ args) error why = λ pid.
      unmade_next a a [] (Command name) (map Arg args ++ Pipes id ∷ Poll id ∷ Start id pid ∷ []) _
      error refl refl (inr why)

  -- a start whose program can't be named
  pub start_unnamed : (a b : S) (id : Id) (words : List (List ℕ)) (error : Error) →
      NamingStops step a words error b → StartStops step a id words error b
  start_unnamed a b id [] error stops = stops
  start_unnamed a b id (name ∷ args) error stops = λ pid.
      stops_longer a b (Command name ∷ map Arg args) (Pipes id ∷ Poll id ∷ Start id pid ∷ []) error
      stops

  -- a start of which a call after these was refused
  pub start_refused : (a named b c : S) (id : Id) (words : List (List ℕ)) (error : Error)
      (done : List Call) (next : ℕ → Call) (rest : ℕ → List Call) →
      ((pid : ℕ) → Pipes id ∷ Poll id ∷ Start id pid ∷ [] ≡ done ++ next pid ∷ rest pid) →
      IsNamed step a words named → Made step named done b → step b (Refused (error_kind error)) c →
      StartStops step a id words error c
  start_refused a named b c id [] error done next rest is names made refused = absurd names
  start_refused a named b c id (name ∷ args) error done next rest is names made refused = λ pid.
      let naming = Command name ∷ map Arg args in
      refused_next a b c (naming ++ done) (next pid) (rest pid) _ error
      (ap (λ calls. naming ++ calls) (is pid) ∙ sym (append_assoc naming done (next pid ∷ rest pid)))
      (made_then step a named b naming done names made) refused

  module _ {W : Type 0} (items : W → List ℕ) (words args : List W) (name : W)
      (is : words ≡ name ∷ args) where
    -- the calls that name a program of these words stop short
    abbrev pub Stops : S → Error → S → Type 0
    Stops a error b = NamingStops step a (map items words) error b

    named_so : (a : S) (error : Error) (b : S) →
        NamingStops step a (items name ∷ map items args) error b → Stops a error b
    named_so a error b stops = subst (λ ws. NamingStops step a (map items ws) error b) (sym is) stops

    -- the name is no text that the system takes
    pub name_unsaid : (a : S) (error : Error) → ¬ (IsUtf8 (items name)) → Stops a error a
    name_unsaid a error unsaid =
        named_so a error a (unmade_next a a [] (Command (items name)) (map Arg (map items args)) _
        error refl refl (inl unsaid))

    -- the name is refused
    pub name_refused : (a b : S) (error : Error) → step a (Refused (error_kind error)) b →
        Stops a error b
    name_refused a b error refused =
        named_so a error b (refused_next a a b [] (Command (items name)) (map Arg (map items args))
        _ error refl refl refused)

    module _ (done : List W) (i : ℕ) (word : W) (within : i < length args)
        (this : word ≡ slice_index_or args i word) (whole : done ++ drop i args ≡ args) where
      abbrev pub added : W → Call
      added w = Arg (items w)

      -- the arguments that were added, the next one, and the others
      parts : map Arg (map items args) ≡ map added done ++ added word ∷ map added (drop (suc i) args)
      parts =
          sym (map_twice Arg items args)
          ∙ ap (map added) (sym whole ∙ ap (λ rest. done ++ rest)
          (drop-cons args i word within ∙ ap (λ w. w ∷ drop (suc i) args) (sym this)))
          ∙ map_then added done (word ∷ drop (suc i) args)

      planned : Command (items name) ∷ map Arg (map items args)
          ≡ (Command (items name) ∷ map added done)
          ++ added word ∷ map added (drop (suc i) args)
      planned = ap (λ calls. Command (items name) ∷ calls) parts

      -- an argument is no text that the system takes
      pub arg_unsaid : (a b c : S) (error : Error) → step a (Command (items name)) b →
          Made step b (map added done) c → ¬ (IsUtf8 (items word)) → Stops a error c
      arg_unsaid a b c error begins made unsaid =
          named_so a error c (unmade_next a c (Command (items name) ∷ map added done) (added word)
          (map added (drop (suc i) args)) _ error planned (b, begins, made) (inl unsaid))

      -- an argument is refused
      pub arg_refused : (a b c d : S) (error : Error) → step a (Command (items name)) b →
          Made step b (map added done) c → step c (Refused (error_kind error)) d → Stops a error d
      arg_refused a b c d error begins made refused =
          named_so a error d (refused_next a c d (Command (items name) ∷ map added done)
          (added word) (map added (drop (suc i) args)) _ error planned (b, begins, made) refused)
