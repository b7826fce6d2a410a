-- Acts that are refused: by which error, and how far their calls came.
use Rattle.std.specs.Prelude.{◌≡◌, ◌≢◌, ◌⊎◌, ◌++◌, ℕ, List, [], ◌∷◌, map}
use Rattle.std.specs.IoError.{error_kind}
use Rattle.std.specs.Str.{IsUtf8}
use Rattle.std.specs.declared.io.Error.{Error}
use Rattle.std.specs.declared.io.ErrorKind.TheVariants.{OutOfMemory}
use Rattle.acts.specs.declared.id.Id.{Id}
use Rattle.acts.specs.Deed.{Reply}
use Rattle.acts.specs.Deed as said
use Rattle.live.specs.Calls.{Call, Made}
use Rattle.live.specs.Calls as call

-- the answer where an act was refused by this error: that there are no more answers where memory
-- was refused, and else that the act is refused (this project's own)
abbrev pub IsRefusal : Error → Reply → Type 0
IsRefusal error said.Refused = error_kind error ≢ OutOfMemory
IsRefusal error said.NoMore = error_kind error ≡ OutOfMemory
IsRefusal error _ = ⊥

-- a call that is not made, since the system takes texts in UTF-8 alone (this project's own)
abbrev pub IsUnsaid : Call → Type 0
IsUnsaid (call.Command name) = ¬ (IsUtf8 name)
IsUnsaid (call.Arg word) = ¬ (IsUtf8 word)
IsUnsaid (call.Connect id host port) = ¬ (IsUtf8 host)
IsUnsaid (call.OpenLog name mode) = ¬ (IsUtf8 name)
IsUnsaid _ = ⊥

-- these calls led from before to after up to one of them, and no further: the system refused that
-- one by this error, or it was not made for want of memory or of a text that the system takes
abbrev pub StopsShort : {S : Type 0} → (S → Call → S → Type 0) → S → (planned : List Call) →
    Error → S → Type 0
StopsShort step before planned error after =
    (done : List Call) × (next : Call) × (rest : List Call) × (planned ≡ done ++ next ∷ rest)
    × (Made step before (done ++ call.Refused (error_kind error) ∷ []) after
    ⊎ (Made step before done after × (IsUnsaid next ⊎ (error_kind error ≡ OutOfMemory))))

-- the calls that name a program and its arguments stop short; without a name none is made
abbrev pub NamingStops : {S : Type 0} → (S → Call → S → Type 0) → S → (words : List (List ℕ)) →
    Error → S → Type 0
NamingStops step before [] error after = before ≡ after
NamingStops step before (name ∷ args) error after =
    StopsShort step before (call.Command name ∷ map call.Arg args) error after

-- the calls that start a program of these words under an id stop short, so that none is started,
-- whatever its number would have been; without a name no call is made (expect(1), spawn)
abbrev pub StartStops : {S : Type 0} → (S → Call → S → Type 0) → S → Id →
    (words : List (List ℕ)) → Error → S → Type 0
StartStops step before id [] error after = before ≡ after
StartStops step before id (name ∷ args) error after =
    (pid : ℕ) → StopsShort step before ((call.Command name ∷ map call.Arg args)
    ++ call.Pipes id ∷ call.Poll id ∷ call.Start id pid ∷ []) error after
