-- Reads that follow one another in a look.
use Rattle.std.proofs.Common.{◌≡◌, ℕ, List, [], ◌∷◌, ◌++◌, map, refl, subst, ap, ◌∙◌, length, length-append, append-nil, arith}
use Rattle.std.specs.List.{AllByRecursion, flat_map}
use Rattle.acts.specs.declared.id.Id.{Id}
use Rattle.live.specs.Calls.{Call, Got, Gave, Failed, Read, Made, bytes_of}
use Rattle.live.specs.Look.{IsNothing, IsEnd, Finds, found_bytes}
use Rattle.live.specs.declared.link.Look.{Look}
use Rattle.live.specs.declared.link.Look.TheVariants.{Bytes, Silence, End}
use Rattle.live.proofs.Chains.{made_one, map_then, gathered_then}

-- one more read from the link of an id
pub next_read : {S : Type 0} (step : S → Call → S → Type 0) (id from : Id) (a b c : S)
    (gots : List Got) (got : Got) → Made step a (map (Read id) gots) b → from ≡ id →
    step b (Read from got) c → Made step a (map (Read id) (gots ++ got ∷ [])) c
next_read step id from a b c gots got before same after =
    rw (map_then (Read id) gots (got ∷ []))
    (made_one step a b c (map (Read id) gots) (Read id got) before
    (subst (λ link. step b (Read link got) c) same after))

-- what holds of each of a list and of one more holds of each
pub all_and_one : {A : Type 0} (P : A → Type 0) (xs : List A) (x : A) → AllByRecursion P xs → P x →
    AllByRecursion P (xs ++ x ∷ [])
all_and_one P [] x all one = (one, tt)
all_and_one P (y ∷ xs) x all one = (all.0, all_and_one P xs x all.1 one)

-- with one more, no list is empty
pub one_more : {A : Type 0} (xs : List A) (x : A) → xs ++ x ∷ [] ≡ [] → ⊥
one_more xs x none =
    let long = length-append xs (x ∷ []) in let short = ap length none in omega arith

-- reads that found nothing gave no bytes
pub nothing_read : (gots : List Got) → AllByRecursion IsNothing gots → flat_map bytes_of gots ≡ []
nothing_read [] nothing = refl
nothing_read (Gave bytes ∷ gots) nothing = absurd nothing.0
nothing_read (Failed kind ∷ gots) nothing = nothing_read gots nothing.1

-- an end gives no bytes
end_is : (got : Got) → IsEnd got → bytes_of got ≡ []
end_is (Gave bytes) end = end
end_is (Failed kind) end = refl

-- reads of which only the last found something gave the bytes of the last
last_is : (gots tries : List Got) (last : Got) → AllByRecursion IsNothing tries →
    gots ≡ tries ++ last ∷ [] → flat_map bytes_of gots ≡ bytes_of last
last_is gots tries last nothing is =
    ap (flat_map bytes_of) is ∙ gathered_then bytes_of tries (last ∷ [])
    ∙ ap (λ front. front ++ (bytes_of last ++ [])) (nothing_read tries nothing)
    ∙ append-nil (bytes_of last)

-- the reads of a look gave what it found
pub found_is : (gots : List Got) (found : Look) (room : List ℕ) → Finds gots found room →
    flat_map bytes_of gots ≡ found_bytes found room
found_is gots (Bytes count) room (tries, nothing, is) = last_is gots tries _ nothing is
found_is gots Silence room (nothing, more) = nothing_read gots nothing
found_is gots End room (tries, last, nothing, end, is) =
    last_is gots tries last nothing is ∙ end_is last end

-- a look that found no count of bytes found none
pub none_found : (found : Look) (room : List ℕ) → ((count : ℕ) → found ≡ Bytes count → ⊥) →
    found_bytes found room ≡ []
none_found (Bytes count) room none = absurd (none count refl)
none_found Silence room none = refl
none_found End room none = refl
