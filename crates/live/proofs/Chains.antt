-- Calls that follow one another.
use Rattle.std.proofs.Common.{◌≡◌, List, [], ◌∷◌, ◌++◌, refl, sym, ap, ◌∙◌, map, append_assoc, subst}
use Rattle.std.specs.Prelude.{flat_map}
use Rattle.live.specs.Calls.{Call, Made}

-- calls that lead on from where others have led
pub made_then : {S : Type 0} (step : S → Call → S → Type 0) (a b c : S) (first more : List Call) →
    Made step a first b → Made step b more c → Made step a (first ++ more) c
made_then step a b c [] more before after = subst (λ s. Made step s more c) (sym before) after
made_then step a b c (call ∷ first) more before after =
    (before.0, before.1, made_then step before.0 b c first more before.2 after)

-- one more call
pub made_one : {S : Type 0} (step : S → Call → S → Type 0) (a b c : S) (first : List Call)
    (call : Call) → Made step a first b → step b call c → Made step a (first ++ call ∷ []) c
made_one step a b c first call before after =
    made_then step a b c first (call ∷ []) before (c, after, refl)

-- what is gathered from calls that follow one another is gathered from each
pub gathered_then : {A B : Type 0} (f : A → List B) (xs ys : List A) →
    flat_map f (xs ++ ys) ≡ flat_map f xs ++ flat_map f ys
gathered_then f [] ys = refl
gathered_then f (x ∷ xs) ys =
    ap (λ more. f x ++ more) (gathered_then f xs ys)
    ∙ sym (append_assoc (f x) (flat_map f xs) (flat_map f ys))

-- a function of each of two lists that are joined
pub map_then : {A B : Type 0} (f : A → B) (xs ys : List A) →
    map f (xs ++ ys) ≡ map f xs ++ map f ys
map_then f [] ys = refl
map_then f (x ∷ xs) ys = ap (λ more. f x ∷ more) (map_then f xs ys)

-- one more call, where the calls are those of a list
pub made_mapped : {S A : Type 0} (step : S → Call → S → Type 0) (a b c : S) (f : A → Call)
    (done : List A) (x : A) (call : Call) → call ≡ f x → Made step a (map f done) b →
    step b call c → Made step a (map f (done ++ x ∷ [])) c
made_mapped step a b c f done x call is before after =
    rw (map_then f done (x ∷ []))
    (made_one step a b c (map f done) (f x) before
    (subst (λ one. step b one c) is after))
