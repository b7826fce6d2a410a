-- Variables that are added to the global frame.
use Rattle.std.proofs.Common.{◌≡◌, ◌∙◌, ℕ, List, [], ◌∷◌, ◌++◌, Bool, true, false, None, Some, Result, Ok, if◌then◌else◌, refl, sym, ap}
use Rattle.std.specs.Str.{bytes_eq}
use Rattle.tclstate.specs.Pairs.{found, put}
use Rattle.tclstate.specs.Scopes.{Scopes, Trouble, Text, scopes, written}

-- a key that is not there goes last
put_by : {X : Type 0} (b : Bool) (e : List ℕ × X) (es : List (List ℕ × X)) (key : List ℕ) (x : X) →
    (if b then Some e.1 else found es key) ≡ None →
    (found es key ≡ None → put es key x ≡ es ++ (key, x) ∷ []) →
    (if b then (e.0, x) ∷ es else e ∷ put es key x) ≡ e ∷ es ++ (key, x) ∷ []
put_by true e es key x none rest = absurd (cc)
put_by false e es key x none rest = ap (λ l. e ∷ l) (rest none)

put_new : {X : Type 0} (es : List (List ℕ × X)) (key : List ℕ) (x : X) → found es key ≡ None →
    put es key x ≡ es ++ (key, x) ∷ []
put_new [] key x none = refl
put_new (e ∷ es) key x none =
    put_by (bytes_eq key e.0) e es key x none (λ rest. put_new es key x rest)

pub written_new : (s now : Scopes) (name value : List ℕ) → s.locals ≡ [] →
    found s.globals name ≡ None → written s name None value ≡ Ok now →
    now ≡ scopes [] (s.globals ++ (name, Text value) ∷ [])
written_new s now name value global none is =
    let made : written s name None value ≡ Ok (scopes [] (put s.globals name (Text value))) =
    rw (global, none) refl in
    let one : Result Scopes Trouble = Ok now in
    let other : Result Scopes Trouble = Ok (scopes [] (put s.globals name (Text value))) in
    let both : one ≡ other = sym is ∙ made in
    let same : now ≡ scopes [] (put s.globals name (Text value)) = cc in
    same ∙ ap (λ frame. scopes [] frame) (put_new s.globals name (Text value) none)
