-- Elements that are written one after the other, where the name means an array and where it does
-- not.
use Rattle.std.proofs.Common.{◌≡◌, ℕ, suc, List, [], ◌∷◌, Bool, true, false, Option, Some, None, Result, Ok, Err, refl, sym, ap, ◌∙◌, take, length, ◌<◌, arith, reverse, subst, IfErr, true≢false, if◌then◌else◌}
use Rattle.std.specs.Result.{IsOk}
use Rattle.memory.specs.declared.NoMemory.{NoMemory}
use Rattle.tclstate.specs.declared.error.ScopeError.{ScopeError}
use Rattle.tclstate.specs.declared.error.ScopeError.TheVariants as error
use Rattle.tclstate.specs.InTurn.{all_put, extended, frame_extended, Extends, Fills, Leaves, scopes_extended}
use Rattle.tclstate.specs.Pairs.{found, put}
use Rattle.tclstate.specs.Scopes.{Variable, Text, Array, Link, Frame, Scopes, Trouble, on_ok, and_then, changed, means_global, innermost, outer, frame_of, with_frame, is_link, variable, written, all_written, scopes}
use Rattle.tclstate.specs.ScopeError.{HasTroubleOrRefusal}
use Rattle.tclstate.proofs.Reach.{put_found}
use Rattle.tclstate.proofs.Rewritten.{put_again, found_put}

-- what a part has of writes, the whole has
pub carried : {X Y : Type 0} (part : List (List ℕ × List ℕ) → Result X Trouble)
    (whole : List (List ℕ × List ℕ) → Result Y Trouble) (es left : List (List ℕ × List ℕ))
    (r : Result Bool NoMemory) (old new : X) (old' new' : Y) →
    ((l : List (List ℕ × List ℕ)) → part l ≡ Ok new → whole l ≡ Ok new') →
    (new ≡ old → new' ≡ old') → Extends part es left r old new → Extends whole es left r old' new'
carried part whole es left (Ok true) old new old' new' made same is = made es is
carried part whole es left (Ok false) old new old' new' made same is = (same is.0, is.1)
carried part whole es left (Err e) old new old' new' made same is =
    (is.0, made (take is.0 es) is.1)

-- there is no last one only where there is none
pub none_left : {X : Type 0} (xs : List X) (n : ℕ) → n ≡ length xs →
    (0 < n → false ≡ true) → xs ≡ []
none_left [] n len none = refl
none_left (x ∷ xs) n len none =
    let some : 0 < n = omega (arith, len) in absurd (true≢false (sym (none some)))

-- at the top level what is put in the globals is put in the scopes
pub extends_top : (name : List ℕ) (es left : List (List ℕ × List ℕ)) (r : Result Bool NoMemory)
    (g g' : Frame) (frames : List Frame) → frames ≡ [] → {s : Scopes} →
    scopes (reverse frames) g ≡ s →
    Extends (λ l. frame_extended name l g) es left r g g' →
    Extends (scopes_extended s name) es left r s (scopes (reverse frames) g')
extends_top name es left r g g' frames none {s} view made =
    subst (λ t. Extends (scopes_extended t name) es left r t (scopes (reverse frames) g')) view
    (subst (λ fs. Extends (scopes_extended (scopes (reverse fs) g) name) es left r
    (scopes (reverse fs) g) (scopes (reverse fs) g')) (sym none)
    (carried (λ l. frame_extended name l g) (scopes_extended (scopes [] g) name) es left r g g'
    (scopes [] g) (scopes [] g') (λ l put. ap (on_ok (λ h. scopes [] h)) put)
    (λ same. ap (λ h. scopes [] h) same) made))

-- the scopes with this variable at a name
abbrev with_variable : Scopes → List ℕ → Variable → Scopes
with_variable s name y = with_frame s name (put (frame_of s name) name y)

module _ (s : Scopes) (name : List ℕ) (y : Variable) where
  at_global : means_global s.locals name ≡ true →
      with_variable s name y ≡ scopes s.locals (put s.globals name y)
  at_global is = rw is refl

  at_local : means_global s.locals name ≡ false → with_variable s name y
      ≡ scopes (put (innermost s.locals) name y ∷ outer s.locals) s.globals
  at_local is = rw is refl

  module _ (own : is_link (Some y) ≡ false) where
    own_here : is_link (found (put (innermost s.locals) name y) name) ≡ false
    own_here = ap is_link (found_put (innermost s.locals) name y) ∙ own

    -- what was put at a name is what it means
    variable_put : (b : Bool) → means_global s.locals name ≡ b →
        variable (with_variable s name y) name ≡ Some y
    variable_put true is =
        ap (λ t. variable t name) (at_global is)
        ∙ ap (λ b. found (if b then put s.globals name y else innermost s.locals) name) is
        ∙ found_put s.globals name y
    variable_put false is =
        ap (λ t. variable t name) (at_local is)
        ∙ ap (λ b. found (if b then s.globals else put (innermost s.locals) name y) name) own_here
        ∙ found_put (innermost s.locals) name y

-- of two variables that are put at a name the last one counts
variable_again : (s : Scopes) (name : List ℕ) (y z : Variable) → is_link (Some y) ≡ false →
    (b : Bool) → means_global s.locals name ≡ b →
    with_variable (with_variable s name y) name z ≡ with_variable s name z
variable_again s name y z own true is =
    ap (λ t. with_variable t name z) (at_global s name y is)
    ∙ at_global (scopes s.locals (put s.globals name y)) name z is
    ∙ ap (λ h. scopes s.locals h) (put_again s.globals name y z)
    ∙ sym (at_global s name z is)
variable_again s name y z own false is =
    ap (λ t. with_variable t name z) (at_local s name y is)
    ∙ at_local (scopes (put (innermost s.locals) name y ∷ outer s.locals) s.globals) name z
    (own_here s name y own)
    ∙ ap (λ h. scopes (h ∷ outer s.locals) s.globals) (put_again (innermost s.locals) name y z)
    ∙ sym (at_local s name z is)

innermost_back : (frames : List Frame) (name : List ℕ) (g : Frame) →
    means_global frames name ≡ false → scopes (innermost frames ∷ outer frames) g ≡ scopes frames g
innermost_back [] name g is = absurd (true≢false is)
innermost_back (f ∷ fs) name g is = refl

-- what a name means may be put there again
variable_back : (s : Scopes) (name : List ℕ) (v : Variable) → variable s name ≡ Some v → (b : Bool)
    → means_global s.locals name ≡ b → with_variable s name v ≡ s
variable_back s name v at true is =
    at_global s name v is
    ∙ ap (λ h. scopes s.locals h) (put_found s.globals name v
    (sym (ap (λ b. found (if b then s.globals else innermost s.locals) name) is) ∙ at))
variable_back s name v at false is =
    at_local s name v is
    ∙ ap (λ h. scopes (h ∷ outer s.locals) s.globals) (put_found (innermost s.locals) name v
    (sym (ap (λ b. found (if b then s.globals else innermost s.locals) name) is) ∙ at))
    ∙ innermost_back s.locals name s.globals is

-- all elements can be written where the name means an array
pub all_there : (es : List (List ℕ × List ℕ)) (s : Scopes) (name : List ℕ)
    (elements : List (List ℕ × List ℕ)) → variable s name ≡ Some (Array elements) →
    all_written s name es ≡ Ok (with_variable s name (Array (all_put elements es)))
all_there [] s name elements at =
    ap Ok (sym (variable_back s name (Array elements) at (means_global s.locals name) refl))
all_there (e ∷ es) s name elements at =
    ap (λ o. and_then (on_ok (with_frame s name)
    (on_ok (put (frame_of s name) name) (changed o (Some e.0) e.1)))
    (λ after. all_written after name es)) at
    ∙ all_there es (with_variable s name (Array (put elements e.0 e.1))) name (put elements e.0 e.1)
    (variable_put s name (Array (put elements e.0 e.1)) refl (means_global s.locals name) refl)
    ∙ ap Ok (variable_again s name (Array (put elements e.0 e.1))
    (Array (all_put (put elements e.0 e.1) es)) refl (means_global s.locals name) refl)

module _ (s t : Scopes) (name : List ℕ) where
  -- elements that were put at once were put into an array
  pub into_array : (es : List (List ℕ × List ℕ)) → scopes_extended s name es ≡ Ok t →
      (elements : List (List ℕ × List ℕ)) × (variable s name ≡ Some (Array elements))
      × (with_variable s name (Array (all_put elements es)) ≡ t)
  into_array es made = by (variable s name) refl made
    where
      by : (o : Option Variable) → variable s name ≡ o → on_ok (with_frame s name)
          (on_ok (put (frame_of s name) name) (extended es o)) ≡ Ok t →
          (elements : List (List ℕ × List ℕ)) × (variable s name ≡ Some (Array elements))
          × (with_variable s name (Array (all_put elements es)) ≡ t)
      by (Some (Text bytes)) at made = cc
      by (Some (Array elements)) at made = (elements, at, (cc))
      by (Some Link) at made = cc
      by None at made = cc

  -- what was put at once is written so one after the other
  pub all_at_once : (es : List (List ℕ × List ℕ)) → scopes_extended s name es ≡ Ok t →
      all_written s name es ≡ Ok t
  all_at_once es made =
      let into = into_array es made in all_there es s name into.0 into.1 ∙ ap Ok into.2

  -- where some could be put at once, all can be written
  pub can_all : (es some : List (List ℕ × List ℕ)) → scopes_extended s name some ≡ Ok t →
      IsOk (all_written s name es)
  can_all es some made =
      let into = into_array some made in rw (all_there es s name into.0 into.1) refl

  -- after one element is written all others can be
  pub all_others : (es : List (List ℕ × List ℕ)) (index value : List ℕ) →
      written s name (Some index) value ≡ Ok t →
      (u : Scopes) × (all_written t name es ≡ Ok u)
  all_others es index value made = by (variable s name) made
    where
      into : (elements : List (List ℕ × List ℕ)) → with_variable s name (Array elements) ≡ t →
          (u : Scopes) × (all_written t name es ≡ Ok u)
      into elements is = (
        _,
        all_there es t name elements
            (ap (λ u. variable u name) (sym is)
            ∙ variable_put s name (Array elements) refl (means_global s.locals name) refl),
      )

      by : (o : Option Variable) → on_ok (with_frame s name)
          (on_ok (put (frame_of s name) name) (changed o (Some index) value)) ≡ Ok t →
          (u : Scopes) × (all_written t name es ≡ Ok u)
      by (Some (Text bytes)) made = cc
      by (Some (Array elements)) made = into (put elements index value) (cc)
      by (Some Link) made = into ((index, value) ∷ []) (cc)
      by None made = into ((index, value) ∷ []) (cc)

module _ (s : Scopes) (name index value : List ℕ) (es : List (List ℕ × List ℕ)) where
  -- what follows the first write
  abbrev others : Scopes → Result Scopes Trouble
  others after = all_written after name es

  refused_first : (r : Result Scopes Trouble) → written s name (Some index) value ≡ r → IsOk r →
      IsOk (and_then r others)
  refused_first (Ok t) made ok =
      rw (all_others s t name es index value made).1 refl
  refused_first (Err trouble) made ok = absurd (true≢false (sym ok))

  -- the trouble of the first write is that of all
  pub trouble_first : (e : ScopeError) →
      HasTroubleOrRefusal e (written s name (Some index) value) →
      HasTroubleOrRefusal e (all_written s name ((index, value) ∷ es))
  trouble_first error.NoVariable h = ap (λ r. and_then r others) h
  trouble_first error.IsArray h = ap (λ r. and_then r others) h
  trouble_first error.NotArray h = ap (λ r. and_then r others) h
  trouble_first error.NoElement h = ap (λ r. and_then r others) h
  trouble_first (error.NoMemory e) h =
      refused_first (written s name (Some index) value) refl h

  -- only the first write can be the one that can't be made
  pub first_stops : (trouble : Trouble) →
      all_written s name ((index, value) ∷ es) ≡ Err trouble →
      written s name (Some index) value ≡ Err trouble
  first_stops trouble is = by (written s name (Some index) value) refl is
    where
      by : (r : Result Scopes Trouble) → written s name (Some index) value ≡ r →
          and_then r others ≡ Err trouble → r ≡ Err trouble
      by (Ok t) made is = let all = (all_others s t name es index value made).1 in cc
      by (Err other) made is = cc

  -- nothing is left where the first write was not made
  pub leaves_first : (e : ScopeError) (new : Scopes) → new ≡ s →
      Leaves e name ((index, value) ∷ es) s new
  leaves_first error.NoVariable new same = same
  leaves_first error.IsArray new same = same
  leaves_first error.NotArray new same = same
  leaves_first error.NoElement new same = same
  leaves_first (error.NoMemory e) new same = (0, ap Ok (sym same))

  module _ (t : Scopes) (made : written s name (Some index) value ≡ Ok t) where
    -- the others follow the first
    pub all_follow : all_written s name ((index, value) ∷ es) ≡ all_written t name es
    all_follow = ap (λ r. and_then r others) made

    -- what an error after the first write leaves
    pub leaves_later : (e : ScopeError) (new : Scopes) →
        HasTroubleOrRefusal e (all_written t name es) → Leaves e name es t new →
        Leaves e name ((index, value) ∷ es) s new
    leaves_later error.NoVariable new h left =
        let all = (all_others s t name es index value made).1 in cc
    leaves_later error.IsArray new h left =
        let all = (all_others s t name es index value made).1 in cc
    leaves_later error.NotArray new h left =
        let all = (all_others s t name es index value made).1 in cc
    leaves_later error.NoElement new h left =
        let all = (all_others s t name es index value made).1 in cc
    leaves_later (error.NoMemory e) new h left = (
      suc left.0,
      ap (λ r. and_then r (λ after. all_written after name (take left.0 es))) made ∙ left.1,
    )

module _ (s t : Scopes) (name : List ℕ) (es left : List (List ℕ × List ℕ)) where
  -- all were put at once
  pub at_once_ok : (r : Result Bool NoMemory) → r ≡ Ok true →
      Extends (scopes_extended s name) es left r s t → all_written s name es ≡ Ok t
  at_once_ok (Ok true) is made = all_at_once s t name es made
  at_once_ok (Ok false) is made = cc
  at_once_ok (Err refusal) is made = cc

  -- where memory was refused, all could be written
  pub at_once_can : (r : Result Bool NoMemory) (refusal : NoMemory) → r ≡ Err refusal →
      Extends (scopes_extended s name) es left r s t → IsOk (all_written s name es)
  at_once_can (Ok true) refusal is made = cc
  at_once_can (Ok false) refusal is made = cc
  at_once_can (Err other) refusal is made = can_all s t name es (take made.0 es) made.1

  -- and some are written
  pub at_once_some : (r : Result Bool NoMemory) (refusal : NoMemory) → r ≡ Err refusal →
      Extends (scopes_extended s name) es left r s t →
      (n : ℕ) × (all_written s name (take n es) ≡ Ok t)
  at_once_some (Ok true) refusal is made = cc
  at_once_some (Ok false) refusal is made = cc
  at_once_some (Err other) refusal is made =
      (made.0, all_at_once s t name (take made.0 es) made.1)

-- the elements that follow the first one are put into what it leaves
pub fills_later : {T E : Type 0} (old middle : List (List ℕ × List ℕ)) (e : List ℕ × List ℕ)
    (all es : List (List ℕ × List ℕ)) (r : Result T E) (new : List (List ℕ × List ℕ)) →
    all ≡ e ∷ es → middle ≡ put old e.0 e.1 → Fills middle es r new → Fills old all r new
fills_later old middle e all es (Ok done) new is first made =
    made ∙ (λ i. all_put (first i) es) ∙ ap (all_put old) (sym is)
fills_later old middle e all es (Err refusal) new is first made = (
  suc made.0,
  made.1 ∙ (λ i. all_put (first i) (take made.0 es))
      ∙ ap (λ l. all_put old (take (suc made.0) l)) (sym is),
)

module _ (s : Scopes) (name index value : List ℕ) (all es : List (List ℕ × List ℕ))
    (is : all ≡ (index, value) ∷ es) where
  -- the trouble of the first write is that of all
  pub trouble_of_first : (e : ScopeError) →
      HasTroubleOrRefusal e (written s name (Some index) value) →
      HasTroubleOrRefusal e (all_written s name all)
  trouble_of_first e h =
      subst (λ l. HasTroubleOrRefusal e (all_written s name l)) (sym is)
      (trouble_first s name index value es e h)

  -- what an error after the first write leaves
  pub left_later : {T : Type 0} (t new : Scopes) (r : Result T ScopeError) →
      written s name (Some index) value ≡ Ok t →
      IfErr r (λ e. HasTroubleOrRefusal e (all_written t name es)) →
      IfErr r (λ e. Leaves e name es t new) → IfErr r (λ e. Leaves e name all s new)
  left_later t new (Ok done) made h left = tt
  left_later t new (Err e) made h left =
      subst (λ l. Leaves e name l s new) (sym is)
      (leaves_later s name index value es t made e new h left)
