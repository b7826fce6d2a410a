-- A change in the frame in which a name is read and written is one of the scopes.
use Rattle.std.proofs.Common.{◌≡◌, ℕ, nat_eq, List, [], ◌∷◌, ◌++◌, Bool, true, false, Option, Some, None, Result, Ok, Err, refl, sym, ap, ◌∙◌, if◌then◌else◌}
use Rattle.std.specs.Cmp.Lexicographic.{pointwise}
use Rattle.std.specs.Map.{lookup, remove_entry}
use Rattle.std.specs.Str.{bytes_eq}
use Rattle.std.specs.declared.vec.Vec.{Vec}
use Rattle.indexmap.specs.IndexMap.{insert_entry}
use Rattle.tclstate.specs.declared.local.Local.{Local}
use Rattle.tclstate.specs.declared.local.Local.TheVariants as local
use Rattle.tclstate.specs.declared.error.ScopeError.{ScopeError}
use Rattle.tclstate.specs.Pairs.{found, put, without}
use Rattle.tclstate.specs.Scopes.{Variable, Text, Array, Link, Frame, Scopes, Trouble, NoVariable, on_ok, is_link, in_frame, linked, read, scopes, value_of}
use Rattle.tclstate.specs.ScopeError.{HasTrouble, HasTroubleOrRefusal}
use Rattle.tclstate.specs.Stored.{local_of, locals_of, reached, reached_value}
use Rattle.tclstate.proofs.Entries.{put_insert}
use Rattle.tclstate.proofs.Frames.{on_ok_trouble, on_ok_refusal, found_in, removed_from}

module _ (change : Frame → Result Frame Trouble) (f g : Frame) (name : List ℕ) (outer : List Frame)
  where
    -- the changed scopes, where it is known whether the name is linked
    linked_frame : (b : Bool) → is_link (found f name) ≡ b →
        in_frame change (scopes (f ∷ outer) g) name
        ≡ on_ok (λ h. if b then scopes (f ∷ outer) h else scopes (h ∷ outer) g)
        (change (if b then g else f))
    linked_frame b e =
        ap (λ l. on_ok (λ h. if l then scopes (f ∷ outer) h else scopes (h ∷ outer) g)
        (change (if l then g else f))) e

    -- a change of a name that is not linked is one of the local frame
    pub changed_here : (f' : Frame) → is_link (found f name) ≡ false → change f ≡ Ok f' →
        in_frame change (scopes (f ∷ outer) g) name ≡ Ok (scopes (f' ∷ outer) g)
    changed_here f' own e = linked_frame false own ∙ ap (on_ok (λ h. scopes (h ∷ outer) g)) e

    pub trouble_here : (e : ScopeError) → is_link (found f name) ≡ false → HasTrouble e (change f) →
        HasTrouble e (in_frame change (scopes (f ∷ outer) g) name)
    trouble_here e own h = rw (linked_frame false own)
        (on_ok_trouble (λ h. scopes (h ∷ outer) g) e (change f) h)

    pub refusal_here : (e : ScopeError) → is_link (found f name) ≡ false →
        HasTroubleOrRefusal e (change f) → HasTroubleOrRefusal e
        (in_frame change (scopes (f ∷ outer) g) name)
    refusal_here e own h = rw (linked_frame false own)
        (on_ok_refusal (λ h. scopes (h ∷ outer) g) e (change f) h)

    -- a change of a linked name is one of the globals
    pub changed_global : (g' : Frame) → is_link (found f name) ≡ true → change g ≡ Ok g' →
        in_frame change (scopes (f ∷ outer) g) name ≡ Ok (scopes (f ∷ outer) g')
    changed_global g' link e = linked_frame true link ∙ ap (on_ok (λ h. scopes (f ∷ outer) h)) e

    pub trouble_global : (e : ScopeError) → is_link (found f name) ≡ true →
        HasTrouble e (change g) →
        HasTrouble e (in_frame change (scopes (f ∷ outer) g) name)
    trouble_global e link h = rw (linked_frame true link)
        (on_ok_trouble (λ h. scopes (f ∷ outer) h) e (change g) h)

    pub refusal_global : (e : ScopeError) → is_link (found f name) ≡ true →
        HasTroubleOrRefusal e (change g) → HasTroubleOrRefusal e
        (in_frame change (scopes (f ∷ outer) g) name)
    refusal_global e link h = rw (linked_frame true link)
        (on_ok_refusal (λ h. scopes (f ∷ outer) h) e (change g) h)

-- what is read of a name that stands for something in the local frame
pub read_reached : (f g : Frame) (name : List ℕ) (outer : List Frame) (index : Option (List ℕ))
    (v : Variable) → found f name ≡ Some v →
    read (scopes (f ∷ outer) g) name index ≡ reached_value name index v g
read_reached f g name outer index (Text bytes) at =
    ap (λ o. value_of (found (if is_link o then g else f) name) index) at
    ∙ ap (λ o. value_of o index) at
read_reached f g name outer index (Array elements) at =
    ap (λ o. value_of (found (if is_link o then g else f) name) index) at
    ∙ ap (λ o. value_of o index) at
read_reached f g name outer index Link at =
    ap (λ o. value_of (found (if is_link o then g else f) name) index) at

-- nothing is read of a name that stands for nothing there
pub read_absent : (f g : Frame) (name : List ℕ) (outer : List Frame) (index : Option (List ℕ)) →
    found f name ≡ None → read (scopes (f ∷ outer) g) name index ≡ Err NoVariable
read_absent f g name outer index at =
    ap (λ o. value_of (found (if is_link o then g else f) name) index) at
    ∙ ap (λ o. value_of o index) at

-- two changes one after the other are one
on_ok_on_ok : {X Y Z : Type 0} (f : X → Y) (h : Y → Z) (r : Result X Trouble) → on_ok h (on_ok f r)
    ≡ on_ok (λ x. h (f x)) r
on_ok_on_ok f h (Ok x) = refl
on_ok_on_ok f h (Err t) = refl

-- what stands at a key is put there
pub put_found : {X : Type 0} (es : List (List ℕ × X)) (key : List ℕ) (v : X) → found es key ≡ Some v
    → put es key v ≡ es
put_found [] key v h = cc
put_found {X} (e ∷ es) key v h = by (put_found es key v) (bytes_eq key e.0) h
  where
    by : (found es key ≡ Some v → put es key v ≡ es) → (b : Bool) →
        (if b then Some e.1 else found es key) ≡ Some v →
        (if b then (e.0, v) ∷ es else e ∷ put es key v) ≡ e ∷ es
    by rest true h = let same : v ≡ e.1 = cc in ap (λ x. (e.0, x) ∷ es) same
    by rest false h = ap (λ r. e ∷ r) (rest h)

-- a new key goes last
pub put_absent : {X : Type 0} (es : List (List ℕ × X)) (key : List ℕ) (v : X) → found es key ≡ None
    → put es key v ≡ es ++ (key, v) ∷ []
put_absent [] key v h = refl
put_absent {X} (e ∷ es) key v h = by (put_absent es key v) (bytes_eq key e.0) h
  where
    by : (found es key ≡ None → put es key v ≡ es ++ (key, v) ∷ []) → (b : Bool) →
        (if b then Some e.1 else found es key) ≡ None →
        (if b then (e.0, v) ∷ es else e ∷ put es key v) ≡ e ∷ (es ++ (key, v) ∷ [])
    by rest true h = cc
    by rest false h = ap (λ r. e ∷ r) (rest h)

-- a link that is there stays
pub linked_already : (f g : Frame) (name : List ℕ) (outer : List Frame) → is_link (found f name)
    ≡ true → linked (scopes (f ∷ outer) g) name ≡ scopes (f ∷ outer) g
linked_already f g name outer e =
    ap (λ b. if b then scopes (f ∷ outer) g else if b then scopes (f ∷ outer) (without f name
    ++ (name, Link) ∷ []) else scopes ((without f name ++ (name, Link) ∷ []) ∷ outer) g) e

-- a new link goes last
pub linked_last : (f g : Frame) (name : List ℕ) (outer : List Frame) → is_link (found f name)
    ≡ false → linked (scopes (f ∷ outer) g) name
    ≡ scopes ((without f name ++ (name, Link) ∷ []) ∷ outer) g
linked_last f g name outer e =
    ap (λ b. if b then scopes (f ∷ outer) g else if b then scopes (f ∷ outer) (without f name
    ++ (name, Link) ∷ []) else scopes ((without f name ++ (name, Link) ∷ []) ∷ outer) g) e

-- a link goes last, once the local of its name is dropped
pub link_put_last : {A : Type 0} (es : List (Vec ℕ A × Local A)) (f : Frame) → locals_of es ≡ f →
    (name : List ℕ)
    (dropped : List (Vec ℕ A × Local A)) → dropped
    ≡ remove_entry (λ k. pointwise nat_eq name k.items) es →
    lookup (λ k. pointwise nat_eq name k.items) dropped ≡ None
    → (key : Vec ℕ A) → key.items ≡ name
    → (es' : List (Vec ℕ A × Local A)) → es'
    ≡ insert_entry (λ a b. pointwise nat_eq a.items b.items) dropped key local.Link
    → locals_of es' ≡ without f name ++ (name, Link) ∷ []
link_put_last es f view name dropped is gone key items es' last =
    ap locals_of last ∙ put_insert local_of dropped key local.Link
    ∙ (λ i. put (locals_of dropped) (items i) Link)
    ∙ put_absent (locals_of dropped) name Link
    (found_in local_of dropped (locals_of dropped) refl name None (sym gone))
    ∙ ap (λ h. h ++ (name, Link) ∷ []) (removed_from local_of es f view name dropped is)

module _ (own : Option Variable → Result Variable Trouble) (change : Frame → Result Frame Trouble)
    (f g : Frame) (name : List ℕ) (outer : List Frame)
    (is_own : change f ≡ on_ok (put f name) (own (found f name))) where
  -- the scopes with this variable at the name, and with these globals
  abbrev rebuilt : Variable × Frame → Scopes
  rebuilt p = scopes (put f name p.0 ∷ outer) p.1

  own_reached : (v : Variable) → is_link (Some v) ≡ false → found f name ≡ Some v
      → in_frame change (scopes (f ∷ outer) g) name
      ≡ on_ok rebuilt (on_ok (λ w. (w, g)) (own (Some v)))
  own_reached v none at =
      linked_frame change f g name outer false (ap is_link at ∙ none)
      ∙ ap (on_ok (λ h. scopes (h ∷ outer) g)) (is_own ∙ ap (λ o. on_ok (put f name) (own o)) at)
      ∙ on_ok_on_ok (put f name) (λ h. scopes (h ∷ outer) g) (own (Some v))
      ∙ sym (on_ok_on_ok (λ w. (w, g)) rebuilt (own (Some v)))

  -- a change of what stands there is one of the scopes
  pub in_frame_reached : (v : Variable) → found f name ≡ Some v
      → in_frame change (scopes (f ∷ outer) g) name
      ≡ on_ok rebuilt (reached (λ w. own (Some w)) change v g)
  in_frame_reached (Text bytes) at = own_reached (Text bytes) refl at
  in_frame_reached (Array elements) at = own_reached (Array elements) refl at
  in_frame_reached Link at =
      linked_frame change f g name outer true (ap is_link at)
      ∙ ap (λ h. on_ok (λ k. scopes (h ∷ outer) k) (change g)) (sym (put_found f name Link at))
      ∙ sym (on_ok_on_ok (λ k. (Link, k)) rebuilt (change g))

  pub changed_reached : (v w : Variable) (f' g' : Frame) → found f name ≡ Some v →
      reached (λ x. own (Some x)) change v g ≡ Ok (w, g') → f' ≡ put f name w
      → in_frame change (scopes (f ∷ outer) g) name ≡ Ok (scopes (f' ∷ outer) g')
  changed_reached v w f' g' at e is =
      in_frame_reached v at ∙ ap (on_ok rebuilt) e ∙ (λ i. Ok (scopes (sym is i ∷ outer) g'))

  pub trouble_reached : (v : Variable) (e : ScopeError) → found f name ≡ Some v →
      HasTrouble e (reached (λ x. own (Some x)) change v g) →
      HasTrouble e (in_frame change (scopes (f ∷ outer) g) name)
  trouble_reached v e at h = rw (in_frame_reached v at) (on_ok_trouble rebuilt e _ h)

  pub refusal_reached : (v : Variable) (e : ScopeError) → found f name ≡ Some v →
      HasTroubleOrRefusal e (reached (λ x. own (Some x)) change v g) →
      HasTroubleOrRefusal e (in_frame change (scopes (f ∷ outer) g) name)
  refusal_reached v e at h = rw (in_frame_reached v at) (on_ok_refusal rebuilt e _ h)
