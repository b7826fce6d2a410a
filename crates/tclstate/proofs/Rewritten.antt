-- What is written where something was just written is all that stands there.
use Rattle.std.proofs.Common.{◌≡◌, ℕ, List, [], ◌∷◌, Bool, true, false, Option, Some, None, Result, Ok, refl, sym, ap, ◌∙◌, if◌then◌else◌}
use Rattle.std.specs.Str.{bytes_eq}
use Rattle.std.proofs.lemmas.Slice.Eq.{bytes_eq-Decides}
use Rattle.tclstate.specs.Pairs.{found, put}
use Rattle.tclstate.specs.Scopes.{Variable, Text, Array, Link, Frame, Scopes, Trouble, on_ok, value_of, changed, frame_written, means_global, innermost, outer, frame_of, with_frame, is_link, read, written, scopes}

same_key : (key : List ℕ) → bytes_eq key key ≡ true
same_key key = (bytes_eq-Decides key key).1 refl

module _ {X : Type 0} where
  -- the last of two writes of a key counts
  pub put_again : (es : List (List ℕ × X)) (key : List ℕ) (x y : X) →
      put (put es key x) key y ≡ put es key y
  put_again [] key x y = rw (same_key key) refl
  put_again (e ∷ es) key x y = by (put_again es key x y) (bytes_eq key e.0) refl
    where
      by : put (put es key x) key y ≡ put es key y → (b : Bool) → bytes_eq key e.0 ≡ b →
          put (put (e ∷ es) key x) key y ≡ put (e ∷ es) key y
      by rest true is = rw is (rw is refl)
      by rest false is = rw is (rw is (ap (λ r. e ∷ r) rest))

  -- what was written stands there
  pub found_put : (es : List (List ℕ × X)) (key : List ℕ) (x : X) →
      found (put es key x) key ≡ Some x
  found_put [] key x = rw (same_key key) refl
  found_put (e ∷ es) key x = by (found_put es key x) (bytes_eq key e.0) refl
    where
      by : found (put es key x) key ≡ Some x → (b : Bool) → bytes_eq key e.0 ≡ b →
          found (put (e ∷ es) key x) key ≡ Some x
      by rest true is = rw is (rw is refl)
      by rest false is = rw is (rw is rest)

-- an element is written again
array_again : (elements : List (List ℕ × List ℕ)) (index value other : List ℕ) →
    changed (Some (Array (put elements index value))) (Some index) other
    ≡ changed (Some (Array elements)) (Some index) other
array_again elements index value other = ap (λ es. Ok (Array es)) (put_again elements index value other)

-- of a variable that can be read, the last of two writes counts
pub changed_again : (x : Option Variable) (index : Option (List ℕ)) (text value other : List ℕ)
    (y : Variable) → value_of x index ≡ Ok text → changed x index value ≡ Ok y →
    changed (Some y) index other ≡ changed x index other
changed_again (Some (Text bytes)) None text value other y is made = cc
changed_again (Some (Text bytes)) (Some index) text value other y is made = cc
changed_again (Some (Array elements)) None text value other y is made = cc
changed_again (Some (Array elements)) (Some index) text value other y is made =
    let at : Array (put elements index value) ≡ y = cc in
    ap (λ z. changed (Some z) (Some index) other) (sym at) ∙ array_again elements index value other
changed_again (Some Link) index text value other y is made = cc
changed_again None index text value other y is made = cc

-- what can be read can be written
pub changes : (x : Option Variable) (index : Option (List ℕ)) (text value : List ℕ) →
    value_of x index ≡ Ok text → (y : Variable) × (changed x index value ≡ Ok y)
changes (Some (Text bytes)) None text value is = (_, refl)
changes (Some (Text bytes)) (Some index) text value is = cc
changes (Some (Array elements)) None text value is = cc
changes (Some (Array elements)) (Some index) text value is = (_, refl)
changes (Some Link) index text value is = cc
changes None index text value is = cc

-- what is written is no link
no_link : (x : Option Variable) (index : Option (List ℕ)) (value : List ℕ) (y : Variable) →
    changed x index value ≡ Ok y → is_link (Some y) ≡ false
no_link (Some (Text bytes)) None value y made = cc
no_link (Some (Text bytes)) (Some index) value y made = cc
no_link (Some (Array elements)) None value y made = cc
no_link (Some (Array elements)) (Some index) value y made = cc
no_link (Some Link) None value y made = cc
no_link (Some Link) (Some index) value y made = cc
no_link None None value y made = cc
no_link None (Some index) value y made = cc

-- in a frame the last of two writes counts
frame_again : (f : Frame) (name : List ℕ) (index : Option (List ℕ)) (text other : List ℕ)
    (y z : Variable) → changed (Some y) index other ≡ changed (found f name) index other →
    changed (found f name) index other ≡ Ok z →
    frame_written name index other (put f name y) ≡ frame_written name index other f
frame_again f name index text other y z same made =
    ap (λ x. on_ok (put (put f name y) name) (changed x index other)) (found_put f name y)
    ∙ ap (on_ok (put (put f name y) name)) (same ∙ made)
    ∙ ap Ok (put_again f name y z)
    ∙ sym (ap (on_ok (put f name)) made)

-- a write in a local frame
written_local : (s : Scopes) (name : List ℕ) (index : Option (List ℕ)) (value : List ℕ) →
    means_global s.locals name ≡ false → written s name index value
    ≡ on_ok (λ h. scopes (h ∷ outer s.locals) s.globals)
    (frame_written name index value (innermost s.locals))
written_local s name index value is =
    ap (λ l. on_ok (λ h. if l then scopes s.locals h else scopes (h ∷ outer s.locals) s.globals)
    (frame_written name index value (if l then s.globals else innermost s.locals))) is

-- a write in the global frame
written_global : (s : Scopes) (name : List ℕ) (index : Option (List ℕ)) (value : List ℕ) →
    means_global s.locals name ≡ true → written s name index value
    ≡ on_ok (λ h. scopes s.locals h) (frame_written name index value s.globals)
written_global s name index value is =
    ap (λ l. on_ok (λ h. if l then scopes s.locals h else scopes (h ∷ outer s.locals) s.globals)
    (frame_written name index value (if l then s.globals else innermost s.locals))) is

module _ (s : Scopes) (name : List ℕ) (index : Option (List ℕ)) (other : List ℕ) (y : Variable)
    (own : is_link (Some y) ≡ false)
    (same : frame_written name index other (put (frame_of s name) name y)
    ≡ frame_written name index other (frame_of s name)) where
  -- the same in the scopes, where it is known whether the name means a global
  scopes_again : (b : Bool) → means_global s.locals name ≡ b →
      written (with_frame s name (put (frame_of s name) name y)) name index other
      ≡ written s name index other
  scopes_again true is =
      let at : with_frame s name (put (frame_of s name) name y)
      ≡ scopes s.locals (put s.globals name y) = rw is refl in
      ap (λ t. written t name index other) at
      ∙ written_global (scopes s.locals (put s.globals name y)) name index other is
      ∙ ap (on_ok (λ h. scopes s.locals h)) (rw is at same)
      ∙ sym (written_global s name index other is)
  scopes_again false is =
      let here : is_link (found (put (innermost s.locals) name y) name) ≡ false =
      ap is_link (found_put (innermost s.locals) name y) ∙ own in
      let at : with_frame s name (put (frame_of s name) name y)
      ≡ scopes (put (innermost s.locals) name y ∷ outer s.locals) s.globals = rw is refl in
      ap (λ t. written t name index other) at
      ∙ written_local (scopes (put (innermost s.locals) name y ∷ outer s.locals) s.globals) name
      index other here
      ∙ ap (on_ok (λ h. scopes (h ∷ outer s.locals) s.globals)) (rw is at same)
      ∙ sym (written_local s name index other is)

-- of a name that can be read the last of two writes counts, and it can be written
pub written_again : (s t : Scopes) (name : List ℕ) (index : Option (List ℕ))
    (text value other : List ℕ) → read s name index ≡ Ok text → written s name index value ≡ Ok t →
    written t name index other ≡ written s name index other
written_again s t name index text value other is made =
    let first = changes (found (frame_of s name) name) index text value is in
    let last = changes (found (frame_of s name) name) index text other is in
    let same = changed_again (found (frame_of s name) name) index text value other first.0 is first.1 in
    let at : with_frame s name (put (frame_of s name) name first.0) ≡ t =
    ok_is (ap (λ r. on_ok (with_frame s name) (on_ok (put (frame_of s name) name) r)) first.1)
    made in
    ap (λ r. written r name index other) (sym at)
    ∙ scopes_again s name index other first.0
    (no_link (found (frame_of s name) name) index value first.0 first.1)
    (frame_again (frame_of s name) name index text other first.0 last.0 same last.1)
    (means_global s.locals name) refl
  where
    ok_is : {x y : Scopes} {r : Result Scopes Trouble} → r ≡ Ok x → r ≡ Ok y → x ≡ y
    ok_is e f = cc

pub can_write : (s : Scopes) (name : List ℕ) (index : Option (List ℕ)) (text other : List ℕ) →
    read s name index ≡ Ok text → (t : Scopes) × (written s name index other ≡ Ok t)
can_write s name index text other is =
    let last = changes (found (frame_of s name) name) index text other is in
    (_, ap (λ r. on_ok (with_frame s name) (on_ok (put (frame_of s name) name) r)) last.1)
