-- What a write of a map's entry is to the frame that contracts see.
use Rattle.std.proofs.Common.{◌≡◌, ℕ, List, Option, None, Some, Result, Ok, Err, refl, sym, ap, ◌∙◌, nat_eq, false, true≢false}
use Rattle.std.specs.Cmp.Lexicographic.{pointwise}
use Rattle.std.specs.Map.{lookup, set_value, remove_entry}
use Rattle.std.specs.Option.{option_map}
use Rattle.std.specs.Result.{IsOk}
use Rattle.std.specs.declared.vec.Vec.{Vec}
use Rattle.tclstate.specs.declared.error.ScopeError.{ScopeError}
use Rattle.tclstate.specs.declared.error.ScopeError.TheVariants as error
use Rattle.tclstate.specs.Pairs.{found, put, without}
use Rattle.tclstate.specs.Scopes.{Variable, Frame, Trouble, on_ok, changed, without_name, is_link}
use Rattle.tclstate.specs.ScopeError.{HasTrouble, HasTroubleOrRefusal}
use Rattle.tclstate.specs.Stored.{pairs_of, variable_of, local_of}
use Rattle.tclstate.specs.declared.content.Content.{Content}
use Rattle.tclstate.specs.declared.content.Content.TheVariants as content
use Rattle.tclstate.specs.declared.local.Local.{Local}
use Rattle.tclstate.specs.declared.local.Local.TheVariants as local
use Rattle.tclstate.proofs.Entries.{found_lookup, put_set, set_same, without_removed}

module _ {X Y : Type 0} (f : X → Y) where
  -- a trouble stays the same where the value without trouble would be changed
  pub on_ok_trouble : (e : ScopeError) (r : Result X Trouble) → HasTrouble e r →
      HasTrouble e (on_ok f r)
  on_ok_trouble error.NoVariable r h = ap (on_ok f) h
  on_ok_trouble error.IsArray r h = ap (on_ok f) h
  on_ok_trouble error.NotArray r h = ap (on_ok f) h
  on_ok_trouble error.NoElement r h = ap (on_ok f) h
  on_ok_trouble (error.NoMemory m) r h = h

  is_ok_on_ok : (r : Result X Trouble) → IsOk r → IsOk (on_ok f r)
  is_ok_on_ok (Ok x) h = h
  is_ok_on_ok (Err t) h = h

  -- so does a trouble or a refusal of memory
  pub on_ok_refusal : (e : ScopeError) (r : Result X Trouble) → HasTroubleOrRefusal e r →
      HasTroubleOrRefusal e (on_ok f r)
  on_ok_refusal error.NoVariable r h = ap (on_ok f) h
  on_ok_refusal error.IsArray r h = ap (on_ok f) h
  on_ok_refusal error.NotArray r h = ap (on_ok f) h
  on_ok_refusal error.NoElement r h = ap (on_ok f) h
  on_ok_refusal (error.NoMemory m) r h = is_ok_on_ok r h

module _ {A X : Type 0} (seen : X → Variable) (es : List (Vec ℕ A × X)) (f : Frame)
    (view : pairs_of seen es ≡ f) (key : List ℕ) where
  -- what a look-up finds
  pub found_in : (r : Option X) → r ≡ lookup (λ k. pointwise nat_eq key k.items) es → found f key
      ≡ option_map seen r
  found_in r at = ap (λ v. found v key) (sym view) ∙ found_lookup seen es key
      ∙ ap (option_map seen) (sym at)

  module _ (change : Option Variable → Result Variable Trouble) where
    -- what is there is overwritten in place
    pub changed_in_place : (es' : List (Vec ℕ A × X)) (v w : X) → Some v
        ≡ lookup (λ k. pointwise nat_eq key k.items) es → es'
        ≡ set_value (λ k. pointwise nat_eq key k.items) es w → change (Some (seen v)) ≡ Ok (seen w)
        → on_ok (put f key) (change (found f key)) ≡ Ok (pairs_of seen es')
    changed_in_place es' v w at is e =
        ap (λ o. on_ok (put f key) (change o)) (found_in (Some v) at) ∙ ap (on_ok (put f key)) e
        ∙ ap Ok (ap (λ b. put b key (seen w)) (sym view) ∙ sym (put_set seen es key v w (sym at))
        ∙ ap (pairs_of seen) (sym is))

    -- a trouble with what is there is a trouble of the whole write
    pub trouble_in_place : (v : X) → Some v ≡ lookup (λ k. pointwise nat_eq key k.items) es →
        (e : ScopeError) → HasTrouble e (change (Some (seen v))) →
        HasTrouble e (on_ok (put f key) (change (found f key)))
    trouble_in_place v at e h = on_ok_trouble (put f key) e (change (found f key))
        (rw (found_in (Some v) at) h)

    pub refusal_in_place : (v : X) → Some v ≡ lookup (λ k. pointwise nat_eq key k.items) es →
        (e : ScopeError) → HasTroubleOrRefusal e (change (Some (seen v))) →
        HasTroubleOrRefusal e (on_ok (put f key) (change (found f key)))
    refusal_in_place v at e h = on_ok_refusal (put f key) e (change (found f key))
        (rw (found_in (Some v) at) h)

    -- what is absent is put last
    pub changed_absent : (f' : Frame) (y : Variable) → None
        ≡ lookup (λ k. pointwise nat_eq key k.items) es → change None ≡ Ok y → f' ≡ put f key y →
        on_ok (put f key) (change (found f key)) ≡ Ok f'
    changed_absent f' y at e is = ap (λ o. on_ok (put f key) (change o)) (found_in None at)
        ∙ ap (on_ok (put f key)) e ∙ ap Ok (sym is)

    pub refusal_absent : None ≡ lookup (λ k. pointwise nat_eq key k.items) es → (e : ScopeError) →
        HasTroubleOrRefusal e (change None) →
        HasTroubleOrRefusal e (on_ok (put f key) (change (found f key)))
    refusal_absent at e h = on_ok_refusal (put f key) e (change (found f key))
        (rw (found_in None at) h)

  -- writing back what was there changes nothing
  pub unchanged_in_place : (es' : List (Vec ℕ A × X)) (v w : X) → Some v
      ≡ lookup (λ k. pointwise nat_eq key k.items) es → es'
      ≡ set_value (λ k. pointwise nat_eq key k.items) es w → seen w ≡ seen v → pairs_of seen es' ≡ f
  unchanged_in_place es' v w at is same = ap (pairs_of seen) is
      ∙ set_same seen es key v w (sym at) same ∙ view

  -- what is there is put in place
  pub put_in_place : (es' : List (Vec ℕ A × X)) (v w : X) → Some v
      ≡ lookup (λ k. pointwise nat_eq key k.items) es → es'
      ≡ set_value (λ k. pointwise nat_eq key k.items) es w → pairs_of seen es' ≡ put f key (seen w)
  put_in_place es' v w at is = ap (pairs_of seen) is ∙ put_set seen es key v w (sym at)
      ∙ ap (λ b. put b key (seen w)) view

  -- after a removal the pair is gone
  pub removed_from : (es' : List (Vec ℕ A × X)) → es'
      ≡ remove_entry (λ k. pointwise nat_eq key k.items) es → pairs_of seen es' ≡ without f key
  removed_from es' is = ap (pairs_of seen) is ∙ without_removed seen es key
      ∙ ap (λ b. without b key) view

module _ {A : Type 0} where
  -- a text and an array are taken out whole
  pub content_removed : (frame : Frame) (name : List ℕ) (v : Content A) →
      without_name frame name (Some (variable_of v)) ≡ Ok (without frame name)
  content_removed frame name (content.Text value) = refl
  content_removed frame name (content.Array elements) = refl

  -- a text and an array are no links
  pub own_is_no_link : (v : Content A) → is_link (Some (variable_of v)) ≡ false
  own_is_no_link (content.Text value) = refl
  own_is_no_link (content.Array elements) = refl

  -- what is no link is taken out whole
  pub local_removed : (frame : Frame) (name : List ℕ) (v : Local A) → is_link (Some (local_of v))
      ≡ false → without_name frame name (Some (local_of v)) ≡ Ok (without frame name)
  local_removed frame name (local.Own v) own = content_removed frame name v
  local_removed frame name local.Link own = absurd (true≢false own)

-- what is absent can be made
pub makes : (index : Option (List ℕ)) (value : List ℕ) → IsOk (changed None index value)
makes None value = refl
makes (Some index) value = refl
