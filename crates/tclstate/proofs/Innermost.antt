-- The last of the frames that the code keeps is the innermost one that contracts see.
use Rattle.std.proofs.Common.{◌≡◌, ℕ, suc, ◌-◌, ◌<◌, List, [], ◌∷◌, ◌++◌, Bool, true, false, Result, Ok, Err, length, get_or, set, take, drop, reverse, sym, ap, subst, ◌∙◌, arith, if◌then◌else◌}
use Rattle.std.specs.Result.{OnErr}
use Rattle.std.proofs.lemmas.List.{set_split, take-append-drop, reverse-append}
use Rattle.std.proofs.Math.ListN.{drop_of_length-le}
use Rattle.std.proofs.Math.Seq.{drop-cons}
use Rattle.memory.specs.declared.NoMemory.{NoMemory}
use Rattle.tclstate.specs.InTurn.{Extends}
use Rattle.tclstate.specs.Pairs.{found}
use Rattle.tclstate.specs.Scopes.{Frame, Scopes, Trouble, is_link, scopes, variable}

-- what follows from two things that hold after a failed call holds after it too
pub on_err_both : {T E P Q R : Type 0} (r : Result T E) → (P → Q → R) → OnErr r P → OnErr r Q →
    OnErr r R
on_err_both (Ok x) f p q = p
on_err_both (Err e) f p q = f p q

module _ {X : Type 0} (xs : List X) (n : ℕ) (len : n ≡ length xs) (some : 0 < n) where
  -- the frames around the last one, the innermost first
  abbrev pub around : List X
  around = reverse (take (n - 1) xs)

  none_behind : drop (suc (n - 1)) xs ≡ []
  none_behind = drop_of_length-le xs {i = suc (n - 1)} (omega (arith, some, len))

  -- with another frame in place of the last one
  pub reverse_set : (y : X) → reverse (set xs (n - 1) y) ≡ y ∷ around
  reverse_set y =
      ap reverse (set_split xs (n - 1) y (omega (arith, some, len))
      ∙ ap (λ r. take (n - 1) xs ++ y ∷ r) none_behind)
      ∙ reverse-append (take (n - 1) xs) (y ∷ [])

  -- with the last frame as it is
  pub reverse_last : (x : X) → x ≡ get_or xs (n - 1) x → reverse xs ≡ x ∷ around
  reverse_last x is =
      ap reverse (sym (take-append-drop (n - 1) xs)
      ∙ ap (λ r. take (n - 1) xs ++ r) (drop-cons xs (n - 1) x (omega (arith, some, len))
      ∙ (λ i. sym is i ∷ none_behind i)))
      ∙ reverse-append (take (n - 1) xs) (x ∷ [])

module _ (xs : List Frame) (n : ℕ) (len : n ≡ length xs) (some : 0 < n) (x : Frame) (is : x
    ≡ get_or xs (n - 1) x) (g : Frame) (s : Scopes) (view : scopes (reverse xs) g ≡ s) where
  -- the scopes by their innermost frame
  pub by_innermost : scopes (x ∷ around xs n len some) g ≡ s
  by_innermost = ap (λ l. scopes l g) (sym (reverse_last xs n len some x is)) ∙ view

  -- a change of the innermost frame, whatever frames are around it
  pub changed_innermost : (op : Scopes → Result Scopes Trouble) (y g' : Frame) →
      ((outer : List Frame) → op (scopes (x ∷ outer) g) ≡ Ok (scopes (y ∷ outer) g'))
      → op s ≡ Ok (scopes (reverse (set xs (n - 1) y)) g')
  changed_innermost op y g' e = ap op (sym by_innermost) ∙ e (around xs n len some)
      ∙ (λ i. Ok (scopes (sym (reverse_set xs n len some y) i) g'))

  pub linked_innermost : (op : Scopes → Scopes) (y : Frame) →
      ((outer : List Frame) → op (scopes (x ∷ outer) g) ≡ scopes (y ∷ outer) g)
      → scopes (reverse (set xs (n - 1) y)) g ≡ op s
  linked_innermost op y e = (λ i. scopes (reverse_set xs n len some y i) g)
      ∙ sym (e (around xs n len some)) ∙ ap op by_innermost

  -- what holds of them, whatever frames are around the innermost one
  pub holds_innermost : {X : Type 0} (P : X → Type 0) (op : Scopes → X)
      → ((outer : List Frame) → P (op (scopes (x ∷ outer) g))) → P (op s)
  holds_innermost P op h = subst (λ t. P (op t)) by_innermost (h (around xs n len some))

  pub unchanged_innermost : (y g' : Frame) → y ≡ x → g' ≡ g → scopes (reverse (set xs (n - 1) y)) g'
      ≡ s
  unchanged_innermost y g' same global = ap (λ l. scopes l g') (reverse_set xs n len some y)
      ∙ (λ i. scopes (same i ∷ around xs n len some) (global i)) ∙ by_innermost

  -- elements that are put in the innermost frame, whatever frames are around it
  pub extends_innermost : (extend : Scopes → List (List ℕ × List ℕ) → Result Scopes Trouble)
      (es left : List (List ℕ × List ℕ)) (r : Result Bool NoMemory) (y g' : Frame) →
      ((outer : List Frame) → Extends (extend (scopes (x ∷ outer) g)) es left r
      (scopes (x ∷ outer) g) (scopes (y ∷ outer) g')) →
      Extends (extend s) es left r s (scopes (reverse (set xs (n - 1) y)) g')
  extends_innermost extend es left r y g' h =
      subst (λ t. Extends (extend s) es left r s t)
      (λ i. scopes (sym (reverse_set xs n len some y) i) g')
      (subst (λ t. Extends (extend t) es left r t (scopes (y ∷ around xs n len some) g'))
      by_innermost (h (around xs n len some)))

  -- what a name means
  pub variable_here : (name : List ℕ) → is_link (found x name) ≡ false → found x name
      ≡ variable s name
  variable_here name own =
      sym (ap (λ b. found (if b then g else x) name) own) ∙ ap (λ t. variable t name) by_innermost

  pub variable_global : (name : List ℕ) → is_link (found x name) ≡ true → found g name
      ≡ variable s name
  variable_global name link =
      sym (ap (λ b. found (if b then g else x) name) link) ∙ ap (λ t. variable t name) by_innermost
