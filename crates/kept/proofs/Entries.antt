-- How the entries of a map relate to the texts that contracts see.
use Rattle.std.proofs.Common.{◌≡◌, ℕ, ◌+◌, ◌<◌, ◌≤◌, nat_lt, ◌==◌, ◌⊎◌, ◌||◌, Bool, true, false, List, [], ◌∷◌, ◌++◌, length, drop, Some, Result, Ok, Err, OnOk, OnErr, IfOk, refl, sym, ap, ◌∙◌, subst, inl, inr, nat_eq, if◌then◌else◌, is_some, arith}
use Rattle.std.proofs.lemmas.Bool.{eq-eqb, ne_eqb, ltb-true, ltb-false}
use Rattle.std.proofs.lemmas.List.{length-map, length-append, length-drop, map-append}
use Rattle.std.proofs.lemmas.List.Elements.{All-push, All-drop, All-head, All-tail}
use Rattle.std.specs.Cmp.Lexicographic.{pointwise, same_text}
use Rattle.std.specs.List.{IsDistinct, AllByRecursion}
use Rattle.std.specs.Map.{lookup, keys_of}
use Rattle.std.specs.Str.{bytes_eq}
use Rattle.std.specs.declared.vec.Vec.{Vec}
use Rattle.indexmap.specs.IndexMap.{insert_entry}
use Rattle.tclparse.specs.ScriptTree.{ScriptTree}
use Rattle.tclparse.specs.Grammar.{IsScript}
use Rattle.kept.specs.Kept.{is_among, newest, with_newest, IsTree, Entries, texts_of, AreTrees}

-- one of two outcomes holds
pub either_outcome : {T E : Type 0} (P Q : Type 0) (r : Result T E) →
    OnOk r P → OnErr r Q → Q ⊎ P
either_outcome P Q (Ok x) p q = inr p
either_outcome P Q (Err e) p q = inl q

-- a shared script is that of the same text
pub same_tree : (s t : ScriptTree) (text : List ℕ) → t ≡ s → IsTree s text → IsTree t text
same_tree s t text same is =
    subst (λ (tree : ScriptTree). IsScript tree.commands tree.fault text) (sym same) is

pub shared_tree : {E : Type 0} (r : Result ScriptTree E) (s : ScriptTree)
    (text : List ℕ) → IsTree s text → IfOk r (λ t. t ≡ s) → IfOk r (λ t. IsTree t text)
shared_tree (Ok t) s text h same = same_tree s t text same h
shared_tree (Err e) s text h same = same

module _ {A : Type 0} where
  -- the tests of a map's keys
  abbrev is_key : List ℕ → Vec ℕ A → Bool
  is_key text k = pointwise nat_eq text k.items

  abbrev same_key : Vec ℕ A → Vec ℕ A → Bool
  same_key a b = pointwise nat_eq a.items b.items

  abbrev is_entry : Vec ℕ A × ScriptTree → Type 0
  is_entry e = IsTree e.1 e.0.items

  -- a script that is found is the text's
  pub tree_found : (es : Entries A) (text : List ℕ) (s : ScriptTree) → AreTrees es →
      lookup (λ k. pointwise nat_eq text k.items) es ≡ Some s → IsTree s text
  tree_found [] text s trees h = cc
  tree_found (e ∷ es) text s trees h =
      by (bytes_eq text e.0.items) refl h (tree_found es text s (All-tail is_entry e es trees))
    where
      by : (b : Bool) → bytes_eq text e.0.items ≡ b →
          (if b then Some e.1 else lookup (is_key text) es) ≡ Some s →
          (lookup (is_key text) es ≡ Some s → IsTree s text) → IsTree s text
      by true same h rest =
          let script : e.1 ≡ s = cc in
          let tree = subst (λ x. IsTree x e.0.items) script (All-head is_entry e es trees) in
          subst (IsTree s) (sym (same_text text e.0.items (sym same))) tree
      by false other h rest = rest h

  -- a text is found where it is among the texts
  pub found_among : (es : Entries A) (text : List ℕ) →
      is_some (lookup (λ k. pointwise nat_eq text k.items) es) ≡ is_among text (texts_of es)
  found_among [] text = refl
  found_among (e ∷ es) text = by (bytes_eq text e.0.items) (found_among es text)
    where
      by : (b : Bool) → is_some (lookup (is_key text) es) ≡ is_among text (texts_of es) →
          is_some (if b then Some e.1 else lookup (is_key text) es)
          ≡ (b || is_among text (texts_of es))
      by true rest = refl
      by false rest = rest

  -- a new text goes last
  pub goes_last : (es : Entries A) (k : Vec ℕ A) (s : ScriptTree) →
      is_among k.items (texts_of es) ≡ false →
      insert_entry (λ a b. pointwise nat_eq a.items b.items) es k s ≡ es ++ (k, s) ∷ []
  goes_last [] k s new = refl
  goes_last (e ∷ es) k s new = by (bytes_eq k.items e.0.items) new (goes_last es k s)
    where
      by : (b : Bool) → (b || is_among k.items (texts_of es)) ≡ false →
          (is_among k.items (texts_of es) ≡ false →
          insert_entry same_key es k s ≡ es ++ (k, s) ∷ []) →
          (if b then (e.0, s) ∷ es else e ∷ insert_entry same_key es k s)
          ≡ e ∷ (es ++ (k, s) ∷ [])
      by true new rest = absurd (cc)
      by false new rest = ap (λ r. e ∷ r) (rest new)

  -- the texts without the oldest, and one more
  oldest_out : (es : Entries A) (e : Vec ℕ A × ScriptTree) → 0 < length es →
      texts_of (drop 1 (es ++ e ∷ [])) ≡ drop 1 (texts_of es) ++ e.0.items ∷ []
  oldest_out [] e some = absurd (omega arith)
  oldest_out (x ∷ es) e some = map-append (λ e. e.0.items) es (e ∷ [])

  -- no two texts are the same
  others : (k : Vec ℕ A) (es : Entries A) →
      AllByRecursion (λ y. pointwise nat_eq k.items y.items ≡ false) (keys_of es) →
      AllByRecursion (λ t. bytes_eq k.items t ≡ false) (texts_of es)
  others k [] h = h
  others k (e ∷ es) h = (h.0, others k es h.1)

  pub distinct_texts : (es : Entries A) →
      IsDistinct (λ a b. pointwise nat_eq a.items b.items) (keys_of es) →
      IsDistinct bytes_eq (texts_of es)
  unfolding IsDistinct
  distinct_texts [] h = h
  distinct_texts (e ∷ es) h = (others e.0 es h.0, distinct_texts es h.1)

-- The entries of a map once a new text is put into it.
pub record Inserted {A : Type 0} (es new : Entries A) (k : Vec ℕ A) (s : ScriptTree)
    (text : List ℕ) (texts : List (List ℕ)) : Type 0 where
  pub view : texts_of es ≡ texts
  pub items : k.items ≡ text
  pub fresh : is_among text texts ≡ false
  pub entries : new ≡ insert_entry (λ a b. pointwise nat_eq a.items b.items) es k s

module _ {A : Type 0} (es new : Entries A) (k : Vec ℕ A) (s : ScriptTree) (text : List ℕ)
    (texts : List (List ℕ)) (put : Inserted es new k s text texts) where
  last : new ≡ es ++ (k, s) ∷ []
  last = put.entries ∙ goes_last es k s (rw (put.items, put.view) put.fresh)

  one_more : length new ≡ length es + 1
  one_more = ap length last ∙ length-append es ((k, s) ∷ [])

  as_many : length texts ≡ length es
  as_many = ap length (sym put.view) ∙ length-map es (λ e. e.0.items)

  pub trees_kept : (ys : Entries A) → ys ≡ newest new → AreTrees es → IsTree s text → AreTrees ys
  trees_kept ys left trees tree =
      let pushed = All-push is_entry es (k, s) trees (subst (IsTree s) (sym put.items) tree) in
      let all : AreTrees new = subst AreTrees (sym last) pushed in
      subst AreTrees (sym left) (by (nat_lt 256 (length new)) all)
    where
      by : (b : Bool) → AreTrees new → AreTrees (if b then drop 1 new else new)
      by true all = All-drop is_entry 1 new all
      by false all = all

  pub few_left : (ys : Entries A) → ys ≡ newest new → length es ≤ 256 → length ys ≤ 256
  few_left ys left most = rw left (by (nat_lt 256 (length new)) refl)
    where
      by : (b : Bool) → (nat_lt 256 (length new)) ≡ b → length (if b then drop 1 new else new) ≤ 256
      by true full =
          let many : 256 < length new = ltb-true 256 (length new) full in
          omega (arith, length-drop 1 new, one_more)
      by false few = ltb-false 256 (length new) few

  -- the newest texts, the new one among them
  pub texts_left : (ys : Entries A) → ys ≡ newest new → length es ≤ 256 →
      texts_of ys ≡ with_newest text texts
  texts_left ys left most = ap texts_of left ∙ by (nat_lt 256 (length new)) refl
    where
      by : (b : Bool) → (nat_lt 256 (length new)) ≡ b →
          texts_of (if b then drop 1 new else new) ≡ with_newest text texts
      by true full =
          let many : 256 < length new = ltb-true 256 (length new) full in
          let is_full : (length texts == 256) ≡ true =
          eq-eqb (length texts) 256 (omega (arith, one_more, as_many)) in
          let out = oldest_out es (k, s) (omega (arith, one_more)) in
          rw is_full (
          ap (λ l. texts_of (drop 1 l)) last ∙ out ∙ (λ i. drop 1 (put.view i) ++ put.items i ∷ [])
          )
      by false room =
          let few : length new ≤ 256 = ltb-false 256 (length new) room in
          let is_few : (length texts == 256) ≡ false =
          ne_eqb (length texts) 256 (λ e. omega (arith, one_more, as_many)) in
          let appended = map-append (λ e. e.0.items) es ((k, s) ∷ []) in
          rw is_few (ap texts_of last ∙ appended ∙ (λ i. put.view i ++ put.items i ∷ []))
