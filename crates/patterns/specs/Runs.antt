-- Definitions for the contracts of private functions: runs of items without `*`, and where they
-- fit.
use Rattle.std.specs.Prelude.{◌≡◌, ℕ, ◌+◌, ◌<◌, ◌≤◌, Bool, List, [], ◌∷◌, ◌++◌, length, map, drop, filter, Contains, slice_index_or, false, IsTrue}
use Rattle.patterns.specs.Item.{Item, literal, any_byte, one_of, any_run, Reading}
use Rattle.patterns.specs.Glob.{all_bytes}
use Rattle.patterns.specs.declared.token.Token.{Token}
use Rattle.patterns.specs.declared.token.Token.TheVariants.{Literal, AnyByte, Set}
use Rattle.patterns.specs.declared.run.Run.{Run}
use Rattle.patterns.specs.declared.run.Run.TheVariants.{Text, Items}
use Rattle.patterns.specs.declared.run.Runs.{Runs}
use Rattle.patterns.specs.declared.search.Ties.{Ties}

-- The bytes that a table of 256 marks (this project's own rule).
abbrev pub marked : List Bool → List ℕ
marked table = filter (λ b. slice_index_or table b false) all_bytes

-- The item that a token stands for (this project's own rule).
abbrev pub item_of_token : {A : Type 0} → Token A → Item
item_of_token (Literal b) = literal b
item_of_token AnyByte = any_byte
item_of_token (Set table) = one_of (marked table.value)

-- The items of tokens (this project's own rule).
abbrev pub items_of : {A : Type 0} → List (Token A) → List Item
items_of tokens = map item_of_token tokens

-- The items of a run (this project's own rule).
abbrev pub items_of_run : {A : Type 0} → Run A → List Item
items_of_run (Text bytes) = map literal bytes.items
items_of_run (Items tokens) = items_of tokens.items

-- The items of runs, each run with a `*` after it, and then these items (this project's own rule).
abbrev pub starred_items : {A : Type 0} → List (Run A) → List Item → List Item
starred_items [] items = items
starred_items (run ∷ runs) items = items_of_run run ++ any_run ∷ starred_items runs items

-- The items of all runs of a pattern (this project's own rule).
abbrev pub items_of_runs : {A : Type 0} → Runs A → List Item
items_of_runs runs = starred_items runs.starred.items (items_of_run runs.last)

-- Somewhere among the items stand the bytes of the text, one after the other (this project's own
-- rule).
abbrev pub Holds : List Item → List ℕ → Type 0
Holds items text = (before after : List Item) × (items ≡ before ++ (map literal text ++ after))

-- The pattern of these runs with these ties (this project's own rule).
abbrev pub reading_of : {A : Type 0} → Runs A → Ties → Bool → Reading
reading_of runs ties folds = record {
  items = items_of_runs runs;
  at_start = ties.start;
  at_end = ties.end;
  folds = folds;
}

-- The item takes this one byte; a `*` is no such item (string(n), match).
abbrev pub Takes : Item → ℕ → Type 0
Takes (literal c) b = b ≡ c
Takes any_byte b = Unit {0}
Takes (one_of bytes) b = Contains bytes b
Takes any_run b = ⊥

-- The first item, if there is one, takes this one byte (string(n), match).
abbrev pub TakesFirst : List Item → ℕ → Type 0
TakesFirst [] b = Unit {0}
TakesFirst (item ∷ items) b = Takes item b

-- The items take the front of t, one byte each (string(n), match).
abbrev pub Fits : List Item → List ℕ → Type 0
Fits [] t = Unit {0}
Fits (item ∷ items) [] = ⊥
Fits (item ∷ items) (b ∷ t) = Takes item b × Fits items t

-- No item takes a run of bytes (string(n), match).
abbrev pub IsFixed : List Item → Type 0
IsFixed [] = Unit {0}
IsFixed (literal c ∷ items) = IsFixed items
IsFixed (any_byte ∷ items) = IsFixed items
IsFixed (one_of bytes ∷ items) = IsFixed items
IsFixed (any_run ∷ items) = ⊥

-- The items take the front of t and leave u as the rest of it (string(n), match).
abbrev pub Leaves : List Item → List ℕ → List ℕ → Type 0
Leaves [] t u = t ≡ u
Leaves (any_run ∷ items) t u = (n : ℕ) × (n ≤ length t) × Leaves items (drop n t) u
Leaves (literal c ∷ items) [] u = ⊥
Leaves (literal c ∷ items) (b ∷ t) u = Takes (literal c) b × Leaves items t u
Leaves (any_byte ∷ items) [] u = ⊥
Leaves (any_byte ∷ items) (b ∷ t) u = Takes any_byte b × Leaves items t u
Leaves (one_of bytes ∷ items) [] u = ⊥
Leaves (one_of bytes ∷ items) (b ∷ t) u = Takes (one_of bytes) b × Leaves items t u

-- The run fits at this place of the window (this project's own rule).
pub record IsPlace (run : List Item) (window : List ℕ) (place : ℕ) : Type 0 where
  pub room : place + length run ≤ length window
  pub fits : Fits run (drop place window)

-- The run's first place, at or after `from` (this project's own rule).
pub record IsFirstPlace (run : List Item) (window : List ℕ) (from place : ℕ) : Type 0 where
  pub low : from ≤ place
  pub here : IsPlace run window place
  pub before : (k : ℕ) → from ≤ k → k < place → ¬ IsPlace run window k

-- The run's last place, at or after `from` (this project's own rule).
pub record IsLastPlace (run : List Item) (window : List ℕ) (from place : ℕ) : Type 0 where
  pub low : from ≤ place
  pub here : IsPlace run window place
  pub after : (k : ℕ) → place < k → ¬ IsPlace run window k

-- The run fits at no place at or after `from` (this project's own rule).
abbrev pub FitsNowhere : List Item → List ℕ → ℕ → Type 0
FitsNowhere run window from = (k : ℕ) → from ≤ k → ¬ IsPlace run window k

-- e is an end that the tie allows (expect(1), "$").
abbrev pub IsEnd : Bool → List ℕ → ℕ → Type 0
IsEnd tied window e = (e ≤ length window) × (IsTrue tied → e ≡ length window)

-- The greatest end of the items that begin at this place (this project's own rule).
pub record IsFurthest
    (items : List Item) (tied : Bool) (window : List ℕ) (place e : ℕ) : Type 0 where
  pub is_end : IsEnd tied window e
  pub leaves : Leaves items (drop place window) (drop e window)
  pub greatest : (k : ℕ) → IsEnd tied window k
      → Leaves items (drop place window) (drop k window) → k ≤ e

-- The items that begin at this place have no end (this project's own rule).
abbrev pub EndsNowhere : List Item → Bool → List ℕ → ℕ → Type 0
EndsNowhere items tied window place =
    (e : ℕ) → IsEnd tied window e → ¬ Leaves items (drop place window) (drop e window)
