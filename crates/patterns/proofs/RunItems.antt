-- The items of runs, and the steps that they cost.
use Rattle.std.proofs.Common.{◌≡◌, ℕ, ◌+◌, ◌-◌, ◌*◌, ◌≤◌, Bool, true, false, cond, IsTrue, List, [], ◌∷◌, ◌++◌, length, map, take, refl, ap, sym, ◌∙◌, arith}
use Rattle.std.proofs.lemmas.List.{append-nil, length-append, length-map, append_assoc, take-map, take_at}
use Rattle.patterns.specs.Item.{Item, literal, any_run}
use Rattle.patterns.specs.Glob.{Sign, item_of, ends_in_dollar, before_dollar}
use Rattle.patterns.specs.Runs.{items_of_run, starred_items, IsFixed}
use Rattle.patterns.specs.declared.run.Run.{Run}
use Rattle.patterns.specs.declared.run.Run.TheVariants.{Text, Items}
use Rattle.patterns.proofs.Places.{IsFixed-items}

pub IsFixed-text : (bytes : List ℕ) → IsFixed (map literal bytes)
IsFixed-text [] = tt
IsFixed-text (b ∷ bytes) = IsFixed-text bytes

-- no item of a run takes a run of bytes
pub IsFixed-run : {A : Type 0} (run : Run A) → IsFixed (items_of_run run)
IsFixed-run (Text bytes) = IsFixed-text bytes.items
IsFixed-run (Items tokens) = IsFixed-items tokens.items

-- a run in front of the others
pub starred_items-cons : {A : Type 0} (runs more : List (Run A)) (run : Run A) (items : List Item) →
    runs ≡ run ∷ more → starred_items runs items ≡ items_of_run run ++ any_run
    ∷ starred_items more items
starred_items-cons runs more run items split = ap (λ r. starred_items r items) split

-- no run in front
pub starred_items-none : {A : Type 0} (runs : List (Run A)) (items : List Item) → length runs ≡ 0 →
    starred_items runs items ≡ items
starred_items-none [] items none = refl
starred_items-none (run ∷ runs) items none = absurd (omega arith)

-- one item more after the last run
pub starred_items-append : {A : Type 0} (runs : List (Run A)) (items more : List Item) →
    starred_items runs (items ++ more) ≡ starred_items runs items ++ more
starred_items-append [] items more = refl
starred_items-append (run ∷ runs) items more =
    ap (λ (x : List Item). items_of_run run ++ any_run ∷ x) (starred_items-append runs items more)
    ∙ sym (append_assoc (items_of_run run) (any_run ∷ starred_items runs items) more)

-- one run more before these items
pub starred_items-push : {A : Type 0} (runs : List (Run A)) (run : Run A) (items : List Item) →
    starred_items (runs ++ run ∷ []) items ≡ starred_items runs (items_of_run run ++ any_run
    ∷ items)
starred_items-push [] run items = refl
starred_items-push (r ∷ runs) run items =
    ap (λ (x : List Item). items_of_run r ++ any_run ∷ x) (starred_items-push runs run items)

-- the items of the last run after those before it
pub starred_items-last : {A : Type 0} (runs : List (Run A)) (items : List Item) →
    starred_items runs items ≡ starred_items runs [] ++ (items ++ [])
starred_items-last runs items =
    starred_items-append runs [] items
    ∙ ap (λ (x : List Item). starred_items runs [] ++ x) (sym (append-nil items))

-- the items of the last run with a `*` after it, and those around it
pub starred_items-before : {A : Type 0} (all runs : List (Run A)) (run : Run A)
    (items : List Item) → all ≡ runs ++ run ∷ [] →
    starred_items all items ≡ starred_items runs [] ++ (items_of_run run ++ any_run ∷ items)
starred_items-before all runs run items split =
    ap (λ r. starred_items r items) split
    ∙ starred_items-push runs run items
    ∙ starred_items-append runs [] (items_of_run run ++ any_run ∷ items)

-- a sign was read, and its item stands after the last run
pub read_item : {A : Type 0} (runs : List (Run A)) (old new : List Item) (s : Sign)
    (before after : List Sign) (whole : List Item) → before ≡ s ∷ after → new ≡ old ++ item_of s
    ∷ [] →
    starred_items runs old ++ map item_of before ≡ whole → starred_items runs new
    ++ map item_of after ≡ whole
read_item runs old new s before after whole sign pushed so_far =
    ap (λ (x : List Item). starred_items runs x ++ map item_of after) pushed
    ∙ ap (λ (x : List Item). x ++ map item_of after)
    (starred_items-append runs old (item_of s ∷ []))
    ∙ append_assoc (starred_items runs old) (item_of s ∷ []) (map item_of after)
    ∙ ap (λ (x : List Sign). starred_items runs old ++ map item_of x) (sym sign)
    ∙ so_far

-- a `*` was read, and an empty run stands last
pub read_star : {A : Type 0} (runs longer : List (Run A)) (run : Run A) (new : List Item) (s : Sign)
    (before after : List Sign) (whole : List Item) → before ≡ s ∷ after → item_of s ≡ any_run →
    longer ≡ runs ++ run ∷ [] → new ≡ [] → starred_items runs (items_of_run run)
    ++ map item_of before ≡ whole → starred_items longer new ++ map item_of after ≡ whole
read_star runs longer run new s before after whole sign star pushed empty so_far =
    let old : List Item = items_of_run run in
    ap (λ r. starred_items r new ++ map item_of after) pushed
    ∙ ap (λ (x : List Item). starred_items (runs ++ run ∷ []) x ++ map item_of after) empty
    ∙ ap (λ (x : List Item). x ++ map item_of after) (starred_items-push runs run []
    ∙ starred_items-append runs old (any_run ∷ []))
    ∙ append_assoc (starred_items runs old) (any_run ∷ []) (map item_of after)
    ∙ ap (λ (x : Item). starred_items runs old ++ x ∷ map item_of after) (sym star)
    ∙ ap (λ (x : List Sign). starred_items runs old ++ map item_of x) (sym sign)
    ∙ so_far

-- the steps of a run, of the `*` after it and of the items after that
pub steps_of_parts : (run more : List Item) (s0 s1 s2 w : ℕ) → 1 ≤ w → s1 ≤ s0 + 1 + length run * w
    → s2 ≤ s1 + length more * w → s2 ≤ s0 + length (run ++ any_run ∷ more) * w
steps_of_parts run more s0 s1 s2 w positive one two =
    let size : length (run ++ any_run ∷ more) ≡ length run + (length more + 1) =
    length-append run (any_run ∷ more) ∙ omega arith in
    let whole : length (run ++ any_run ∷ more) * w ≡ length run * w + length more * w + w =
    ap (λ (n : ℕ). n * w) size ∙ omega arith in
    omega arith

-- a step for the end of the items, beside those of the items
pub steps_of_table : (tests steps n w : ℕ) → tests ≤ n * w → steps ≤ tests + 1 → 1 ≤ w →
    steps ≤ (n + 1) * w
steps_of_table tests steps n w below one positive =
    let whole : (n + 1) * w ≡ n * w + w = omega arith in
    omega arith

items_before_dollar : (items : List Item) (all : List Sign) (dollar : Sign) → items
    ++ item_of dollar ∷ [] ≡ map item_of all → ends_in_dollar all ≡ true → items
    ≡ map item_of (before_dollar all)
items_before_dollar items all dollar same tied =
    let sizes : length items + 1 ≡ length all = sym (length-append items (item_of dollar ∷ []))
    ∙ ap length same ∙ length-map all item_of in
    let last : length items ≡ length all - 1 = omega arith in
    sym (take_at items (item_of dollar ∷ []) (length items) refl)
    ∙ ap (take (length items)) same
    ∙ take-map item_of (length items) all
    ∙ ap (λ (k : ℕ). map item_of (take k all)) last
    ∙ ap (λ (b : Bool). map item_of (cond b (take (length all - 1) all) all)) (sym tied)

-- what was read before a bare `$` that stands last and ties
pub read_tied : (may : Bool) (items : List Item) (s : Sign) (before after all : List Sign) → may
    ≡ true → before ≡ s ∷ after → after ≡ [] → ends_in_dollar all ≡ true →
    items ++ map item_of before ≡ map item_of all → items
    ≡ map item_of (cond may (before_dollar all) all)
read_tied may items s before after all ties sign none ends so_far =
    let whole : items ++ item_of s ∷ [] ≡ map item_of all =
    ap (λ (x : List Sign). items ++ item_of s ∷ map item_of x) (sym none)
    ∙ ap (λ (x : List Sign). items ++ map item_of x) (sym sign) ∙ so_far in
    items_before_dollar items all s whole ends
    ∙ ap (λ (b : Bool). map item_of (cond b (before_dollar all) all)) (sym ties)

-- what was read of a text to its end, where no bare `$` ties
pub read_untied : (may dollar : Bool) (items : List Item) (before all : List Sign) → before ≡ [] →
    (IsTrue may → dollar ≡ false) → ends_in_dollar all ≡ dollar →
    items ++ map item_of before ≡ map item_of all → items
    ≡ map item_of (cond may (before_dollar all) all)
read_untied false dollar items before all none untied ends so_far =
    sym (append-nil items) ∙ ap (λ (x : List Sign). items ++ map item_of x) (sym none) ∙ so_far
read_untied true dollar items before all none untied ends so_far =
    sym (append-nil items) ∙ ap (λ (x : List Sign). items ++ map item_of x) (sym none) ∙ so_far
    ∙ ap (λ (b : Bool). map item_of (cond b (take (length all - 1) all) all))
    (sym (ends ∙ untied refl))
