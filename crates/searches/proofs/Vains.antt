-- Runs that were sought and not found, while bytes come and go.
use Rattle.std.proofs.Common.{◌≡◌, ℕ, ◌+◌, ◌-◌, ◌≤◌, ◌<◌, Bool, true, false, List, [], ◌∷◌, ◌++◌, length, drop, get_or, zero, suc, refl, sym, subst, arith}
use Rattle.std.proofs.Math.ListN.{set}
use Rattle.std.specs.List.{AllByRecursion}
use Rattle.searches.specs.Lead.{run_by, run_of, sought_by}
use Rattle.searches.specs.Vain.{ArePassed}
use Rattle.searches.specs.declared.lead.Key.{Key}
use Rattle.searches.specs.declared.style.Style.{Style}
use Rattle.searches.specs.declared.style.Style.TheVariants as style
use Rattle.searches.specs.declared.vain.Vain.{Vain}
use Rattle.patterns.proofs.Shifts.{Passed-drop, Passed-more}
use Rattle.patterns.specs.Passed.{Passed}

pub all_so : {X : Type 0} (P Q : X → Type 0) → ((x : X) → P x → Q x) → (xs : List X) →
    AllByRecursion P xs → AllByRecursion Q xs
all_so P Q so [] all = tt
all_so P Q so (x ∷ xs) (here, all) = (so x here, all_so P Q so xs all)

-- what holds of all elements holds of the one at a place
pub all_at : {X : Type 0} (P : X → Type 0) (xs : List X) (k : ℕ) (x : X) → k < length xs →
    x ≡ get_or xs k x → AllByRecursion P xs → P x
all_at P [] k x below has all = absurd (omega (arith, below))
all_at P (y ∷ ys) zero x below has all = subst P (sym has) all.0
all_at P (y ∷ ys) (suc k) x below has all = all_at P ys k x (omega (arith, below)) has all.1

-- it holds still where it holds of what is put at a place
pub all_set : {X : Type 0} (P : X → Type 0) (xs : List X) (k : ℕ) (y : X) → P y →
    AllByRecursion P xs → AllByRecursion P (set xs k y)
all_set P [] k y new all = tt
all_set P (x ∷ xs) zero y new all = (new, all.1)
all_set P (x ∷ xs) (suc k) y new all = (all.0, all_set P xs k y new all.1)

-- and where it holds of what is put after them
pub all_and : {X : Type 0} (P : X → Type 0) (xs : List X) (y : X) → P y →
    AllByRecursion P xs → AllByRecursion P (xs ++ y ∷ [])
all_and P [] y new all = (new, tt)
all_and P (x ∷ xs) y new all = (all.0, all_and P xs y new all.1)

-- a run is tied nowhere
untied : {A : Type 0} (key : Key A) → (run_of key).at_start ≡ false
untied key = by key.style key.folds key.text
  where
    by : (style : Style) (folds : Bool) (text : List ℕ) →
        (sought_by folds (run_by style text)).at_start ≡ false
    by style.Glob true text = refl
    by style.Glob false text = refl
    by style.Exact true text = refl
    by style.Exact false text = refl

passed_gone : {A : Type 0} (gone count : ℕ) (bytes : List ℕ) (key : Key A) (from : ℕ) →
    count ≤ length bytes → Passed (run_of key) bytes (from - gone) →
    Passed (run_of key) (drop count bytes) (from - (gone + count))
passed_gone gone count bytes key from inside passed =
    let place : from - gone - count ≡ from - (gone + count) = omega arith in
    subst (Passed (run_of key) (drop count bytes)) place
    (Passed-drop (run_of key) bytes count (from - gone) (untied key) inside passed)

-- bytes have gone from the front
pub are_gone : {A : Type 0} (gone count : ℕ) (bytes : List ℕ) (vains : List (Vain A)) →
    count ≤ length bytes → ArePassed gone bytes vains →
    ArePassed (gone + count) (drop count bytes) vains
are_gone gone count bytes vains inside are =
    all_so _ _ (λ vain. passed_gone gone count bytes vain.key vain.from inside) vains are

-- bytes have come
pub are_more : {A : Type 0} (gone : ℕ) (bytes more : List ℕ) (vains : List (Vain A)) →
    ArePassed gone bytes vains → ArePassed gone (bytes ++ more) vains
are_more gone bytes more vains are =
    all_so _ _ (λ vain. Passed-more (run_of vain.key) bytes more (vain.from - gone)) vains are
