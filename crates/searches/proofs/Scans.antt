-- How the signs of a glob are passed, and what its last run says of it.
use Rattle.std.proofs.Common.{◌≡◌, ℕ, zero, suc, ◌+◌, ◌-◌, ◌≤◌, ◌<◌, ◌==◌, Bool, true, false, cond, List, [], ◌∷◌, ◌++◌, length, map, take, drop, refl, sym, ◌∙◌, ap, subst, arith, slice_index, Some}
use Rattle.std.specs.Prelude.{slice_range}
use Rattle.std.proofs.Math.Seq.{take-add}
use Rattle.std.proofs.lemmas.Bool.{false_from_ne_true, false≢true}
use Rattle.std.proofs.lemmas.List.{append-nil, append_assoc, length-append, length-drop, length-map, map-append, take-append-drop}
use Rattle.std.specs.List.{AllByRecursion}
use Rattle.patterns.proofs.RunItems.{IsFixed-text}
use Rattle.patterns.specs.Glob.{Sign, bare, quoted, a_set, signs, signs_in_set, signs_behind_backslash, item_of, ends_in_dollar, begins_in_caret, after_caret, glob, plain, exact, folded}
use Rattle.patterns.specs.Item.{Item, Reading, literal, any_byte, one_of, any_run}
use Rattle.patterns.specs.Match.{Sits, Whole, compared}
use Rattle.patterns.specs.Runs.{IsFixed}
use Rattle.searches.specs.Lead.{IsLead, IsRun, IsNeeded, pattern_by, sought_by}
use Rattle.searches.specs.declared.lead.Lead.{Lead}
use Rattle.searches.specs.Runs.{IsFree, IsOne, AreOnes, AreFree, AreStars, Reads, IsSign, IsFront, IsWithin, IsAlone, is_bare}
use Rattle.searches.specs.declared.style.Style.{Style}
use Rattle.searches.specs.declared.style.Style.TheVariants as style
use Rattle.searches.proofs.Leads.{part_needed, text_run}
use Rattle.searches.proofs.Vains.{all_so, all_and}

-- one item more in front takes one byte more
fixed_cons : (item : Item) (items : List Item) → IsFixed (item ∷ []) → IsFixed items →
    IsFixed (item ∷ items)
fixed_cons (literal c) items one fixed = fixed
fixed_cons any_byte items one fixed = fixed
fixed_cons (one_of bytes) items one fixed = fixed
fixed_cons any_run items one fixed = absurd one

ones_fixed : (all : List Sign) → AreOnes all → IsFixed (map item_of all)
ones_fixed [] ones = tt
ones_fixed (s ∷ ss) (here, more) =
    fixed_cons (item_of s) (map item_of ss) here.1 (ones_fixed ss more)

-- where no sign is a bare `$`, the last one is none
free_ends : (all : List Sign) → AreFree all → ends_in_dollar all ≡ false
free_ends [] free = refl
free_ends (s ∷ []) free = free.0
free_ends (s ∷ t ∷ ss) free = free_ends (t ∷ ss) free.1

no_caret : (text : List ℕ) → begins_in_caret text ≡ false → after_caret text ≡ text
no_caret [] none = refl
no_caret (b ∷ t) none = ap (λ (x : Bool). cond x t (b ∷ t)) none

-- a glob by its signs, and by whether it is tied to the window's ends
abbrev made : Bool → Bool → List Sign → Reading
made start end all = record {
  items = map item_of (cond end (take (length all - 1) all) all);
  at_start = start;
  at_end = end;
  folds = false;
}

-- a glob without `^` in front and without a bare `$` is tied nowhere
untied : (text : List ℕ) → begins_in_caret text ≡ false → AreFree (signs text) →
    glob text ≡ plain text
untied text caret free =
    ap (λ (x : List ℕ). made (begins_in_caret text) (ends_in_dollar (signs x)) (signs x))
    (no_caret text caret)
    ∙ ap (λ (b : Bool). made b (ends_in_dollar (signs text)) (signs text)) caret
    ∙ ap (λ (b : Bool). made false b (signs text)) (free_ends (signs text) free)

all_join : {X : Type 0} (P : X → Type 0) (xs ys : List X) → AllByRecursion P xs →
    AllByRecursion P ys → AllByRecursion P (xs ++ ys)
all_join P [] ys left right = right
all_join P (x ∷ xs) ys (here, more) right = (here, all_join P xs ys more right)

ones_free : (all : List Sign) → AreOnes all → AreFree all
ones_free all ones = all_so IsOne IsFree (λ s one. one.0) all ones

-- what four tests say that all fail
four_fail : (p q r t : Bool) →
    cond p false (cond q false (cond r false (cond t false true))) ≡ true →
    (p ≡ false) × (q ≡ false) × (r ≡ false) × (t ≡ false)
four_fail true q r t is = absurd (false≢true is)
four_fail false true r t is = absurd (false≢true is)
four_fail false false true t is = absurd (false≢true is)
four_fail false false false true is = absurd (false≢true is)
four_fail false false false false is = (refl, refl, refl, refl)

fixed_bare : (b : ℕ) (star any : Bool) → star ≡ false →
    IsFixed (cond star any_run (cond any any_byte (literal b)) ∷ [])
fixed_bare b true any is = absurd (false≢true (sym is))
fixed_bare b false true is = tt
fixed_bare b false false is = tt

-- a byte that is a sign by itself
pub bare_sign : (text t : List ℕ) (b : ℕ) → text ≡ b ∷ t → is_bare b ≡ true → IsSign text 1
bare_sign text t b is alone =
    let tests = four_fail (b == 42) (b == 36) (b == 92) (b == 91) alone in
    subst (λ (x : List ℕ). IsSign x 1) (sym is) record {
      some = omega arith;
      inside = omega arith;
      sign = bare b;
      reads = λ rest.
          ap (λ (x : Bool). cond x (signs_behind_backslash rest) (cond (b == 91)
          (signs_in_set [] rest) (bare b ∷ signs rest))) tests.2
          ∙ ap (λ (x : Bool). cond x (signs_in_set [] rest) (bare b ∷ signs rest)) tests.3;
      one = (tests.1, fixed_bare b (b == 42) (b == 63) tests.0);
    }

-- a byte after a backslash
pub quoted_sign : (rest t : List ℕ) (c : ℕ) → rest ≡ c ∷ t → IsSign (92 ∷ rest) 2
quoted_sign rest t c is = subst (λ (x : List ℕ). IsSign (92 ∷ x) 2) (sym is) record {
  some = omega arith;
  inside = omega arith;
  sign = quoted c;
  reads = λ rest. refl;
  one = (refl, tt);
}

-- the first `]` ends a set, whatever follows
closed : (so_far text : List ℕ) (k : ℕ) (rest : List ℕ) → k < length text →
    ((j : ℕ) → 0 ≤ j → j < k → ¬ ((slice_index text j == 93) ≡ true)) →
    (slice_index text k == 93) ≡ true →
    signs_in_set so_far (take (suc k) text ++ rest) ≡ a_set (so_far ++ take k text) ∷ signs rest
closed so_far [] k rest within before here = absurd (omega arith)
closed so_far (c ∷ text) zero rest within before here =
    ap (λ (b : Bool). cond b (a_set so_far ∷ signs rest) (signs_in_set (so_far ++ c ∷ []) rest))
    here
    ∙ ap (λ (x : List ℕ). a_set x ∷ signs rest) (sym (append-nil so_far))
closed so_far (c ∷ text) (suc k) rest within before here =
    let open' : (c == 93) ≡ false = false_from_ne_true (c == 93)
    (before 0 (omega arith) (omega arith)) in
    ap (λ (b : Bool). cond b (a_set so_far ∷ signs (take (suc k) text ++ rest))
    (signs_in_set (so_far ++ c ∷ []) (take (suc k) text ++ rest))) open'
    ∙ closed (so_far ++ c ∷ []) text k rest (omega arith)
    (λ j low lt. before (suc j) (omega arith) (omega arith)) here
    ∙ ap (λ (x : List ℕ). a_set x ∷ signs rest) (append_assoc so_far (c ∷ []) (take k text))

-- a set
pub set_sign : (text t : List ℕ) (k n : ℕ) → text ≡ 91 ∷ t → k + 2 ≡ n → k < length t →
    ((j : ℕ) → 0 ≤ j → j < k → ¬ ((slice_index t j == 93) ≡ true)) →
    (slice_index t k == 93) ≡ true → IsSign text n
set_sign text t k n is size within before here =
    let long : suc (suc k) ≡ n = omega arith in
    subst (λ (x : List ℕ). IsSign x n) (sym is) (subst (IsSign (91 ∷ t)) long record {
      some = omega arith;
      inside = omega arith;
      sign = a_set (take k t);
      reads = λ rest. closed [] t k rest within before here;
      one = (refl, tt);
    })

-- the first `end` bytes of the text are signs of one byte each, so many
pub record Scanned (text : List ℕ) (end size : ℕ) : Type 0 where
  pub inside : end ≤ length text
  pub less : size ≤ end
  pub all : List Sign
  pub reads : Reads (take end text) all
  pub ones : AreOnes all
  pub long : length all ≡ size

pub scan_begins : (text : List ℕ) → Scanned text 0 0
scan_begins text = record {
  inside = omega arith;
  less = omega arith;
  all = [];
  reads = λ rest. refl;
  ones = tt;
  long = refl;
}

pub scan_goes : (text more : List ℕ) (end size n end' size' : ℕ) → Scanned text end size →
    more ≡ drop end text → end + n ≡ end' → size + 1 ≡ size' → IsSign more n →
    Scanned text end' size'
scan_goes text more end size n end' size' scanned is sum one sign =
    let here : IsSign (drop end text) n = subst (λ (x : List ℕ). IsSign x n) is sign in
    let parts : take end' text ≡ take end text ++ take n (drop end text) =
    ap (λ (k : ℕ). take k text) (sym sum) ∙ take-add end n text in
    record {
      inside = omega (arith, here.inside, length-drop end text, scanned.inside);
      less = omega (arith, here.some, scanned.less);
      all = scanned.all ++ here.sign ∷ [];
      reads = λ rest.
          ap (λ (x : List ℕ). signs (x ++ rest)) parts
          ∙ ap signs (append_assoc (take end text) (take n (drop end text)) rest)
          ∙ scanned.reads (take n (drop end text) ++ rest)
          ∙ ap (λ (x : List Sign). scanned.all ++ x) (here.reads rest)
          ∙ sym (append_assoc scanned.all (here.sign ∷ []) (signs rest));
      ones = all_and IsOne scanned.all here.sign here.one scanned.ones;
      long = length-append scanned.all (here.sign ∷ []) ∙ omega (arith, scanned.long);
    }

pub scan_ends : (text run after : List ℕ) (end size : ℕ) → Scanned text end size →
    run ≡ take end text → after ≡ drop end text → IsFront text run after size
scan_ends text run after end size scanned front back =
    let same : signs run ≡ scanned.all =
    ap signs (front ∙ sym (append-nil (take end text))) ∙ scanned.reads [] ∙ append-nil scanned.all in
    let whole : text ≡ run ++ after =
    sym (take-append-drop end text) ∙ ap (λ (x : List ℕ). x ++ drop end text) (sym front)
    ∙ ap (λ (x : List ℕ). run ++ x) (sym back) in
    record {
      whole = whole;
      split = ap signs whole ∙ ap (λ (x : List ℕ). signs (x ++ after)) front
          ∙ scanned.reads after ∙ ap (λ (x : List Sign). x ++ signs after) (sym same);
      ones = subst AreOnes (sym same) scanned.ones;
      long = ap length same ∙ scanned.long;
    }

-- the last run that was met takes so many bytes, and no sign before or after it is a bare `$`
pub record Met (text rest run : List ℕ) (size : ℕ) : Type 0 where
  pub before : List Sign
  pub after : List Sign
  pub split : signs text ≡ before ++ (signs run ++ (after ++ signs rest))
  pub ones : AreOnes (signs run)
  pub long : length (signs run) ≡ size
  pub free_before : AreFree before
  pub free_after : AreFree after

pub met_first : (text run rest : List ℕ) (size : ℕ) → IsFront text run rest size →
    Met text rest run size
met_first text run rest size front = record {
  before = [];
  after = [];
  split = front.split;
  ones = front.ones;
  long = front.long;
  free_before = tt;
  free_after = tt;
}

-- the signs after a `*`
after_star : (rest more next later : List ℕ) (size : ℕ) → rest ≡ 42 ∷ more →
    IsFront more next later size → signs rest ≡ bare 42 ∷ (signs next ++ signs later)
after_star rest more next later size is front =
    ap signs is ∙ ap (λ (x : List Sign). bare 42 ∷ x) front.split

four : (a b c d e : List Sign) (s : Sign) →
    a ++ (b ++ (c ++ (s ∷ (d ++ e)))) ≡ (a ++ (b ++ (c ++ s ∷ []))) ++ (d ++ e)
four a b c d e s =
    ap (λ (x : List Sign). a ++ (b ++ x)) (sym (append_assoc c (s ∷ []) (d ++ e)))
    ∙ ap (λ (x : List Sign). a ++ x) (sym (append_assoc b (c ++ s ∷ []) (d ++ e)))
    ∙ sym (append_assoc a (b ++ (c ++ s ∷ [])) (d ++ e))

-- a run that takes a byte was met after a `*`
pub met_next : (text rest run more next later : List ℕ) (size size' : ℕ) → Met text rest run size →
    rest ≡ 42 ∷ more → IsFront more next later size' → Met text later next size'
met_next text rest run more next later size size' met is front = record {
  before = met.before ++ (signs run ++ (met.after ++ bare 42 ∷ []));
  after = [];
  split = met.split
      ∙ ap (λ (x : List Sign). met.before ++ (signs run ++ (met.after ++ x)))
      (after_star rest more next later size' is front)
      ∙ four met.before (signs run) met.after (signs next) (signs later) (bare 42);
  ones = front.ones;
  long = front.long;
  free_before = all_join IsFree met.before _ met.free_before
      (all_join IsFree (signs run) _ (ones_free (signs run) met.ones)
      (all_join IsFree met.after (bare 42 ∷ []) met.free_after (refl, tt)));
  free_after = tt;
}

nothing : (all : List Sign) → length all ≡ 0 → all ≡ []
nothing [] none = refl
nothing (s ∷ ss) none = absurd (omega (arith, none))

-- nothing that takes a byte was met after a `*`
pub met_nothing : (text rest run more next later : List ℕ) (size size' : ℕ) →
    Met text rest run size → rest ≡ 42 ∷ more → IsFront more next later size' → size' ≡ 0 →
    Met text later run size
met_nothing text rest run more next later size size' met is front none =
    let empty : signs next ≡ [] = nothing (signs next) (front.long ∙ none) in
    record {
      before = met.before;
      after = met.after ++ bare 42 ∷ [];
      split = met.split
          ∙ ap (λ (x : List Sign). met.before ++ (signs run ++ (met.after ++ x)))
          (after_star rest more next later size' is front)
          ∙ ap (λ (x : List Sign). met.before ++ (signs run ++ (met.after ++ bare 42 ∷ (x
          ++ signs later)))) empty
          ∙ ap (λ (x : List Sign). met.before ++ (signs run ++ x))
          (sym (append_assoc met.after (bare 42 ∷ []) (signs later)));
      ones = met.ones;
      long = met.long;
      free_before = met.free_before;
      free_after = all_join IsFree met.after (bare 42 ∷ []) met.free_after (refl, tt);
    }

-- the whole text was read
pub met_last : (text rest run : List ℕ) (size : ℕ) → begins_in_caret text ≡ false →
    Met text rest run size → rest ≡ [] → IsWithin text run size
met_last text rest run size caret met none =
    let split : signs text ≡ met.before ++ (signs run ++ met.after) =
    met.split
    ∙ ap (λ (x : List ℕ). met.before ++ (signs run ++ (met.after ++ signs x))) none
    ∙ ap (λ (x : List Sign). met.before ++ (signs run ++ x)) (append-nil met.after) in
    record {
      untied = untied text caret (subst AreFree (sym split)
          (all_join IsFree met.before _ met.free_before
          (all_join IsFree (signs run) met.after (ones_free (signs run) met.ones)
          met.free_after)));
      before = met.before;
      after = met.after;
      split = split;
      ones = met.ones;
      long = met.long;
    }

-- nothing but `*` stands before and after the last run that was met
pub record MetAlone (text rest run : List ℕ) : Type 0 where
  pub before : List Sign
  pub after : List Sign
  pub split : signs text ≡ before ++ (signs run ++ (after ++ signs rest))
  pub stars_before : AreStars before
  pub stars_after : AreStars after

pub alone_first : (text run rest : List ℕ) (size : ℕ) → IsFront text run rest size →
    MetAlone text rest run
alone_first text run rest size front = record {
  before = [];
  after = [];
  split = front.split;
  stars_before = tt;
  stars_after = tt;
}

-- a run that takes a byte was met after a `*`, and none before it
pub alone_next : (text rest run more next later : List ℕ) (size size' : ℕ) →
    Met text rest run size → MetAlone text rest run → size ≡ 0 → rest ≡ 42 ∷ more →
    IsFront more next later size' → MetAlone text later next
alone_next text rest run more next later size size' met alone none is front =
    let empty : signs run ≡ [] = nothing (signs run) (met.long ∙ none) in
    record {
      before = alone.before ++ (signs run ++ (alone.after ++ bare 42 ∷ []));
      after = [];
      split = alone.split
          ∙ ap (λ (x : List Sign). alone.before ++ (signs run ++ (alone.after ++ x)))
          (after_star rest more next later size' is front)
          ∙ four alone.before (signs run) alone.after (signs next) (signs later) (bare 42);
      stars_before = all_join _ alone.before _ alone.stars_before
          (all_join _ (signs run) _ (subst AreStars (sym empty) tt)
          (all_join _ alone.after (bare 42 ∷ []) alone.stars_after (refl, tt)));
      stars_after = tt;
    }

-- nothing that takes a byte was met after a `*`
pub alone_nothing : (text rest run more next later : List ℕ) (size' : ℕ) →
    MetAlone text rest run → rest ≡ 42 ∷ more → IsFront more next later size' → size' ≡ 0 →
    MetAlone text later run
alone_nothing text rest run more next later size' alone is front none =
    let empty : signs next ≡ [] = nothing (signs next) (front.long ∙ none) in
    record {
      before = alone.before;
      after = alone.after ++ bare 42 ∷ [];
      split = alone.split
          ∙ ap (λ (x : List Sign). alone.before ++ (signs run ++ (alone.after ++ x)))
          (after_star rest more next later size' is front)
          ∙ ap (λ (x : List Sign). alone.before ++ (signs run ++ (alone.after ++ bare 42 ∷ (x
          ++ signs later)))) empty
          ∙ ap (λ (x : List Sign). alone.before ++ (signs run ++ x))
          (sym (append_assoc alone.after (bare 42 ∷ []) (signs later)));
      stars_before = alone.stars_before;
      stars_after = all_join _ alone.after (bare 42 ∷ []) alone.stars_after (refl, tt);
    }

-- the whole text was read
pub alone_last : (text rest run : List ℕ) → MetAlone text rest run → rest ≡ [] →
    IsAlone text run
alone_last text rest run alone none = record {
  before = alone.before;
  after = alone.after;
  split = alone.split
      ∙ ap (λ (x : List ℕ). alone.before ++ (signs run ++ (alone.after ++ signs x))) none
      ∙ ap (λ (x : List Sign). alone.before ++ (signs run ++ x)) (append-nil alone.after);
  stars_before = alone.stars_before;
  stars_after = alone.stars_after;
}

-- the run of a text, with letters folded or not
pub scanned_run : (folds : Bool) (run : List ℕ) (size : ℕ) → AreOnes (signs run) →
    length (signs run) ≡ size → IsRun (sought_by folds (plain run)) size
scanned_run true run size ones long = record {
  at_start = refl;
  at_end = refl;
  fixed = ones_fixed (signs run) ones;
  long = length-map (signs run) item_of ∙ long;
}
scanned_run false run size ones long = record {
  at_start = refl;
  at_end = refl;
  fixed = ones_fixed (signs run) ones;
  long = length-map (signs run) item_of ∙ long;
}

items_split : (text run : List ℕ) (before after : List Sign) →
    signs text ≡ before ++ (signs run ++ after) →
    map item_of (signs text)
    ≡ map item_of before ++ (map item_of (signs run) ++ map item_of after)
items_split text run before after split =
    ap (map item_of) split
    ∙ map-append item_of before (signs run ++ after)
    ∙ ap (λ (x : List Item). map item_of before ++ x) (map-append item_of (signs run) after)

plain_needed : (folds : Bool) (text run : List ℕ) (before after : List Sign) →
    signs text ≡ before ++ (signs run ++ after) →
    IsNeeded (sought_by folds (plain run)) (sought_by folds (plain text))
plain_needed true text run before after split =
    part_needed (folded (plain text)) (folded (plain run)) (map item_of before)
    (map item_of after) refl refl refl (items_split text run before after split)
plain_needed false text run before after split =
    part_needed (plain text) (plain run) (map item_of before) (map item_of after) refl refl refl
    (items_split text run before after split)

-- where the run sits nowhere, the glob sits nowhere
pub within_needed : (folds : Bool) (text run : List ℕ) (size : ℕ) (p : Reading) →
    p ≡ sought_by folds (glob text) → IsWithin text run size →
    IsNeeded (sought_by folds (plain run)) p
within_needed folds text run size p is within =
    let same : p ≡ sought_by folds (plain text) = is ∙ ap (sought_by folds) within.untied in
    subst (IsNeeded (sought_by folds (plain run))) (sym same)
    (plain_needed folds text run within.before within.after within.split)

-- stars in front of items need no byte
stars_in_front : (stars : List Sign) (items : List Item) (t : List ℕ) → AreStars stars →
    Whole items t → Whole (map item_of stars ++ items) t
stars_in_front [] items t are whole = whole
stars_in_front (s ∷ ss) items t (here, more) whole =
    subst (λ (x : Sign). Whole (item_of x ∷ (map item_of ss ++ items)) t) (sym here)
    ([], t, refl, tt, stars_in_front ss items t more whole)

-- neither do stars behind them
stars_behind : (items : List Item) (stars : List Sign) (t : List ℕ) → AreStars stars →
    Whole items t → Whole (items ++ map item_of stars) t
stars_behind [] [] t are whole = whole
stars_behind [] (s ∷ ss) t (here, more) whole =
    subst (λ (x : Sign). Whole (item_of x ∷ map item_of ss) t) (sym here)
    ([], t, refl, tt, stars_behind [] ss t more whole)
stars_behind (item ∷ items) stars t are (piece, rest, joined, taken, whole) =
    (piece, rest, joined, taken, stars_behind items stars rest are whole)

-- a pattern of stars round a run sits where the run sits
round_sits : (p run : Reading) (before after : List Sign) (w : List ℕ) (s e : ℕ) →
    p.at_start ≡ false → p.at_end ≡ false → run.folds ≡ p.folds →
    p.items ≡ map item_of before ++ (run.items ++ map item_of after) →
    AreStars before → AreStars after → Sits run w s e → Sits p w s e
round_sits p run before after w s e start end folds items stars_before stars_after sits =
    record {
      ordered = sits.ordered;
      within = sits.within;
      whole = subst (λ (x : List Item). Whole x (compared p.folds (slice_range w s e)))
          (sym items)
          (stars_in_front before (run.items ++ map item_of after) _ stars_before
          (stars_behind run.items after _ stars_after
          (subst (λ (f : Bool). Whole run.items (compared f (slice_range w s e))) folds
          sits.whole)));
      at_start = λ tied. absurd (false≢true (sym start ∙ tied));
      at_end = λ tied. absurd (false≢true (sym end ∙ tied));
    }

plain_round : (folds : Bool) (text run : List ℕ) → IsAlone text run →
    IsNeeded (sought_by folds (plain text)) (sought_by folds (plain run))
plain_round true text run alone = λ w nowhere s e sits.
    nowhere s e (round_sits (folded (plain text)) (folded (plain run)) alone.before alone.after
    w s e refl refl refl (items_split text run alone.before alone.after alone.split)
    alone.stars_before alone.stars_after sits)
plain_round false text run alone = λ w nowhere s e sits.
    nowhere s e (round_sits (plain text) (plain run) alone.before alone.after w s e refl refl
    refl (items_split text run alone.before alone.after alone.split) alone.stars_before
    alone.stars_after sits)

exact_run : (folds : Bool) (text : List ℕ) → IsRun (sought_by folds (exact text)) (length text)
exact_run true text = record {
  at_start = refl;
  at_end = refl;
  fixed = IsFixed-text text;
  long = length-map text literal;
}
exact_run false text = text_run text

-- a text alone, with letters folded or not
pub text_lead : (folds : Bool) (text value : List ℕ) (p : Reading) →
    p ≡ sought_by folds (exact text) → value ≡ text →
    IsRun (sought_by folds (exact value)) (length text) × (p ≡ sought_by folds (exact value))
text_lead folds text value p is same = (
  subst (λ (x : List ℕ). IsRun (sought_by folds (exact x)) (length text)) (sym same)
      (exact_run folds text),
  is ∙ ap (λ (x : List ℕ). sought_by folds (exact x)) (sym same),
)

-- the one run of a glob, beside which only `*` stand
pub alone_lead : (folds : Bool) (text run value : List ℕ) (size : ℕ) (p : Reading) →
    p ≡ sought_by folds (glob text) → IsWithin text run size → IsAlone text run → value ≡ run →
    IsRun (sought_by folds (plain value)) size × IsNeeded (sought_by folds (plain value)) p
    × IsNeeded p (sought_by folds (plain value))
alone_lead folds text run value size p is within alone same =
    let whole : p ≡ sought_by folds (plain text) = is ∙ ap (sought_by folds) within.untied in (
      subst (λ (x : List ℕ). IsRun (sought_by folds (plain x)) size) (sym same)
          (scanned_run folds run size within.ones within.long),
      subst (λ (x : List ℕ). IsNeeded (sought_by folds (plain x)) p) (sym same)
          (within_needed folds text run size p is within),
      subst (λ (x : List ℕ). IsNeeded p (sought_by folds (plain x))) (sym same)
          (subst (λ (x : Reading). IsNeeded x (sought_by folds (plain run))) (sym whole)
          (plain_round folds text run alone)),
    )

-- a run of a glob
pub part_lead : (folds : Bool) (text run value : List ℕ) (size : ℕ) (p part : Reading) →
    p ≡ sought_by folds (glob text) → IsWithin text run size → value ≡ run →
    part ≡ sought_by folds (plain run) →
    IsRun (sought_by folds (plain value)) size × (part ≡ sought_by folds (plain value))
    × IsNeeded (sought_by folds (plain value)) p
part_lead folds text run value size p part is within same made = (
  subst (λ (x : List ℕ). IsRun (sought_by folds (plain x)) size) (sym same)
      (scanned_run folds run size within.ones within.long),
  made ∙ ap (λ (x : List ℕ). sought_by folds (plain x)) (sym same),
  subst (λ (x : List ℕ). IsNeeded (sought_by folds (plain x)) p) (sym same)
      (within_needed folds text run size p is within),
)
