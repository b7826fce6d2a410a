-- Runs that are sought first, and what a search for one says of the whole pattern.
use Rattle.std.proofs.Common.{◌≡◌, ℕ, ◌+◌, ◌-◌, ◌≤◌, ◌<◌, false, Bool, List, [], ◌∷◌, ◌++◌, IsTrue, length, map, take, drop, refl, sym, ◌∙◌, ap, subst, inl, inr, arith, Option, Some, None, MatchOption}
use Rattle.std.specs.Prelude.{IfNone, slice_range}
use Rattle.std.proofs.lemmas.Bool.{cases_lt, false≢true, true_from_ne_false}
use Rattle.std.proofs.lemmas.List.{length-drop, length-append, length-map, length-take-le, take-append-le, drop-append-le, drop-drop, take_all}
use Rattle.std.proofs.lemmas.Slice.Eq.{bytes_eq-Decides}
use Rattle.std.specs.Str.{bytes_eq}
use Rattle.patterns.specs.Glob.{exact}
use Rattle.patterns.specs.Item.{Item, Reading, literal, any_byte, one_of, any_run}
use Rattle.patterns.specs.Match.{Whole, Sits, SitsNowhere, IsFound, compared}
use Rattle.patterns.specs.Passed.{Needs, Passed}
use Rattle.patterns.specs.Runs.{IsFixed}
use Rattle.patterns.specs.declared.search.Found.{Found}
use Rattle.patterns.proofs.Folds.{compared-length, compared-range}
use Rattle.patterns.proofs.Needs.{range_inside, whole_parts}
use Rattle.patterns.proofs.RunItems.{IsFixed-text}
use Rattle.patterns.proofs.Shifts.{Passed-here, Sits-on}
use Rattle.searches.specs.Lead.{IsRun, IsNeeded, Seeks, is_all, run_of}
use Rattle.searches.specs.declared.lead.Key.{Key}
use Rattle.searches.specs.declared.lead.Seeker.{Seeker}
use Rattle.searches.specs.declared.lead.Seeker.TheVariants as seeker

-- items of one byte each take as many bytes
whole_length : (items : List Item) (t : List ℕ) → IsFixed items → Whole items t →
    length t ≡ length items
whole_length [] t fixed whole = ap length whole
whole_length (literal c ∷ items) t fixed (piece, rest, joined, taken, whole) =
    omega (
      arith,
      ap length joined,
      length-append piece rest,
      ap length taken,
      whole_length items rest fixed whole,
    )
whole_length (any_byte ∷ items) t fixed (piece, rest, joined, taken, whole) =
    omega (
      arith,
      ap length joined,
      length-append piece rest,
      ap length taken.1,
      whole_length items rest fixed whole,
    )
whole_length (one_of bytes ∷ items) t fixed (piece, rest, joined, taken, whole) =
    omega (
      arith,
      ap length joined,
      length-append piece rest,
      ap length taken.1,
      whole_length items rest fixed whole,
    )
whole_length (any_run ∷ items) t fixed whole = absurd fixed

-- the end of a run, by its start
pub run_end : (p : Reading) (size : ℕ) (w : List ℕ) (s e : ℕ) → IsRun p size → Sits p w s e →
    s + size ≡ e
run_end p size w s e run sits =
    let long = length-take-le (e - s) (drop s w)
    (omega (arith, sits.ordered, sits.within, length-drop s w)) in
    omega (
      arith,
      whole_length p.items (compared p.folds (slice_range w s e)) run.fixed sits.whole,
      compared-length p.folds (slice_range w s e),
      run.long,
      long,
      sits.ordered,
    )

no_start : (p : Reading) (n m : ℕ) → p.at_start ≡ false → IsTrue p.at_start → n ≡ m
no_start p n m is tied = absurd (false≢true (sym is ∙ tied))

no_end : (p : Reading) (n m : ℕ) → p.at_end ≡ false → IsTrue p.at_end → n ≡ m
no_end p n m is tied = absurd (false≢true (sym is ∙ tied))

-- the bytes up to e, whatever follows the window
range_before : (w rest : List ℕ) (s e : ℕ) → s ≤ e → e ≤ length w →
    slice_range (w ++ rest) s e ≡ slice_range w s e
range_before w rest s e ordered within =
    ap (take (e - s)) (drop-append-le s w rest (omega arith))
    ∙ take-append-le (e - s) (drop s w) rest (omega (arith, length-drop s w))

-- a run that sits nowhere in the window begins in its last bytes, whatever follows
pub run_passed : (p : Reading) (size : ℕ) (w : List ℕ) → IsRun p size → SitsNowhere p w →
    Passed p w (length w + 1 - size)
run_passed p size w run nowhere = λ rest s e sits.
    let end = run_end p size (w ++ rest) s e run sits in
    elim (cases_lt (length w) e) [
      | inl behind ↦ omega arith
      | inr inside ↦ absurd (nowhere s e record {
        ordered = sits.ordered;
        within = inside;
        whole = subst (λ (x : List ℕ). Whole p.items (compared p.folds x))
            (range_before w rest s e sits.ordered inside) sits.whole;
        at_start = no_start p s 0 run.at_start;
        at_end = no_end p e (length w) run.at_end;
      })
    ]

-- a run sits nowhere in a window in which fewer bytes than it takes follow the place before which
-- it does not begin
pub nowhere_short : (p : Reading) (size : ℕ) (w : List ℕ) (known : ℕ) → IsRun p size →
    Passed p w known → length w - known < size → SitsNowhere p w
nowhere_short p size w known run passed short = λ s e sits.
    let low = Passed-here p w known s e passed sits in
    omega (arith, run_end p size w s e run sits, sits.within, low, short)

-- the bytes from s up to e, where the first k of the window are left out
range_off : (w : List ℕ) (k s e : ℕ) → k ≤ s →
    slice_range w s e ≡ slice_range (drop k w) (s - k) (e - k)
range_off w k s e low =
    let size : e - s ≡ e - k - (s - k) = omega arith in
    let place : s ≡ k + (s - k) = omega arith in
    ap (λ (n : ℕ). take n (drop s w)) size
    ∙ ap (λ (n : ℕ). take (e - k - (s - k)) (drop n w)) place
    ∙ ap (take (e - k - (s - k))) (sym (drop-drop (s - k) k w))

-- where a pattern sits after the first k bytes, it sits in the window without them
sits_off : (p : Reading) (w : List ℕ) (k s e : ℕ) → p.at_start ≡ false → k ≤ s → Sits p w s e →
    Sits p (drop k w) (s - k) (e - k)
sits_off p w k s e is low sits = record {
  ordered = omega (arith, sits.ordered);
  within = omega (arith, sits.within, length-drop k w);
  whole = subst (λ (x : List ℕ). Whole p.items (compared p.folds x)) (range_off w k s e low)
      sits.whole;
  at_start = no_start p (s - k) 0 is;
  at_end = λ tied. omega (arith, sits.at_end tied, length-drop k w);
}

-- the pattern sits at no place before k
abbrev pub Low : Reading → List ℕ → ℕ → Type 0
Low p w k = (s e : ℕ) → Sits p w s e → k ≤ s

-- what is found in the window without its first k bytes, where nothing sits before them
pub found_on : (p : Reading) (w : List ℕ) (k s e : ℕ) → p.at_start ≡ false → k ≤ length w →
    Low p w k → IsFound p (drop k w) s e → IsFound p w (k + s) (k + e)
found_on p w k s e is inside low found =
    let start : s + k ≡ k + s = omega arith in
    let end : e + k ≡ k + e = omega arith in
    let back : k + s - k ≡ s = omega arith in
    record {
      sits = subst (λ (n : ℕ). Sits p w n (k + e)) start
          (subst (λ (n : ℕ). Sits p w (s + k) n) end (Sits-on p w k s e is inside found.sits));
      least_start = λ s' e' sits.
          omega (
            arith,
            low s' e' sits,
            found.least_start (s' - k) (e' - k) (sits_off p w k s' e' is (low s' e' sits) sits),
          );
      greatest_end = λ e' sits.
          let off = sits_off p w k (k + s) e' is (omega arith) sits in
          omega (
            arith,
            sits.ordered,
            found.greatest_end (e' - k) (subst (λ (n : ℕ). Sits p (drop k w) n (e' - k)) back off),
          );
    }

pub nowhere_on : (p : Reading) (w : List ℕ) (k : ℕ) → p.at_start ≡ false → Low p w k →
    SitsNowhere p (drop k w) → SitsNowhere p w
nowhere_on p w k is low nowhere = λ s e sits.
    nowhere (s - k) (e - k) (sits_off p w k s e is (low s e sits) sits)

-- a text alone is a run
pub text_run : (text : List ℕ) → IsRun (exact text) (length text)
text_run text = record {
  at_start = refl;
  at_end = refl;
  fixed = IsFixed-text text;
  long = length-map text literal;
}

-- a run among the items stands where the pattern sits
pub part_needed : (p run : Reading) (before after : List Item) → run.at_start ≡ false →
    run.at_end ≡ false → run.folds ≡ p.folds → p.items ≡ before ++ (run.items ++ after) →
    IsNeeded run p
part_needed p run before after start end folds items = λ w nowhere s e sits.
    let cw : List ℕ = compared p.folds w in
    let taken : Whole (before ++ (run.items ++ after)) (slice_range cw s e) =
    subst (λ (x : List Item). Whole x (slice_range cw s e)) items
    (subst (Whole p.items) (sym (compared-range p.folds w s e)) sits.whole) in
    let (front, more, split, ours, behind) = whole_parts before (run.items ++ after)
    (slice_range cw s e) taken in
    let (part, rest, joined, here, theirs) = whole_parts run.items after more behind in
    let parts : slice_range cw s e ≡ front ++ (part ++ rest) =
    split ∙ ap (λ (x : List ℕ). front ++ x) joined in
    let long = compared-length p.folds w in
    let size = length-take-le (e - s) (drop s cw)
    (omega (arith, sits.ordered, sits.within, long, length-drop s cw)) in
    let start' : ℕ = s + length front in
    let end' : ℕ = s + length front + length part in
    let there : part ≡ compared p.folds (slice_range w start' end') =
    sym (range_inside cw front part rest s e sits.ordered parts)
    ∙ compared-range p.folds w start' end' in
    nowhere start' end' record {
      ordered = omega arith;
      within = omega (
        arith,
        sits.ordered,
        sits.within,
        size,
        ap length parts,
        length-append front (part ++ rest),
        length-append part rest,
      );
      whole = subst (λ (f : Bool). Whole run.items (compared f (slice_range w start' end')))
          (sym folds) (subst (Whole run.items) there here);
      at_start = no_start run start' 0 start;
      at_end = no_end run end' (length w) end;
    }

-- a text that a text takes is that text
whole_text : (t x : List ℕ) → Whole (map literal t) x → x ≡ t
whole_text [] x whole = whole
whole_text (c ∷ t) x (piece, rest, joined, taken, whole) =
    joined ∙ ap (λ (front : List ℕ). front ++ rest) taken
    ∙ ap (λ (behind : List ℕ). c ∷ behind) (whole_text t rest whole)

text_whole : (t : List ℕ) → Whole (map literal t) t
text_whole [] = refl
text_whole (c ∷ t) = (c ∷ [], t, refl, refl, text_whole t)

range_all : (t : List ℕ) (e : ℕ) → e ≡ length t → slice_range t 0 e ≡ t
range_all t e is =
    let all : e - 0 ≡ e = omega arith in
    ap (λ (n : ℕ). take n t) all ∙ take_all e t (omega (arith, is))

text_sits : (t : List ℕ) → Sits (exact t) t 0 (length t)
text_sits t = record {
  ordered = omega arith;
  within = omega arith;
  whole = subst (Whole (map literal t)) (sym (range_all t (length t) refl)) (text_whole t);
  at_start = no_start (exact t) 0 0 refl;
  at_end = no_end (exact t) (length t) (length t) refl;
}

-- a text that sits in one of its length is that one
sits_all : (t text : List ℕ) (s e : ℕ) → length t ≡ length text → Sits (exact t) text s e →
    t ≡ text
sits_all t text s e long sits =
    let end = run_end (exact t) (length t) text s e (text_run t) sits in
    let none : s ≡ 0 = omega (arith, end, long, sits.within) in
    let all : e ≡ length text = omega (arith, end, long, sits.within) in
    sym (whole_text t (slice_range text s e) sits.whole)
    ∙ ap (λ (n : ℕ). slice_range text n e) none
    ∙ range_all text e all

-- a text that an exact pattern needs, and that is as long as the pattern's, is this one
pub needs_all : (text t : List ℕ) → Needs (exact text) t → length t ≡ length text → t ≡ text
needs_all text t needs long =
    let same = bytes_eq-Decides t text in
    same.0 (true_from_ne_false (bytes_eq t text) (λ differs.
    needs text (λ s e sits.
    false≢true (sym differs ∙ same.1 (sits_all t text s e long sits)))
    0 (length text) (text_sits text)))

-- a run that is the whole pattern
pub all_is : {A : Type 0} (key : Key A) (p : Reading) (how : Seeker A) → Seeks key p how →
    IsTrue (is_all how) → p ≡ run_of key
all_is key p seeker.Text seeks is = absurd (false≢true is)
all_is key p seeker.Itself seeks is = seeks
all_is key p seeker.Around seeks is = absurd (false≢true is)
all_is key p (seeker.Part part) seeks is = absurd (false≢true is)

-- where stars stand beside the run alone, it sits nowhere where the pattern does not behind k
pub nowhere_behind : (p run : Reading) (w : List ℕ) (k : ℕ) → run.at_start ≡ false →
    Low run w k → IsNeeded p run → SitsNowhere p (drop k w) → SitsNowhere run w
nowhere_behind p run w k start low needed nowhere =
    nowhere_on run w k start low (needed (drop k w) nowhere)

found_behind : {A : Type 0} (key : Key A) (p : Reading) (w : List ℕ) (k : ℕ)
    (result : Option Found) → (run_of key).at_start ≡ false → Low (run_of key) w k →
    Seeks key p seeker.Around → IfNone result (SitsNowhere p (drop k w)) →
    MatchOption result (SitsNowhere (run_of key) w)
    (λ found. IsTrue (is_all {A = A} seeker.Around) →
    IsFound (run_of key) w found.start found.end)
found_behind key p w k None start low seeks nowhere =
    nowhere_behind p (run_of key) w k start low seeks.1 nowhere
found_behind key p w k (Some found) start low seeks nowhere = λ is. absurd (false≢true is)

-- what is said of a run by a search behind k for the pattern in which only `*` stand beside it
pub finds_behind : {A : Type 0} (key : Key A) (p : Reading) (how : Seeker A) (w : List ℕ)
    (k : ℕ) (result : Option Found) → how ≡ seeker.Around → (run_of key).at_start ≡ false →
    Low (run_of key) w k → Seeks key p how → IfNone result (SitsNowhere p (drop k w)) →
    MatchOption result (SitsNowhere (run_of key) w)
    (λ found. IsTrue (is_all how) → IsFound (run_of key) w found.start found.end)
finds_behind key p how w k result is start low seeks nowhere =
    subst (λ h. MatchOption result (SitsNowhere (run_of key) w)
    (λ found. IsTrue (is_all h) → IsFound (run_of key) w found.start found.end)) (sym is)
    (found_behind key p w k result start low (subst (Seeks key p) is seeks) nowhere)
