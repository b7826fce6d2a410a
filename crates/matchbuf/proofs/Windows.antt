-- The window of a journal is the history from one place on, so each record changes it as the calls
-- do.
use Rattle.std.proofs.Common.{◌≡◌, ℕ, zero, suc, ◌+◌, ◌-◌, ◌<◌, ◌≤◌, max, Bool, true, false, ◌&&◌, ◌↔◌, cond, nat_le, nat_lt, nat_eq, slice_index, if◌then◌else◌, IsTrue, List, [], ◌∷◌, ◌++◌, length, map, drop, filter, refl, sym, ap, ◌∙◌, arith, append_assoc, length-append, length-drop}
use Rattle.std.proofs.lemmas.Bool.Decides.{nat_tests}
use Rattle.std.proofs.lemmas.List.{drop-append-le, drop-drop, length-map}
use Rattle.std.proofs.Math.Seq.{get_or-append_seam}
use Rattle.std.proofs.Math.ListN.{drop_of_length-le}
use Rattle.std.specs.List.{list_all, range_with_len}
use Rattle.circular_buffer.specs.Buffer.{keep_last}
use Rattle.matchbuf.specs.Held.{Held, held}
use Rattle.matchbuf.specs.Journal.{Record, Arrived, Consumed, Sized, history, size_of, IsJournal, moments, spares, remembers, has_come, is_kept, is_visible, visible_places, window, place_after, Fits}
use Rattle.matchbuf.specs.Laws.{ArrivalsJoin, ConsumptionsTake, SizesKeep, WindowsEnd, VisibleAtEnd, GoneForGood, ShortJournals, WindowsHold}

-- the least place that the record leaves
abbrev spared_from : Record → ℕ
spared_from (Arrived bytes) = 0
spared_from (Consumed first) = first
spared_from (Sized size) = 0

-- the least visible place
abbrev floor : List Record → ℕ
floor [] = 0
floor (r ∷ j) = max (spared_from r) (max (length (history (r ∷ j)) - size_of (r ∷ j)) (floor j))

spares_from : (p : ℕ) (r : Record) → spares p r ≡ nat_le (spared_from r) p
spares_from p (Arrived bytes) = grind (arith, nat_tests)
spares_from p (Consumed first) = refl
spares_from p (Sized size) = grind (arith, nat_tests)

and-false : (a : Bool) → (a && false) ≡ false
and-false true = refl
and-false false = refl

regrouped : (a b c d : Bool) → ((a && b) && (c && d)) ≡ (a && (c && (b && d)))
regrouped true b true d = refl
regrouped true b false d = and-false b
regrouped false b c d = refl

all_at_most : (a b c p : ℕ) → (nat_le a p && (nat_le b p && nat_le c p))
    ≡ nat_le (max a (max b c)) p
all_at_most a b c p = grind (arith, nat_tests)

kept_from : (j : List Record) (p : ℕ) → is_kept j p ≡ nat_le (floor j) p
kept_from [] p = grind (arith, nat_tests)
kept_from (r ∷ j) p =
    let last = length (history (r ∷ j)) - size_of (r ∷ j) in
    regrouped (spares p r) (list_all (spares p) j) (nat_le last p)
    (list_all (remembers p) (moments j))
    ∙ ap (λ b. b && (nat_le last p && is_kept j p)) (spares_from p r)
    ∙ ap (λ b. nat_le (spared_from r) p && (nat_le last p && b)) (kept_from j p)
    ∙ all_at_most (spared_from r) last (floor j) p

visible_from : (j : List Record) (p : ℕ) → is_visible j p ≡ (has_come j p && nat_le (floor j) p)
visible_from j p = ap (λ b. has_come j p && b) (kept_from j p)

come_from : (f n p : ℕ) → p < n → (nat_lt p n && nat_le f p) ≡ nat_le f p
come_from f n p lt = grind (arith, nat_tests)

-- tests that agree at the places of a range let the same ones through
filter_same : (s t : ℕ → Bool) (p n : ℕ) → ((k : ℕ) → k < p + n → s k ≡ t k)
    → filter s (range_with_len p n) ≡ filter t (range_with_len p n)
filter_same s t p zero same = refl
filter_same s t p (suc n) same =
    let ps = range_with_len (p + 1) n in
    let here : s p ≡ t p = same p (omega arith) in
    let rest = filter_same s t (p + 1) n (λ k lt. same k (omega arith)) in
    ap (λ b. cond b (p ∷ filter s ps) (filter s ps)) here ∙ ap (λ qs. cond (t p) (p ∷ qs) qs) rest

above_step : (f p : ℕ) (l : List ℕ) (x : ℕ) (xs ps : List ℕ) (b : Bool) → nat_le f p ≡ b →
    slice_index l p ≡ x → map (slice_index l) ps ≡ drop (f - (p + 1)) xs
    → map (slice_index l) (cond b (p ∷ ps) ps) ≡ drop (f - p) (x ∷ xs)
above_step f p l x xs ps true t e rest =
    let here : f - p ≡ 0 = grind (arith, nat_tests) in
    let next : f - (p + 1) ≡ 0 = grind (arith, nat_tests) in
    let tail : map (slice_index l) ps ≡ xs = rest ∙ ap (λ n. drop n xs) next in
    ap (λ h. h ∷ map (slice_index l) ps) e ∙ ap (λ r. x ∷ r) tail
    ∙ ap (λ n. drop n (x ∷ xs)) (sym here)
above_step f p l x xs ps false t e rest =
    let next : suc (f - (p + 1)) ≡ f - p = grind (arith, nat_tests) in
    rest ∙ ap (λ n. drop n (x ∷ xs)) next

-- what stands at the places from f on, of those from p on
above : (f p : ℕ) (before xs : List ℕ) → length before ≡ p →
    map (slice_index (before ++ xs)) (filter (nat_le f) (range_with_len p (length xs)))
    ≡ drop (f - p) xs
above f p before [] e = sym (drop_of_length-le [] (omega arith))
above f p before (x ∷ xs) e =
    let longer : length (before ++ x ∷ []) ≡ p + 1 = omega (arith, length-append before (x ∷ [])) in
    let rest = above f (p + 1) (before ++ x ∷ []) xs longer in
    let ps = filter (nat_le f) (range_with_len (p + 1) (length xs)) in
    above_step f p (before ++ x ∷ xs) x xs ps (nat_le f p) refl
    (ap (slice_index (before ++ x ∷ xs)) (sym e) ∙ get_or-append_seam before x xs 0)
    (ap (λ l. map (slice_index l) ps) (sym (append_assoc before (x ∷ []) xs)) ∙ rest)

at_step : (f p i : ℕ) (ps : List ℕ) (b : Bool) → nat_le f p ≡ b →
    ((k : ℕ) → k < length ps → slice_index ps k ≡ max f (p + 1) + k)
    → i < length (cond b (p ∷ ps) ps) → slice_index (cond b (p ∷ ps) ps) i ≡ max f p + i
at_step f p zero ps true t rest h = grind (arith, nat_tests)
at_step f p (suc i) ps true t rest h =
    let k : slice_index ps i ≡ max f (p + 1) + i = rest i (omega arith) in
    k ∙ grind (arith, nat_tests)
at_step f p i ps false t rest h =
    let k : slice_index ps i ≡ max f (p + 1) + i = rest i h in
    k ∙ grind (arith, nat_tests)

-- the i-th of the places from f on
place_at : (f p n i : ℕ) → i < length (filter (nat_le f) (range_with_len p n)) →
    slice_index (filter (nat_le f) (range_with_len p n)) i ≡ max f p + i
place_at f p zero i h = absurd (omega arith)
place_at f p (suc n) i h = at_step f p i (filter (nat_le f) (range_with_len (p + 1) n)) (nat_le f p)
    refl (place_at f (p + 1) n) h

places_from : (j : List Record) → visible_places j
    ≡ filter (nat_le (floor j)) (range_with_len 0 (length (history j)))
places_from j =
    let n = length (history j) in
    filter_same (is_visible j) (nat_le (floor j)) 0 n
    (λ k lt. visible_from j k ∙ come_from (floor j) n k (omega arith))

window_from : (j : List Record) → window j ≡ drop (floor j) (history j)
window_from j =
    ap (map (slice_index (history j))) (places_from j)
    ∙ above (floor j) 0 [] (history j) refl
    ∙ ap (λ n. drop n (history j)) (omega arith)

floor_le : (j : List Record) → IsJournal j → floor j ≤ length (history j)
floor_le [] h = absurd h
floor_le (Arrived bytes ∷ j) h = omega (arith, floor_le j h, length-append (history j) bytes)
floor_le (Consumed first ∷ j) h = omega (arith, h.0, floor_le j h.1)
floor_le (Sized size ∷ []) h = omega arith
floor_le (Sized size ∷ r ∷ j) h = omega (arith, floor_le (r ∷ j) h)

floor_ge : (j : List Record) → IsJournal j → length (history j) ≤ floor j + size_of j
floor_ge [] h = absurd h
floor_ge (r ∷ j) h = omega arith

pub windows_hold : WindowsHold
windows_hold [] = omega arith
windows_hold (r ∷ j) = omega (
  arith,
  ap length (window_from (r ∷ j)),
  length-drop (floor (r ∷ j)) (history (r ∷ j)),
)

length-window : (j : List Record) → IsJournal j → length (window j) + floor j ≡ length (history j)
length-window j h = omega (
  arith,
  ap length (window_from j),
  length-drop (floor j) (history j),
  floor_le j h,
)

place_after_is : (j : List Record) (n : ℕ) → n ≤ length (window j) → place_after j n
    ≡ (if nat_eq n 0 then 0 else floor j + n)
place_after_is j zero h = refl
place_after_is j (suc k) h =
    let places = filter (nat_le (floor j)) (range_with_len 0 (length (history j))) in
    let as_many : length (window j) ≡ length (visible_places j) =
    length-map (visible_places j) (slice_index (history j)) in
    let less : k < length places = omega (arith, ap length (places_from j)) in
    let one : suc k - 1 ≡ k = omega arith in
    let found : slice_index (visible_places j) (suc k - 1) ≡ max (floor j) 0 + k =
    ap (slice_index (visible_places j)) one ∙ ap (λ ps. slice_index ps k) (places_from j)
    ∙ place_at (floor j) 0 (length (history j)) k less in
    let nonzero : nat_eq (suc k) 0 ≡ false = grind (arith, nat_tests) in
    ap (λ b. if b then 0 else slice_index (visible_places j) (suc k - 1) + 1) nonzero
    ∙ (ap (λ i. i + 1) found ∙ omega arith) ∙ ap (λ b. if b then 0 else floor j + suc k)
    (sym nonzero)

pub arrivals_join : ArrivalsJoin
arrivals_join j bytes h =
    let H = history j in
    let F = floor j in
    let w = window j in
    let over = length (w ++ bytes) - size_of j in
    let joined : drop F (H ++ bytes) ≡ w ++ bytes = drop-append-le F H bytes (floor_le j h)
    ∙ ap (λ l. l ++ bytes) (sym (window_from j)) in
    let least : floor (Arrived bytes ∷ j) ≡ F + over =
    omega (arith, length-window j h, length-append H bytes, length-append w bytes) in
    window_from (Arrived bytes ∷ j) ∙ ap (λ n. drop n (H ++ bytes)) least
    ∙ sym (drop-drop over F (H ++ bytes)) ∙ ap (drop over) joined

larger : (n f : ℕ) → max (if nat_eq n 0 then 0 else f + n) f ≡ f + n
larger zero f = omega arith
larger (suc k) f = grind (arith, nat_tests)

pub consumptions_take : ConsumptionsTake
consumptions_take j n h le =
    let H = history j in
    let F = floor j in
    let least : floor (Consumed (place_after j n) ∷ j) ≡ F + n =
    omega (arith, ap (λ p. max p F) (place_after_is j n le), larger n F, floor_ge j h) in
    window_from (Consumed (place_after j n) ∷ j) ∙ ap (λ k. drop k H) least ∙ sym (drop-drop n F H)
    ∙ ap (drop n) (sym (window_from j))

pub sizes_keep : SizesKeep
sizes_keep j size h =
    let H = history j in
    let F = floor j in
    let over = length (window j) - size in
    let least : floor (Sized size ∷ j) ≡ F + over = omega (arith, length-window j h) in
    window_from (Sized size ∷ j) ∙ ap (λ k. drop k H) least ∙ sym (drop-drop over F H)
    ∙ ap (drop over) (sym (window_from j))

pub windows_end : WindowsEnd
windows_end j h =
    let n = length (window j) in
    let first : floor j ≡ length (history j) - n = omega (arith, length-window j h) in (
      window_from j ∙ ap (λ k. drop k (history j)) first,
      omega (arith, length-window j h, floor_ge j h),
    )

at_end : (f p len n : ℕ) (b : Bool) → b ≡ (nat_lt p len && nat_le f p) → n + f ≡ len
    → IsTrue b ↔ ((p < len) × (len ≤ p + n))
at_end f p len n b e h = grind (arith, nat_tests)

pub visible_at_end : VisibleAtEnd
visible_at_end j p h =
    at_end (floor j) p (length (history j)) (length (window j)) (is_visible j p)
    (visible_from j p) (length-window j h)

lower : (f g m n p : ℕ) (a b : Bool) → a ≡ (nat_lt p m && nat_le g p)
    → b ≡ (nat_lt p n && nat_le f p) → f ≤ g → p < n → IsTrue a → IsTrue b
lower f g m n p a b ea eb le come t = grind (arith, nat_tests)

pub gone_for_good : GoneForGood
gone_for_good j r p come =
    lower (floor j) (floor (r ∷ j)) (length (history (r ∷ j))) (length (history j)) p
    (is_visible (r ∷ j) p) (is_visible j p) (visible_from (r ∷ j) p) (visible_from j p)
    (omega arith) come

pub short_journals : ShortJournals
short_journals b le =
    let none : length b.bytes - b.max ≡ 0 = omega arith in
    let all : keep_last b.max ([] ++ b.bytes) ≡ b.bytes = ap (λ n. drop n b.bytes) none in
    record {
      is_journal = tt;
      bytes = arrivals_join (Sized b.max ∷ []) b.bytes tt ∙ all;
      max =
          refl;
    }

pub fits_arrived : (j : List Record) (b : Held) (bytes : List ℕ) → Fits j b →
    Fits (Arrived bytes ∷ j) (held (keep_last b.max (b.bytes ++ bytes)) b.max)
fits_arrived j b bytes fits =
    record {
      is_journal = fits.is_journal;
      bytes = arrivals_join j bytes fits.is_journal
          ∙ (λ i. keep_last (fits.max i) (fits.bytes i ++ bytes));
      max = fits.max;
    }

within : (n f len : ℕ) → f ≤ len → n ≤ len - f → (if nat_eq n 0 then 0 else f + n) ≤ len
within zero f len h le = omega arith
within (suc k) f len h le = grind (arith, nat_tests)

pub fits_consumed : (j : List Record) (b : Held) (n : ℕ) → n ≤ length b.bytes → Fits j b →
    Fits (Consumed (place_after j n) ∷ j) (held (drop n b.bytes) b.max)
fits_consumed j b n le fits =
    let inside : n ≤ length (window j) = omega (arith, ap length fits.bytes) in
    let reached = within n (floor j) (length (history j)) (floor_le j fits.is_journal)
    (omega (arith, length-window j fits.is_journal)) in
    record {
      is_journal = (rw (place_after_is j n inside) reached, fits.is_journal);
      bytes = consumptions_take j n fits.is_journal inside ∙ ap (drop n) fits.bytes;
      max = fits.max;
    }

sized : (j : List Record) (size : ℕ) → IsJournal j → IsJournal (Sized size ∷ j)
sized [] size h = tt
sized (r ∷ j) size h = h

pub fits_sized : (j : List Record) (b : Held) (size : ℕ) → Fits j b →
    Fits (Sized size ∷ j) (held (keep_last size b.bytes) size)
fits_sized j b size fits =
    record {
      is_journal = sized j size fits.is_journal;
      bytes = sizes_keep j size fits.is_journal ∙ ap (keep_last size) fits.bytes;
      max = refl;
    }

-- of bytes that are added in two parts, those stay that would if they were added at once
pub kept_twice : (m : ℕ) (first second : List ℕ)
    → keep_last m (keep_last m ([] ++ first) ++ second) ≡ keep_last m (first ++ second)
kept_twice m first second =
    let over = length first - m in
    let more = length (drop over first ++ second) - m in
    let joined : drop over (first ++ second) ≡ drop over first ++ second =
    drop-append-le over first second (omega arith) in
    let all : over + more ≡ length (first ++ second) - m =
    omega (
      arith,
      length-append first second,
      length-append (drop over first) second,
      length-drop over first,
    ) in
    ap (drop more) (sym joined) ∙ drop-drop more over (first ++ second)
    ∙ ap (λ k. drop k (first ++ second)) all
