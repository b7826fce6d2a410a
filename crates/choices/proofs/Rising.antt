-- The numbers of the open ids rise, whatever is done to the table.
use Rattle.std.proofs.Common.{◌≡◌, ◌∙◌, ℕ, zero, suc, ◌+◌, ◌<◌, ◌≤◌, length, get_or, ◌==◌, ◌^◌, nat_le, nat_lt, Bool, true, false, cond, List, [], ◌∷◌, ◌++◌, map, Option, Some, None, if◌then◌else◌, refl, sym, ap, subst, arith}
use Rattle.std.proofs.Math.ListN.{set}
use Rattle.std.proofs.lemmas.Bool.{eq-eqb, eqb-true, false_from_ne_true, leb-false}
use Rattle.std.specs.List.{position, remove}
use Rattle.std.specs.Option.{option_map}
use Rattle.std.proofs.lemmas.List.{append-nil, length-set, map_push}
use Rattle.acts.specs.declared.id.Id.{Id}
use Rattle.acts.specs.declared.row.Row.{Row}
use Rattle.choices.proofs.Lines.{place, place-position}
use Rattle.choices.proofs.RowsKept.{rows_set, rows_kept, rows_removed}
use Rattle.choices.specs.Lines.{Line, Listing, IsFirstOut, AllBeyond, Rise, id_of, next_id, without, numbers, number_after, row_of_line, upcoming}
use Rattle.choices.specs.Peers.{Peer, FitsPeers, line, numbers_of, opened}

-- another line of the same id in a line's place leaves the numbers as they are
pub numbers_set : (ls : List Line) (k : ℕ) (x y : Line) → x ≡ get_or ls k x → y.id ≡ x.id →
    numbers (set ls k y) ≡ numbers ls
numbers_set [] k x y has same = refl
numbers_set (l ∷ ls) zero x y has same = ap (λ j. j.0 ∷ numbers ls) (same ∙ ap (λ m. m.id) has)
numbers_set (l ∷ ls) (suc k) x y has same = ap (λ ns. l.id.0 ∷ ns) (numbers_set ls k x y has same)

-- at most 64 lines whose numbers rise, and these rows are theirs
abbrev pub IsSound : List Line → List Row → Option ℕ → Type 0
IsSound ls rows next = (length ls ≤ 64) × Rise (numbers ls ++ upcoming next)
    × (rows ≡ map row_of_line ls)

-- a line of the same id is put in a line's place, and its row is written anew
pub sound_set : (ls : List Line) (rows : List Row) (next : Option ℕ) (k : ℕ) (x y : Line) (r : Row) →
    x ≡ get_or ls k x → y.id ≡ x.id → r ≡ row_of_line y → IsSound ls rows next →
    IsSound (set ls k y) (set rows k r) next
sound_set ls rows next k x y r has same anew sound = (
  subst (λ n. n ≤ 64) (sym (length-set ls k y)) sound.0,
  subst (λ ns. Rise (ns ++ upcoming next)) (sym (numbers_set ls k x y has same)) sound.1,
  rows_set ls rows k y r anew sound.2,
)

-- a line of the same id and the same row is put in a line's place
pub sound_kept : (ls : List Line) (rows : List Row) (next : Option ℕ) (k : ℕ) (x y : Line) →
    x ≡ get_or ls k x → y.id ≡ x.id → row_of_line y ≡ row_of_line x → IsSound ls rows next →
    IsSound (set ls k y) rows next
sound_kept ls rows next k x y has same anew sound = (
  subst (λ n. n ≤ 64) (sym (length-set ls k y)) sound.0,
  subst (λ ns. Rise (ns ++ upcoming next)) (sym (numbers_set ls k x y has same)) sound.1,
  sound.2 ∙ sym (rows_kept ls k x y has anew),
)

beyond_without : (n : ℕ) (i : Id) (ls : List Line) (more : List ℕ) →
    AllBeyond n (numbers ls ++ more) → AllBeyond n (numbers (without i ls) ++ more)
beyond_without n i [] more beyond = beyond
beyond_without n i (l ∷ ls) more beyond =
    by (l.id.0 == i.0) (beyond_without n i ls more beyond.1)
  where
    by : (b : Bool) → AllBeyond n (numbers (without i ls) ++ more) →
        AllBeyond n (numbers (if b then ls else l ∷ without i ls) ++ more)
    by true rest = beyond.1
    by false rest = (beyond.0, rest)

-- where a line is taken out the numbers still rise
rise_without : (i : Id) (ls : List Line) (more : List ℕ) →
    Rise (numbers ls ++ more) → Rise (numbers (without i ls) ++ more)
rise_without i [] more rise = rise
rise_without i (l ∷ ls) more rise =
    by (l.id.0 == i.0) (beyond_without l.id.0 i ls more rise.0) (rise_without i ls more rise.1)
  where
    by : (b : Bool) → AllBeyond l.id.0 (numbers (without i ls) ++ more) →
        Rise (numbers (without i ls) ++ more) →
        Rise (numbers (if b then ls else l ∷ without i ls) ++ more)
    by true first rest = rise.1
    by false first rest = (first, rest)

shorter_without : (i : Id) (ls : List Line) → length (without i ls) ≤ length ls
shorter_without i [] = omega arith
shorter_without i (l ∷ ls) = by (l.id.0 == i.0) (shorter_without i ls)
  where
    by : (b : Bool) → length (without i ls) ≤ length ls →
        length (if b then ls else l ∷ without i ls) ≤ length (l ∷ ls)
    by true rest = omega arith
    by false rest = omega (arith, rest)

pub sound_without : (i : Id) (ls new : List Line) (rows left : List Row) (next : Option ℕ) (k : ℕ) →
    new ≡ without i ls → new ≡ remove ls k → left ≡ remove rows k → IsSound ls rows next →
    IsSound new left next
sound_without i ls new rows left next k is out gone sound =
    let most = sound.0 in
    let less = shorter_without i ls in (
      subst (λ ms. length ms ≤ 64) (sym is) (omega (arith, most, less)),
      subst (λ ms. Rise (numbers ms ++ upcoming next)) (sym is)
          (rise_without i ls (upcoming next) sound.1),
      rows_removed ls new rows left k out gone sound.2,
    )

-- the first line is taken out with its row
pub sound_behind : (ls new : List Line) (rows left : List Row) (next : Option ℕ) →
    new ≡ remove ls 0 → left ≡ remove rows 0 → IsSound ls rows next → IsSound new left next
sound_behind [] new rows left next out gone sound = (
  subst (λ ms. length ms ≤ 64) (sym out) sound.0,
  subst (λ ms. Rise (numbers ms ++ upcoming next)) (sym out) sound.1,
  rows_removed [] new rows left 0 out gone sound.2,
)
sound_behind (l ∷ ls) new rows left next out gone sound =
    let most = sound.0 in (
      subst (λ ms. length ms ≤ 64) (sym out) (omega (arith, most)),
      subst (λ ms. Rise (numbers ms ++ upcoming next)) (sym out) sound.1.1,
      rows_removed (l ∷ ls) new rows left 0 out gone sound.2,
    )

-- where numbers at the end are left out, the others still rise
pub beyond_front : (n : ℕ) (ns more : List ℕ) → AllBeyond n (ns ++ more) → AllBeyond n ns
beyond_front n [] more beyond = tt
beyond_front n (m ∷ ms) more beyond = (beyond.0, beyond_front n ms more beyond.1)

pub rise_front : (ns more : List ℕ) → Rise (ns ++ more) → Rise ns
rise_front [] more rise = tt
rise_front (n ∷ ns) more rise = (beyond_front n ns more rise.0, rise_front ns more rise.1)

beyond_more : (k : ℕ) (ns : List ℕ) (n m : ℕ) → n < m → AllBeyond k (ns ++ n ∷ []) →
    AllBeyond k (ns ++ n ∷ m ∷ [])
beyond_more k [] n m less beyond = (beyond.0, (let before = beyond.0 in omega (arith, before, less), tt))
beyond_more k (j ∷ ns) n m less beyond = (beyond.0, beyond_more k ns n m less beyond.1)

rise_more : (ns : List ℕ) (n m : ℕ) → n < m → Rise (ns ++ n ∷ []) → Rise (ns ++ n ∷ m ∷ [])
rise_more [] n m less rise = ((less, tt), (tt, tt))
rise_more (k ∷ ns) n m less rise = (beyond_more k ns n m less rise.0, rise_more ns n m less rise.1)

beyond_later : (k : ℕ) (ns : List ℕ) (n m : ℕ) → n < m → AllBeyond k (ns ++ n ∷ []) →
    AllBeyond k (ns ++ m ∷ [])
beyond_later k [] n m less beyond = (let before = beyond.0 in omega (arith, before, less), tt)
beyond_later k (j ∷ ns) n m less beyond = (beyond.0, beyond_later k ns n m less beyond.1)

rise_later : (ns : List ℕ) (n m : ℕ) → n < m → Rise (ns ++ n ∷ []) → Rise (ns ++ m ∷ [])
rise_later [] n m less rise = rise
rise_later (k ∷ ns) n m less rise = (beyond_later k ns n m less rise.0, rise_later ns n m less rise.1)

-- the numbers rise up to the one after the next, used up or given to a line
pub rise_skipped : (ns : List ℕ) (next : Option ℕ) → Rise (ns ++ upcoming next) →
    Rise (ns ++ upcoming (number_after next))
rise_skipped ns None rise = rise
rise_skipped ns (Some n) rise = by (nat_lt (n + 1) (2 ^ 64))
  where
    by : (b : Bool) → Rise (ns ++ upcoming (if b then Some (n + 1) else None))
    by true = rise_later ns n (n + 1) (omega arith) rise
    by false = subst Rise (sym (append-nil ns)) (rise_front ns (n ∷ []) rise)

numbers_more : (ls : List Line) (l : Line) (more : List ℕ) →
    numbers (ls ++ l ∷ []) ++ more ≡ numbers ls ++ l.id.0 ∷ more
numbers_more [] l more = refl
numbers_more (k ∷ ls) l more = ap (λ ns. k.id.0 ∷ ns) (numbers_more ls l more)

rise_given : (ns : List ℕ) (n : ℕ) → Rise (ns ++ n ∷ []) →
    Rise (ns ++ n ∷ upcoming (number_after (Some n)))
rise_given ns n rise = by (nat_lt (n + 1) (2 ^ 64))
  where
    by : (b : Bool) → Rise (ns ++ n ∷ upcoming (if b then Some (n + 1) else None))
    by true = rise_more ns n (n + 1) (omega arith) rise
    by false = rise

-- the next number is used up
pub sound_skipped : (ls : List Line) (rows : List Row) (next after : Option ℕ) →
    after ≡ number_after next → IsSound ls rows next → IsSound ls rows after
sound_skipped ls rows next after is sound = (
  sound.0,
  subst (λ o. Rise (numbers ls ++ upcoming o)) (sym is) (rise_skipped (numbers ls) next sound.1),
  sound.2,
)

-- a line that has the next number is put after the others
length_more : (ls : List Line) (l : Line) → length (ls ++ l ∷ []) ≡ length ls + 1
length_more [] l = refl
length_more (k ∷ ls) l = let rest = length_more ls l in omega (arith, rest)

pub sound_opened : (ls : List Line) (l : Line) (rows : List Row) (next : Option ℕ) →
    length ls < 64 → next ≡ Some l.id.0 → IsSound ls rows next →
    IsSound (ls ++ l ∷ []) (rows ++ row_of_line l ∷ []) (number_after next)
sound_opened ls l rows next room is sound =
    let n = l.id.0 in
    let long = length_more ls l in
    let up : Rise (numbers ls ++ n ∷ []) =
    subst (λ o. Rise (numbers ls ++ upcoming o)) is sound.1 in (
      omega (arith, long, room),
      subst Rise (sym (numbers_more ls l (upcoming (number_after next))))
          (subst (λ o. Rise (numbers ls ++ n ∷ upcoming (number_after o))) (sym is)
          (rise_given (numbers ls) n up)),
      ap (λ rs. rs ++ row_of_line l ∷ []) sound.2 ∙ sym (map_push row_of_line ls l),
    )

-- the next id is the next number's, and there is room for it
pub record IsNext (t : Listing) (i : Id) : Type 0 where
  pub room : length t.lines < 64
  pub is : t.next ≡ Some i.0

pub next_given : (t : Listing) (i : Id) → Some i ≡ next_id t → IsNext t i
next_given t i is = by (nat_le 64 (length t.lines)) refl t.next refl is
  where
    by : (b : Bool) → nat_le 64 (length t.lines) ≡ b → (o : Option ℕ) → t.next ≡ o →
        Some i ≡ (if b then None else option_map id_of o) → IsNext t i
    by true full o at is = absurd (cc)
    by false free None at is = absurd (cc)
    by false free (Some n) at is =
        let same : i ≡ id_of n = cc in
        record {
          room = leb-false 64 (length t.lines) free;
          is = at ∙ ap (λ j. Some j.0) (sym same);
        }

-- the line that is taken out first has the least number
pub first_out : (i : Id) (l : Line) (old new : List Line) (next : Option ℕ) → old ≡ l ∷ new →
    l.id ≡ i → Rise (numbers old ++ upcoming next) → IsFirstOut i old new
first_out i l old new next split same rises =
    let rise : Rise (numbers (l ∷ new) ++ upcoming next) =
    subst (λ ls. Rise (numbers ls ++ upcoming next)) split rises in
    record {
      line = l;
      split = split;
      same = same;
      least = beyond_front l.id.0 (numbers new) (upcoming next) rise.0;
    }

-- the numbers of the open ids of the definition rise as well
numbers_fit : (ps : List Peer) → numbers (map line ps) ≡ numbers_of ps
numbers_fit [] = refl
numbers_fit (p ∷ ps) = ap (λ ns. p.id.0 ∷ ns) (numbers_fit ps)

pub rise_open : (ls : List Line) (more : List ℕ) (ps : List Peer) → FitsPeers ls ps →
    Rise (numbers ls ++ more) → Rise (numbers_of (opened ps))
rise_open ls more ps fits rise =
    subst Rise (ap numbers (sym fits.lines) ∙ numbers_fit (opened ps))
    (rise_front (numbers ls) more rise)

beyond_at : (n : ℕ) (ls : List Line) (more : List ℕ) (k : ℕ) (x : Line) →
    AllBeyond n (numbers ls ++ more) → k < length ls → x ≡ get_or ls k x → n < x.id.0
beyond_at n [] more k x beyond below has = absurd (omega (arith, below))
beyond_at n (l ∷ ls) more zero x beyond below has =
    subst (λ (m : Line). n < m.id.0) (sym has) beyond.0
beyond_at n (l ∷ ls) more (suc k) x beyond below has =
    beyond_at n ls more k x beyond.1 (omega (arith, below)) has

-- the same of the number at a place
pub beyond_first : (n : ℕ) (ls : List Line) (more : List ℕ) (k : ℕ) (d : Line) →
    AllBeyond n (numbers ls ++ more) → k < length ls → n < (get_or ls k d).id.0
beyond_first n [] more k d beyond below = absurd (omega (arith, below))
beyond_first n (l ∷ ls) more zero d beyond below = beyond.0
beyond_first n (l ∷ ls) more (suc k) d beyond below =
    beyond_first n ls more k d beyond.1 (omega (arith, below))

-- where the numbers rise an id stands at one place alone
place_here : (i : Id) (ls : List Line) (more : List ℕ) (k : ℕ) (x : Line) →
    Rise (numbers ls ++ more) → k < length ls → x ≡ get_or ls k x → x.id.0 ≡ i.0 →
    place i ls ≡ Some k
place_here i [] more k x rise below has is = absurd (omega (arith, below))
place_here i (l ∷ ls) more zero x rise below has is =
    ap (λ (b : Bool). cond b (Some 0) (option_map (λ k. k + 1) (place i ls)))
    (eq-eqb l.id.0 i.0 (sym (ap (λ (m : Line). m.id.0) has) ∙ is))
place_here i (l ∷ ls) more (suc k) x rise below has is =
    let less : l.id.0 < x.id.0 = beyond_at l.id.0 ls more k x rise.0 (omega (arith, below)) has in
    let sum : k + 1 ≡ suc k = omega arith in
    ap (λ (b : Bool). cond b (Some 0) (option_map (λ k. k + 1) (place i ls)))
    (false_from_ne_true (l.id.0 == i.0)
    (λ same. absurd (omega (arith, less, is, eqb-true l.id.0 i.0 same))))
    ∙ ap (option_map (λ k. k + 1)) (place_here i ls more k x rise.1 (omega (arith, below)) has is)
    ∙ ap Some sum

pub position_here : (i : Id) (ls : List Line) (more : List ℕ) (k : ℕ) (x : Line) →
    Rise (numbers ls ++ more) → k < length ls → x ≡ get_or ls k x → x.id.0 ≡ i.0 →
    Some k ≡ position (λ l. l.id.0 == i.0) ls
position_here i ls more k x rise below has is =
    sym (place-position i ls ∙ place_here i ls more k x rise below has is)
