-- The rows that a table keeps are those of its lines, whatever is done to the table.
use Rattle.std.proofs.Common.{◌≡◌, ◌∙◌, ℕ, zero, suc, ◌+◌, ◌<◌, ◌==◌, length, get_or, Bool, true, List, [], ◌∷◌, ◌++◌, map, take, drop, Option, Some, None, if◌then◌else◌, refl, sym, ap, subst, arith}
use Rattle.std.proofs.Math.ListN.{set}
use Rattle.std.specs.List.{position, remove}
use Rattle.std.specs.Option.{option_map}
use Rattle.std.proofs.lemmas.Bool.{eq-eqb, eqb-true, false_from_ne_true}
use Rattle.std.proofs.lemmas.List.{drop-map, get_or-map, get_or_default, length-map, map-append, map-set, take-map, take_more_same}
use Rattle.acts.specs.declared.id.Id.{Id}
use Rattle.acts.specs.declared.row.Row.{Row}
use Rattle.choices.proofs.Lines.{at_in}
use Rattle.choices.specs.Lines.{Line, AllBeyond, Rise, line_of, numbers, open_ids, row_of_line, rows_of, with_row}

-- a row is written anew where its line is changed
pub rows_set : (ls : List Line) (rows : List Row) (k : ℕ) (y : Line) (r : Row) → r ≡ row_of_line y →
    rows ≡ map row_of_line ls → set rows k r ≡ map row_of_line (set ls k y)
rows_set ls rows k y r anew are =
    (λ j. set (are j) k (anew j)) ∙ sym (map-set row_of_line ls k y)

-- another line that has the same row is put in a line's place
pub rows_kept : (ls : List Line) (k : ℕ) (x y : Line) → x ≡ get_or ls k x →
    row_of_line y ≡ row_of_line x → map row_of_line (set ls k y) ≡ map row_of_line ls
rows_kept [] k x y has same = refl
rows_kept (l ∷ ls) zero x y has same =
    ap (λ r. r ∷ map row_of_line ls) (same ∙ ap row_of_line has)
rows_kept (l ∷ ls) (suc k) x y has same =
    ap (λ rs. row_of_line l ∷ rs) (rows_kept ls k x y has same)

-- a row is taken out with its line
pub rows_removed : (ls new : List Line) (rows left : List Row) (k : ℕ) → new ≡ remove ls k →
    left ≡ remove rows k → rows ≡ map row_of_line ls → left ≡ map row_of_line new
rows_removed ls new rows left k out gone are =
    gone ∙ ap (λ (rs : List Row). remove rs k) are
    ∙ (λ j. take-map row_of_line k ls j ++ drop-map row_of_line (suc k) ls j)
    ∙ sym (map-append row_of_line (take k ls) (drop (suc k) ls)) ∙ ap (map row_of_line) (sym out)

-- there is a row at the place of each line
pub row_stands : (ls ms : List Line) (rows : List Row) (k : ℕ) → ms ≡ ls →
    rows ≡ map row_of_line ms → k < length ls → k < length rows
row_stands ls ms rows k same are below =
    subst (λ n. k < n) (sym (ap length are ∙ length-map ms row_of_line ∙ ap length same)) below

-- the row at the place of an id is that of its line
pub row_at : (i : Id) (ls ms : List Line) (rows : List Row) (k : ℕ) (r : Row) → ms ≡ ls →
    rows ≡ map row_of_line ms → k < length ls → Some k ≡ position (λ l. l.id.0 == i.0) ls →
    r ≡ get_or rows k r → Some r ≡ option_map row_of_line (line_of ls i)
row_at i [] ms rows k r same are below is has = absurd (omega (arith, below))
row_at i (l ∷ ls) ms rows k r same are below is has =
    let x = get_or (l ∷ ls) k l in
    let line : line_of (l ∷ ls) i ≡ Some x =
    at_in i (l ∷ ls) (l ∷ ls) k x refl is (get_or_default (l ∷ ls) k l x below) in
    let all : rows ≡ map row_of_line (l ∷ ls) = are ∙ ap (map row_of_line) same in
    let row : r ≡ row_of_line x =
    has ∙ ap (λ (rs : List Row). get_or rs k r) all ∙ get_or-map row_of_line (l ∷ ls) k l r below in
    ap Some row ∙ sym (ap (option_map row_of_line) line)

-- the ids of the rows are those of the lines
pub ids_of_rows : (ls : List Line) → map (λ r. r.id) (map row_of_line ls) ≡ open_ids ls
ids_of_rows [] = refl
ids_of_rows (l ∷ ls) = ap (λ is. l.id ∷ is) (ids_of_rows ls)

-- one id further, that of the row at the same place
pub ids_further : (rows : List Row) (ids : List Id) (k : ℕ) (r : Row) (i : Id) → k < length rows →
    k < length ids → (get_or rows k r).id.0 ≡ (get_or ids k i).0 →
    take k ids ≡ take k (map (λ r. r.id) rows) →
    take (k + 1) ids ≡ take (k + 1) (map (λ r. r.id) rows)
ids_further rows ids k r i below inside same so_far =
    let long = length-map rows (λ (r : Row). r.id) in
    let id : get_or ids k i ≡ (get_or rows k r).id = λ j. record { 0 = sym same j } in
    take_more_same ids (map (λ r. r.id) rows) k i inside (omega (arith, long, below)) so_far
    (id ∙ sym (get_or-map (λ (r : Row). r.id) rows k r i below))

-- a line in front has none of the rows of ids beyond it
rows_past : (l : Line) (ls ms : List Line) → AllBeyond l.id.0 (numbers ms) →
    rows_of (l ∷ ls) (open_ids ms) ≡ rows_of ls (open_ids ms)
rows_past l ls [] beyond = refl
rows_past l ls (m ∷ ms) beyond =
    let less = beyond.0 in
    let other : line_of (l ∷ ls) m.id ≡ line_of ls m.id =
    ap (λ (b : Bool). if b then Some l else line_of ls m.id)
    (false_from_ne_true (l.id.0 == m.id.0)
    (λ same. let e = eqb-true l.id.0 m.id.0 same in absurd (omega (arith, less, e)))) in
    λ j. with_row (other j) (rows_past l ls ms beyond.1 j)

-- where the numbers rise, the rows of all ids are those of all lines
pub rows_of_all : (ls : List Line) → Rise (numbers ls) →
    rows_of ls (open_ids ls) ≡ map row_of_line ls
rows_of_all [] rise = refl
rows_of_all (l ∷ ls) rise =
    let own : line_of (l ∷ ls) l.id ≡ Some l =
    ap (λ (b : Bool). if b then Some l else line_of ls l.id) (eq-eqb l.id.0 l.id.0 refl) in
    (λ j. with_row (own j) (rows_past l ls ls rise.0 j))
    ∙ ap (λ rs. row_of_line l ∷ rs) (rows_of_all ls rise.1)
