-- What rows are, one by one.
use Rattle.std.proofs.Common.{◌≡◌, ℕ, zero, suc, ◌+◌, ◌<◌, List, [], ◌∷◌, ◌++◌, length, take, drop, get_or, Option, Some, None, refl, sym, ap, ◌∙◌, arith, add-one, append_assoc, drop-set-lt, drop-drop}
use Rattle.std.proofs.Math.ListN.{set}
use Rattle.std.specs.Option.{option_map}
use Rattle.acts.specs.declared.id.Id.{Id}
use Rattle.acts.specs.declared.row.Row.{Row}
use Rattle.choices.specs.Lines.{Line, line_of, row_of_line, with_row, row_anew, rows_of, rows_anew}

-- a row as the line says now
pub anew_some : (o : Option Line) (r anew : Row) → Some anew ≡ option_map row_of_line o →
    anew ≡ row_anew o r
anew_some None r anew is = absurd (cc)
anew_some (Some l) r anew is = cc

pub anew_none : (o : Option Line) (r : Row) → None ≡ option_map row_of_line o → r ≡ row_anew o r
anew_none None r is = refl
anew_none (Some l) r is = absurd (cc)

-- the rows of one id
pub row_some : (o : Option Line) (r : Row) → Some r ≡ option_map row_of_line o →
    with_row o [] ≡ r ∷ []
row_some None r is = absurd (cc)
row_some (Some l) r is = let same : r ≡ row_of_line l = cc in ap (λ q. q ∷ []) (sym same)

pub row_none : (o : Option Line) → None ≡ option_map row_of_line o → with_row o [] ≡ []
row_none None is = refl
row_none (Some l) is = absurd (cc)

-- a row before those of others
pub row_before : (o : Option Line) (rows : List Row) → with_row o rows ≡ with_row o [] ++ rows
row_before None rows = refl
row_before (Some l) rows = refl

-- one id further
pub rows_further : (lines : List Line) (old new all : List Row) (i : Id) (is : List Id) →
    new ≡ old ++ rows_of lines (i ∷ []) → old ++ rows_of lines (i ∷ is) ≡ all →
    new ++ rows_of lines is ≡ all
rows_further lines old new all i is more so_far =
    ap (λ rs. rs ++ rows_of lines is) more
    ∙ append_assoc old (with_row (line_of lines i) []) (rows_of lines is)
    ∙ ap (λ rs. old ++ rs) (sym (row_before (line_of lines i) (rows_of lines is)))
    ∙ so_far

-- a row written anew: those up to it are anew, those after it as they were
anew-suc : (lines : List Line) (old new : List Row) (i : ℕ) (d r x : Row) → i < length new →
    r ≡ get_or new i d → x ≡ row_anew (line_of lines r.id) r →
    take i new ≡ rows_anew lines (take i old) → drop i new ≡ drop i old →
    take (suc i) (set new i x) ≡ rows_anew lines (take (suc i) old)
anew-suc lines [] [] i d r x lt at is anew left = absurd (omega arith)
anew-suc lines [] (n ∷ new) zero d r x lt at is anew left = absurd (cc)
anew-suc lines (o ∷ old) [] i d r x lt at is anew left = absurd (omega arith)
anew-suc lines (o ∷ old) (n ∷ new) zero d r x lt at is anew left =
    let same : n ≡ o = cc in
    let first : x ≡ row_anew (line_of lines o.id) o =
    is ∙ ap (λ (q : Row). row_anew (line_of lines q.id) q) (at ∙ same) in
    ap (λ q. q ∷ []) first
anew-suc lines [] (n ∷ new) (suc i) d r x lt at is anew left = absurd (cc)
anew-suc lines (o ∷ old) (n ∷ new) (suc i) d r x lt at is anew left =
    let head : n ≡ row_anew (line_of lines o.id) o = cc in
    let tail : take i new ≡ rows_anew lines (take i old) = cc in
    λ k. head k ∷ anew-suc lines old new i d r x (omega arith) at is tail left k

pub anew_further : (lines : List Line) (old new : List Row) (i : ℕ) (d r x : Row) → i < length new →
    r ≡ get_or new i d → x ≡ row_anew (line_of lines r.id) r →
    take i new ≡ rows_anew lines (take i old) → drop i new ≡ drop i old →
    take (i + 1) (set new i x) ≡ rows_anew lines (take (i + 1) old)
anew_further lines old new i d r x lt at is anew left =
    ap (λ (n : ℕ). take n (set new i x)) (add-one i)
    ∙ anew-suc lines old new i d r x lt at is anew left
    ∙ ap (λ (n : ℕ). rows_anew lines (take n old)) (sym (add-one i))

pub left_further : (old new : List Row) (i : ℕ) (x : Row) → drop i new ≡ drop i old →
    drop (i + 1) (set new i x) ≡ drop (i + 1) old
left_further old new i x left =
    drop-set-lt (i + 1) new i x (omega arith) ∙ sym (drop-drop 1 i new) ∙ ap (drop 1) left
    ∙ drop-drop 1 i old
