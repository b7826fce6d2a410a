-- The rows of waits: each text of rows is of one list, and where a text of rows is cut.
use Rattle.std.proofs.Common.{◌≡◌, ◌≢◌, ◌<◌, ◌^◌, ◌==◌, true, ℕ, List, [], ◌∷◌, ◌++◌, length, drop, codes, decimal, refl, sym, ap, ◌∙◌, append-nil, arith}
use Rattle.std.proofs.lemmas.Bool.{eqb-true}
use Rattle.std.proofs.lemmas.List.{append_assoc}
use Rattle.std.specs.List.{AllByRecursion}
use Rattle.acts.specs.declared.id.Id.{Id}
use Rattle.acts.specs.declared.row.Row.{Row}
use Rattle.acts.specs.Id.{id_text}
use Rattle.lines.specs.Cut.{Lacks, StartsAt}
use Rattle.lines.specs.Numerals.{EndsNumber, is_numeral}
use Rattle.lines.specs.Rows.{AreRows, IsRow, IsWait, row_text, rows_text, wanted}
use Rattle.lines.proofs.Cuts.{Lacks-append, tail}
use Rattle.lines.proofs.Lines.{Lacks-decimal}
use Rattle.lines.proofs.Numerals.{same_id, same_number}

-- a row's text and what follows it, number by number
row_whole : (row : Row) (rest : List ℕ) → row_text row ++ rest
    ≡ id_text row.id.0 ++ 58 ∷ (decimal row.held ++ 58 ∷ (decimal row.max ++ rest))
row_whole row rest =
    append_assoc (id_text row.id.0) (58 ∷ (decimal row.held ++ 58 ∷ decimal row.max)) rest
    ∙ ap (λ sizes. id_text row.id.0 ++ 58 ∷ sizes)
    (append_assoc (decimal row.held) (58 ∷ decimal row.max) rest)

-- a text that is cut after the size that it begins with
pub size_cut : (text x y : List ℕ) (m n : ℕ) → m < 2 ^ 64 → n < 2 ^ 64 → EndsNumber x → EndsNumber y
    → text ≡ 58 ∷ (decimal m ++ x) → text ≡ 58 ∷ (decimal n ++ y) → (m ≡ n) × (x ≡ y)
size_cut text x y m n below below' ends ends' e f =
    same_number m n x y below below' ends ends' (tail (sym e ∙ f))

-- the text of a row that is cut after its id
pub id_cut : (text sizes rest : List ℕ) (id : ℕ) (row : Row) → IsRow row
    → (id < 2 ^ 64) × (text ≡ id_text id ++ sizes) × EndsNumber sizes → text ≡ row_text row ++ rest
    → (id ≡ row.id.0) × (sizes ≡ 58 ∷ (decimal row.held ++ 58 ∷ (decimal row.max ++ rest)))
id_cut text sizes rest id row is (below, cut, ends) e =
    same_id id row.id.0 sizes (58 ∷ (decimal row.held ++ 58 ∷ (decimal row.max ++ rest))) below is.0
    ends refl (sym cut ∙ e ∙ row_whole row rest)

-- and after how many bytes are held
pub held_cut : (text sizes behind rest : List ℕ) (id held : ℕ) (row : Row) → IsRow row
    → (id < 2 ^ 64) × (text ≡ id_text id ++ sizes) × EndsNumber sizes
    → (held < 2 ^ 64) × (sizes ≡ 58 ∷ (decimal held ++ behind)) × EndsNumber behind
    → text ≡ row_text row ++ rest → (held ≡ row.held) × (behind ≡ 58 ∷ (decimal row.max ++ rest))
held_cut text sizes behind rest id held row is cut (below, cut', ends) e =
    let (_, some, most, fits, want) = is in
    size_cut sizes behind (58 ∷ (decimal row.max ++ rest)) held row.held below (omega arith) ends refl
    cut' (id_cut text sizes rest id row is cut e).1

-- rows whose parts are equal are equal
same_parts : (a b : Row) → a.id ≡ b.id → a.held ≡ b.held → a.max ≡ b.max → a.want ≡ b.want → a ≡ b
same_parts a b e f g h =
    ap (λ (i : Id). record { id = i; held = a.held; max = a.max; want = a.want }) e
    ∙ ap (λ (n : ℕ). record { id = b.id; held = n; max = a.max; want = a.want }) f
    ∙ ap (λ (n : ℕ). record { id = b.id; held = b.held; max = n; want = a.want }) g
    ∙ ap (λ (n : ℕ). record { id = b.id; held = b.held; max = b.max; want = n }) h

-- a row is known by its id and its sizes
pub same_row : (a b : Row) → IsRow a → IsRow b → a.id ≡ b.id → a.held ≡ b.held → a.max ≡ b.max → a
    ≡ b
same_row a b is is' e f g =
    same_parts a b e f g (is.4 ∙ ap (λ n. wanted n a.max) f ∙ ap (λ n. wanted b.held n) g
    ∙ sym is'.4)

-- a row and what follows it are known by their text
pub same_first : (a b : Row) (x y : List ℕ) → IsRow a → IsRow b → EndsNumber x → EndsNumber y
    → row_text a ++ x ≡ row_text b ++ y → (a ≡ b) × (x ≡ y)
same_first a b x y is is' ends ends' e =
    let (id, some, most, fits, want) = is in
    let (id', some', most', fits', want') = is' in
    let cut : (a.id.0 < 2 ^ 64) × _ × _ = (id, row_whole a x, refl) in
    let (name, _) = id_cut (row_text a ++ x) _ y a.id.0 b is' cut e in
    let below : a.held < 2 ^ 64 = omega arith in
    let (held, sizes) = held_cut (row_text a ++ x) _ (58 ∷ (decimal a.max ++ x)) y a.id.0 a.held b is'
    cut (below, refl, refl) e in
    let (max, rest) = size_cut _ x y a.max b.max (omega arith) (omega arith) ends ends' refl sizes in
    (same_row a b is is' (ap (λ n. record { 0 = n }) name) held max, rest)

-- a blank ends a number
pub ends_blank : (rest : List ℕ) → StartsAt 32 rest → EndsNumber rest
ends_blank [] blank = tt
ends_blank (b ∷ rest) blank = ap is_numeral blank

-- a row's text lacks what its parts lack
Lacks-row : (byte : ℕ) (row : Row) → IsRow row → Lacks byte (id_text row.id.0)
    → Lacks byte (codes ":") → Lacks byte (decimal row.held) → Lacks byte (decimal row.max)
    → Lacks byte (row_text row)
Lacks-row byte row is name colon held max =
    Lacks-append byte (id_text row.id.0) _ name (Lacks-append byte (codes ":") _ colon
    (Lacks-append byte (decimal row.held) _ held (Lacks-append byte (codes ":") _ colon max)))

-- a row's text has no newline
Lacks-end : (row : Row) → IsRow row → Lacks 10 (row_text row)
Lacks-end row is =
    let (id, some, most, fits, want) = is in
    let name = Lacks-append 10 (codes "exp") (decimal row.id.0)
    ((λ e. absurd (omega arith)), ((λ e. absurd (omega arith)), ((λ e. absurd (omega arith)), tt)))
    (Lacks-decimal 10 row.id.0 (omega arith) id) in
    Lacks-row 10 row is name ((λ e. absurd (omega arith)), tt)
    (Lacks-decimal 10 row.held (omega arith) (omega arith))
    (Lacks-decimal 10 row.max (omega arith) (omega arith))

pub Lacks-rows : (rows : List Row) → AllByRecursion IsRow rows → Lacks 10 (rows_text rows)
Lacks-rows [] all = tt
Lacks-rows (row ∷ rows) all = (
  (λ e. absurd (omega arith)),
  Lacks-append 10 (row_text row) (rows_text rows)
      (Lacks-end row all.0) (Lacks-rows rows all.1),
)

-- the line of a wait has no newline in it
pub Lacks-wait : (rows : List Row) (line : List ℕ) → IsWait rows line → Lacks 10 line
Lacks-wait rows line is =
    let word : Lacks 10 (codes "wait") = (
      (λ e. absurd (omega arith)),
      (
        (λ e. absurd (omega arith)),
        ((λ e. absurd (omega arith)), ((λ e. absurd (omega arith)), tt)),
      ),
    ) in
    rw is.1 (Lacks-append 10 (codes "wait") (rows_text rows) word (Lacks-rows rows is.0))

-- a text that begins with the line of a wait: its word, its rows, and what follows the line
pub wait_split : (text line rest : List ℕ) (rows : List Row) → IsWait rows line
    → text ≡ line ++ 10 ∷ rest → text ≡ codes "wait" ++ (rows_text rows ++ 10 ∷ rest)
wait_split text line rest rows is whole =
    whole ∙ ap (λ front. front ++ 10 ∷ rest) is.1
    ∙ append_assoc (codes "wait") (rows_text rows) (10 ∷ rest)

-- the text of rows is empty or begins with a blank
pub starts : (rows : List Row) → StartsAt 32 (rows_text rows)
starts [] = tt
starts (row ∷ rows) = refl

-- two ways to take a first row from a text give the same row and the same rest
pub after_row : (row first : Row) (more : List Row) (rest after : List ℕ) → IsRow row → IsRow first
    → StartsAt 32 after → rest ≡ 32 ∷ (row_text row ++ after)
    → rest ≡ 32 ∷ (row_text first ++ rows_text more) → (row ≡ first) × (after ≡ rows_text more)
after_row row first more rest after is is' blank e f =
    same_first row first after (rows_text more) is is' (ends_blank after blank)
    (ends_blank (rows_text more) (starts more)) (ap (drop 1) (sym e ∙ f))

-- a text of rows is of one list
pub same_rows : (a b : List Row) (text : List ℕ) → AreRows a text → AreRows b text → a ≡ b
same_rows [] [] text la lb = refl
same_rows [] (row ∷ rows) text la lb = cc (sym la.1 ∙ lb.1)
same_rows (row ∷ rows) [] text la lb = cc (sym la.1 ∙ lb.1)
same_rows (row ∷ rows) (first ∷ more) text la lb =
    let (here, others) = after_row row first more text (rows_text rows) la.0.0 lb.0.0 (starts rows)
    la.1 lb.1 in
    let tail = same_rows rows more (rows_text rows) (la.0.1, refl) (lb.0.1, others) in
    cc (here, tail)

-- one more row at the end
pub AllRows-more : (rows : List Row) (row : Row) → AllByRecursion IsRow rows → IsRow row →
    AllByRecursion IsRow (rows ++ row ∷ [])
AllRows-more [] row all is = (is, tt)
AllRows-more (first ∷ rows) row all is = (all.0, AllRows-more rows row all.1 is)

pub rows_text-more : (rows : List Row) (row : Row) → rows_text (rows ++ row ∷ []) ≡ rows_text rows
    ++ 32 ∷ row_text row
rows_text-more [] row = ap (λ text. 32 ∷ text) (append-nil (row_text row))
rows_text-more (first ∷ rows) row =
    ap (λ text. 32 ∷ (row_text first ++ text)) (rows_text-more rows row)
    ∙ ap (λ text. 32 ∷ text) (sym (append_assoc (row_text first) (rows_text rows) (32
    ∷ row_text row)))

-- what was read of the rows and what is still unread, after one more row
pub rows_on : (text rest after : List ℕ) (before items : List Row) (row : Row)
    → AllByRecursion IsRow before → text ≡ rows_text before ++ rest → IsRow row
    → rest ≡ 32 ∷ (row_text row ++ after) → items ≡ before ++ row ∷ []
    → AllByRecursion IsRow items × (text ≡ rows_text items ++ after)
rows_on text rest after before items row all whole is cut more =
    let joined : rows_text before ++ (32 ∷ row_text row ++ after) ≡ (rows_text before ++ 32
    ∷ row_text row) ++ after =
    sym (append_assoc (rows_text before) (32 ∷ row_text row) after) in (
      rw more (AllRows-more before row all is),
      rw more (rw (rows_text-more before row) (whole ∙ ap (λ tail. rows_text before ++ tail) cut
          ∙ joined)),
    )

-- the other rows of a text whose first row was read
pub rows_left : (left : List Row) (rest after : List ℕ) (row : Row) → AreRows left rest → IsRow row
    → StartsAt 32 after → rest ≡ 32 ∷ (row_text row ++ after) →
    (more : List Row) × AreRows more after
rows_left [] rest after row are is blank e = cc (sym e ∙ are.1)
rows_left (first ∷ more) rest after row are is blank e =
    (more, (are.0.1, (after_row row first more rest after is are.0.0 blank e are.1).1))

-- a text that is not empty and begins with no row is not a text of rows
pub rows_none : (left : List Row) (rest : List ℕ) → 0 < length rest
    → ((row : Row) (after : List ℕ) → IsRow row → StartsAt 32 after
    → rest ≢ 32 ∷ (row_text row ++ after)) → AreRows left rest → ⊥
rows_none [] rest some none are = absurd (omega (arith, ap length are.1))
rows_none (row ∷ rows) rest some none are =
    none row (rows_text rows) are.0.0 (starts rows) are.1

-- where nothing is left to read, the rows that were read are all
pub rows_end : (text rest : List ℕ) (before : List Row) → text ≡ rows_text before ++ rest
    → (length rest == 0) ≡ true → text ≡ rows_text before
rows_end text [] before whole none = whole ∙ append-nil (rows_text before)
rows_end text (b ∷ rest) before whole none =
    absurd (omega (arith, eqb-true (length (b ∷ rest)) 0 none))
