-- What is written of answers, entries, rows and bytes, one by one.
use Rattle.std.proofs.Common.{◌≡◌, ℕ, ◌+◌, ◌<◌, Bool, List, [], ◌∷◌, ◌++◌, length, get_or, drop, map, refl, sym, ap, subst, ◌∙◌, append-nil, codes, true, ◌==◌, arith}
use Rattle.std.proofs.lemmas.Bool.{eqb-true}
use Rattle.std.proofs.lemmas.List.{append_assoc, drop_more}
use Rattle.std.specs.List.{AllByRecursion}
use Rattle.acts.specs.declared.row.Row.{Row}
use Rattle.acts.specs.Deed.{Reply}
use Rattle.hex.specs.Hex.{encode_lower}
use Rattle.lines.specs.Line.{IsWholeLine}
use Rattle.lines.specs.Rows.{row_text, rows_text}
use Rattle.lines.proofs.HexTexts.{encode-append, no_digits}
use Rattle.records.specs.Entry.{AreLinesOf, AreNotes, IsNote, Note}
use Rattle.records.specs.Record.{AreLines, IsTold}
use Rattle.records.specs.Sink.{Takes}
use Rattle.records.proofs.Records.{whole_rest}
use Rattle.records.proofs.Sinks.{Takes-then}

-- the item at a place, and those after it
pub item_at : {T : Type 0} (xs : List T) (i : ℕ) (x : T) → i < length xs → x ≡ get_or xs i x →
    drop i xs ≡ x ∷ drop (i + 1) xs
item_at xs i x below is =
    drop_more xs i x below ∙ ap (λ y. y ∷ drop (i + 1) xs) (sym is)

module _ {T S : Type 0} (adds : S → List ℕ → S → Type 0) (failed : S → Bool) (xs : List T) (i : ℕ)
    (x : T) (first mid after : S) (step : drop i xs ≡ x ∷ drop (i + 1) xs) where
  -- what holds while answers are written still holds after one more answer
  pub answers_on : (view : T → Reply) (all : List Reply)
      → AllByRecursion IsTold (map view (drop i xs)) × (done : List ℕ)
      × Takes adds failed first done mid
      × ((rest : List ℕ) → AreLines (map view (drop i xs)) rest → AreLines all (done ++ rest))
      → (text : List ℕ) × IsWholeLine (view x) text × Takes adds failed mid text after
      → AllByRecursion IsTold (map view (drop (i + 1) xs)) × (done : List ℕ)
      × Takes adds failed first done after
      × ((rest : List ℕ) → AreLines (map view (drop (i + 1) xs)) rest → AreLines all (done ++ rest))
  answers_on view all (told, done, takes, so_far) (text, (line, is, whole), takes') = (
    (rw step at told).1,
    done ++ text,
    Takes-then adds failed first mid after done text takes takes',
    λ rest are. subst (AreLines all) (sym (append_assoc done text rest))
        (so_far (text ++ rest) (rw step (line, rest, is, whole_rest text line rest whole, are))),
  )

  -- what holds while entries are written still holds after one more entry
  pub entries_on : (view : T → Note) (all : List Note)
      → AllByRecursion IsNote (map view (drop i xs)) × (done : List ℕ)
      × Takes adds failed first done mid
      × ((rest : List ℕ) → AreNotes (map view (drop i xs)) rest → AreNotes all (done ++ rest))
      → (text : List ℕ) × AreLinesOf (view x).rows (view x).reply text
      × Takes adds failed mid text after
      → AllByRecursion IsNote (map view (drop (i + 1) xs)) × (done : List ℕ)
      × Takes adds failed first done after
      × ((rest : List ℕ) → AreNotes (map view (drop (i + 1) xs)) rest → AreNotes all (done ++ rest))
  entries_on view all (told, done, takes, so_far) (text, is, takes') = (
    (rw step at told).1,
    done ++ text,
    Takes-then adds failed first mid after done text takes takes',
    λ rest are. subst (AreNotes all) (sym (append_assoc done text rest))
        (so_far (text ++ rest) (rw step (text, rest, is, refl, are))),
  )

-- what holds while rows are written still holds after one more row
pub rows_written : {S : Type 0} (adds : S → List ℕ → S → Type 0) (failed : S → Bool)
    (rows rest behind : List Row) (row : Row) (first mid after : S) → rest ≡ row ∷ behind
    → (done : List ℕ) × Takes adds failed first done mid × (rows_text rows ≡ done ++ rows_text rest)
    → Takes adds failed mid (32 ∷ row_text row) after
    → (done : List ℕ) × Takes adds failed first done after
    × (rows_text rows ≡ done ++ rows_text behind)
rows_written adds failed rows rest behind row first mid after step (done, takes, so_far) takes' = (
  done ++ 32 ∷ row_text row,
  Takes-then adds failed first mid after done (32 ∷ row_text row) takes takes',
  so_far ∙ ap (λ left. done ++ rows_text left) step
      ∙ sym (append_assoc done (32 ∷ row_text row) (rows_text behind)),
)

-- all rows are written
pub rows_done : {S : Type 0} (adds : S → List ℕ → S → Type 0) (failed : S → Bool)
    (rows rest : List Row) (first last : S) → rest ≡ []
    → (done : List ℕ) × Takes adds failed first done last × (rows_text rows ≡ done
    ++ rows_text rest) → Takes adds failed first (rows_text rows) last
rows_done adds failed rows rest first last none (done, takes, so_far) =
    subst (λ text. Takes adds failed first text last)
    (sym (so_far ∙ ap (λ left. done ++ rows_text left) none ∙ append-nil done)) takes

-- what holds while bytes are spelled still holds after one more piece
pub piece_written : (bytes done rest piece after : List ℕ) → encode_lower bytes ≡ done
    ++ encode_lower rest → rest ≡ piece ++ after
    → encode_lower bytes ≡ (done ++ encode_lower piece) ++ encode_lower after
piece_written bytes done rest piece after so_far whole =
    so_far ∙ ap (λ left. done ++ encode_lower left) whole
    ∙ ap (λ text. done ++ text) (encode-append _ piece after)
    ∙ sym (append_assoc done (encode_lower piece) (encode_lower after))

-- three texts, one after the other
pub Takes-three : {S : Type 0} (adds : S → List ℕ → S → Type 0) (failed : S → Bool)
    (first second third last : S) (x y z : List ℕ)
    → Takes adds failed first x second → Takes adds failed second y third
    → Takes adds failed third z last → Takes adds failed first (x ++ (y ++ z)) last
Takes-three adds failed first second third last x y z t u v =
    Takes-then adds failed first second last x (y ++ z) t
    (Takes-then adds failed second third last y z u v)

-- the three parts of a row's text
pub row_joined : (id held max : List ℕ) → ((codes " exp" ++ id) ++ codes ":") ++ (((codes ""
    ++ held) ++ codes ":") ++ ((codes "" ++ max) ++ codes "")) ≡ 32 ∷ ((codes "exp" ++ id)
    ++ (codes ":" ++ (held ++ (codes ":" ++ max))))
row_joined id held max =
    let sizes = append_assoc held (58 ∷ []) (max ++ []) ∙ ap (λ text. held ++ 58 ∷ text)
    (append-nil max) in
    ap (λ text. 32 ∷ 101 ∷ 120 ∷ 112 ∷ text) (append_assoc id (58 ∷ []) ((held ++ 58 ∷ [])
    ++ (max ++ [])) ∙ ap (λ text. id ++ 58 ∷ text) sizes)

-- a list that is found to be empty
pub none_left : {T : Type 0} (bytes : List T) → (length bytes == 0) ≡ true → bytes ≡ []
none_left [] test = refl
none_left (b ∷ bytes) test =
    let none = eqb-true (length (b ∷ bytes)) 0 test in
    absurd (omega (arith, none))

-- all bytes are spelled
pub all_spelled : (bytes done rest : List ℕ) → encode_lower bytes ≡ done ++ encode_lower rest
    → (length rest == 0) ≡ true → done ≡ encode_lower bytes
all_spelled bytes done rest so_far test =
    sym (so_far ∙ ap (λ left. done ++ encode_lower left) (none_left rest test)
    ∙ ap (λ text. done ++ text) (sym no_digits) ∙ append-nil done)

-- the parts of an arrival's line
pub arrival_joined : (id digits : List ℕ) → (((codes "arrive exp" ++ id) ++ codes " ") ++ digits)
    ++ codes "\n" ≡ (codes "arrive " ++ ((codes "exp" ++ id) ++ (codes " " ++ digits))) ++ 10 ∷ []
arrival_joined id digits =
    ap (λ text. (codes "arrive exp" ++ text) ++ 10 ∷ []) (append_assoc id (32 ∷ []) digits)

-- the line of a wait and that of its answer
pub wait_joined : (rows text : List ℕ) → ((codes "wait" ++ rows) ++ codes "\n") ++ text ≡ (codes
    "wait" ++ rows) ++ 10 ∷ text
wait_joined rows text = append_assoc (codes "wait" ++ rows) (10 ∷ []) text
