-- What the file of a record gets of what is put into it (this project's own rule).
use Rattle.std.specs.Prelude.{◌≡◌, ◌-◌, ◌==◌, ◌&&◌, ℕ, Bool, false, not, nat_eq, List, [], ◌∷◌, ◌++◌, length, take, codes, MatchBool}
use Rattle.std.specs.List.{ends_with, list_any, starts_with}
use Rattle.lines.specs.Line.{newline}
use Rattle.records.specs.Sink.{Gets}
use Rattle.recorders.specs.declared.record_file.RecordFile.{RecordFile}

-- a text that ends with a line is a single one, and begins as that of a wait does
abbrev pub is_wait : List ℕ → Bool
is_wait text =
    starts_with nat_eq text (codes "wait")
    && not (list_any (λ b. b == newline) (take (length text - 1) text))

-- an entry ends here: at the end of a line, unless it is that of a wait, whose answer follows
abbrev pub is_whole : List ℕ → Bool
is_whole text = ends_with nat_eq text (newline ∷ []) && not (is_wait text)

-- what was gathered and what is added, joined, is what the file gets and what is gathered then, in
-- order; `adds` says whether a put may lead from one state of the file to another and add bytes
abbrev pub Gathers : {S : Type 0} → (S → List ℕ → S → Type 0) →
    S → (before added after : List ℕ) → S → Type 0
Gathers adds file before added after file' =
    (gone : List ℕ) × Gets adds file gone file' × (before ++ added ≡ gone ++ after)

-- whether a file has failed
abbrev pub has_failed : {S : Type 0} → RecordFile S → Bool
has_failed file = file.failed

-- no whole entry is held back, as long as the file has not failed
abbrev pub IsPrompt : {S : Type 0} → RecordFile S → Type 0
IsPrompt file = file.failed ≡ false → is_whole file.gathered.bytes.items ≡ false

-- these bytes go to the file or are gathered, in order, and no whole entry is held back
abbrev pub Stores : {S : Type 0} → (S → List ℕ → S → Type 0) →
    RecordFile S → List ℕ → RecordFile S → Type 0
Stores adds before bytes after =
    Gathers adds before.file before.gathered.bytes.items bytes after.gathered.bytes.items
    after.file
    × (IsPrompt before → IsPrompt after)

-- the file has got the text, or a beginning of it where it has failed
abbrev pub HasGot : {S : Type 0} → (S → List ℕ → S → Type 0) → S → List ℕ → RecordFile S → Type 0
HasGot adds before text after =
    MatchBool after.failed
    ((front rest : List ℕ) × Gets adds before front after.file × (text ≡ front ++ rest))
    (Gets adds before text after.file)
