-- Records: the text of a list of answers (this project's own format).
use Rattle.std.specs.Prelude.{◌≡◌, ◌≢◌, ◌+◌, ℕ, List, [], ◌∷◌, ◌++◌, length, codes}
use Rattle.acts.specs.Deed.{Reply}
use Rattle.acts.specs.Deed as said
use Rattle.lines.specs.Line.{BeginsWithLine, IsLine, newline}

-- the first line, with its newline
abbrev pub header : List ℕ
header = codes "rx-record 1\n"

-- an answer that a record can state: any but `NoMore`
abbrev pub IsTold : Reply → Type 0
IsTold said.NoMore = ⊥
IsTold _ = Unit {0}

-- one line an answer, each ended by a newline, and nothing after the last
abbrev pub AreLines : List Reply → List ℕ → Type 0
AreLines [] text = text ≡ []
AreLines (reply ∷ replies) text =
    (line rest : List ℕ) × IsLine reply line × (text ≡ line ++ newline ∷ rest)
    × AreLines replies rest

-- the header, and the lines of the answers
abbrev pub IsRecord : List Reply → List ℕ → Type 0
IsRecord replies text = (lines : List ℕ) × (text ≡ header ++ lines) × AreLines replies lines

-- a text that begins with the header line and its newline
abbrev pub HasHeader : List ℕ → Type 0
HasHeader text = (rest : List ℕ) × (text ≡ header ++ rest)

-- the line after `count` lines is the first bad one: after the lines of some answers the text is
-- not at its end, and the rest begins with the line of no answer, or lacks the newline of its line
pub record IsBadAfter (count : ℕ) (lines : List ℕ) : Type 0 where
  pub replies : List Reply
  pub good : List ℕ
  pub bad : List ℕ
  pub whole : lines ≡ good ++ bad
  pub before : AreLines replies good
  pub number : length replies ≡ count
  pub some : bad ≢ []
  pub none : ¬ BeginsWithLine bad

-- line n of a text, counted from 1 with the header, is its first bad one
abbrev pub IsFirstBad : List ℕ → ℕ → Type 0
IsFirstBad text n =
    (count : ℕ) × (lines : List ℕ) × (n ≡ count + 2) × (text ≡ header ++ lines)
    × IsBadAfter count lines
