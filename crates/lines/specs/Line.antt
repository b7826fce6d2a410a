-- The lines of records: the text of one answer (this project's own format).
use Rattle.std.specs.Prelude.{◌≡◌, ◌^◌, ◌<◌, ◌≤◌, ◌&&◌, ◌||◌, nat_le, ℕ, Bool, List, [], ◌∷◌, ◌++◌, Some, None, codes, decimal}
use Rattle.acts.specs.Deed.{Reply}
use Rattle.acts.specs.Deed as said
use Rattle.acts.specs.Fits.{greatest_status}
use Rattle.acts.specs.Id.{id_text}
use Rattle.hex.specs.Hex.{IsBytes, encode_lower}

-- the byte at the end of each line
abbrev pub newline : ℕ
newline = 10

-- what follows the word in the line of an arrival
abbrev pub arrival_text : ℕ → List ℕ → List ℕ
arrival_text n bytes = id_text n ++ (codes " " ++ encode_lower bytes)

-- the line of an answer, without its newline; `NoMore` has none
abbrev pub IsLine : Reply → List ℕ → Type 0
IsLine said.Done line = line ≡ codes "done"
IsLine (said.Failed sent) line = (sent < 2 ^ 64) × (line ≡ codes "failed " ++ decimal sent)
IsLine (said.Started pid) line = (pid < 2 ^ 64) × (line ≡ codes "started " ++ decimal pid)
IsLine said.Refused line = line ≡ codes "refused"
IsLine (said.Exited None) line = line ≡ codes "exited -"
IsLine (said.Exited (Some status)) line =
    (status ≤ greatest_status) × (line ≡ codes "exited " ++ decimal status)
IsLine (said.Arrive id bytes) line =
    (id.0 < 2 ^ 64) × IsBytes bytes
    × (line ≡ codes "arrive " ++ (id_text id.0 ++ (codes " " ++ encode_lower bytes)))
IsLine (said.Ended id) line = (id.0 < 2 ^ 64) × (line ≡ codes "ended " ++ id_text id.0)
IsLine said.TimedOut line = line ≡ codes "timeout"
IsLine said.NoMore line = ⊥

-- the line of an answer, with its newline
abbrev pub IsWholeLine : Reply → List ℕ → Type 0
IsWholeLine reply text = (line : List ℕ) × IsLine reply line × (text ≡ line ++ newline ∷ [])

-- an arrival
abbrev pub IsArrival : Reply → Type 0
IsArrival (said.Arrive id bytes) = Unit {0}
IsArrival _ = ⊥

-- an answer that has a line
abbrev pub HasLine : Reply → Type 0
HasLine reply = (line : List ℕ) × IsLine reply line

-- `0` to `9`, or `a` to `f`
abbrev pub is_lower_digit : ℕ → Bool
is_lower_digit b = (nat_le 48 b && nat_le b 57) || (nat_le 97 b && nat_le b 102)

-- a text that begins with the line of an answer and its newline
abbrev pub BeginsWithLine : List ℕ → Type 0
BeginsWithLine text =
    (reply : Reply) × (line rest : List ℕ) × IsLine reply line × (text ≡ line ++ newline ∷ rest)
