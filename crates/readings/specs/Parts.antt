-- What the words of an expect say, one part after another.
use Rattle.std.specs.Prelude.{ℕ, ◌==◌, ◌||◌, Bool, false, List, [], ◌∷◌, ◌++◌, codes, if◌then◌else◌}
use Rattle.std.specs.Str.{bytes_eq}
use Rattle.choices.specs.Branches.{Awaited, FullBuffer, Eof, Timeout, Default}

-- how a text is sought: as a glob, or as it stands (expect(1), -gl and -ex)
pub data Style : Type 0 where
  Glob : Style
  Exact : Style

-- what a branch waits for, as its word says it: a text that is sought, or what a keyword names
-- (expect(1), expect)
pub data Wanted : Type 0 where
  Seeks : (style : Style) → (text : List ℕ) → Wanted
  Names : (keyword : Awaited) → Wanted

-- a part: a list of ids, seconds, a flag of the next branch, a branch with its body; or a flag
-- whose word is missing, -re, a word that is no flag (expect(1), expect)
pub data Part : Type 0 where
  Ids : (list : List ℕ) → Part
  Seconds : (number : List ℕ) → Part
  Stays : Part
  TellsPlaces : Part
  Folds : Part
  Awaits : (wanted : Wanted) → (body : List ℕ) → Part
  Lacks : Part
  Regex : Part
  Bad : (word : List ℕ) → Part

-- what a word is to be, by the words before it: a flag, or what a branch waits for; a list of ids,
-- seconds or a pattern after its flag; a body (expect(1), expect)
pub data Expected : Type 0 where
  AnyWord : Expected
  AList : Expected
  ANumber : Expected
  APattern : (style : Style) → Expected
  ABody : (wanted : Wanted) → Expected

-- what a word says where a flag may stand: a part by itself, or what is to follow (expect(1),
-- expect)
pub data Sign : Type 0 where
  Alone : (part : Part) → Sign
  Leaves : (expected : Expected) → Sign

-- the word begins as flags do (expect(1), expect)
abbrev pub begins_with_dash : List ℕ → Bool
begins_with_dash [] = false
begins_with_dash (b ∷ bs) = b == 45

-- -timeout is no flag of the pairs that stand (expect(1), expect_before)
abbrev pub timeout_sign : Bool → List ℕ → Sign
timeout_sign standing w = if standing then Alone (Bad w) else Leaves ANumber

-- a flag of the next branch; -re is left out, and any other word is no flag (expect(1), expect)
abbrev pub alone_sign : List ℕ → Sign
alone_sign w =
    if bytes_eq w (codes "-notransfer") then Alone Stays
    else if bytes_eq w (codes "-indices") then Alone TellsPlaces
    else if bytes_eq w (codes "-nocase") then Alone Folds
    else if bytes_eq w (codes "-re") || bytes_eq w (codes "-regexp") then Alone Regex
    else Alone (Bad w)

-- a word that begins with a dash (expect(1), expect)
abbrev pub flag_sign : Bool → List ℕ → Sign
flag_sign standing w =
    if bytes_eq w (codes "-i") then Leaves AList
    else if bytes_eq w (codes "-timeout") then timeout_sign standing w
    else if bytes_eq w (codes "-gl") || bytes_eq w (codes "-glob") then Leaves (APattern Glob)
    else if bytes_eq w (codes "-ex") || bytes_eq w (codes "-exact") then Leaves (APattern Exact)
    else alone_sign w

-- any other word: a keyword, `null`, which is left out, or a glob (expect(1), expect)
abbrev pub plain_sign : List ℕ → Sign
plain_sign w =
    if bytes_eq w (codes "eof") then Leaves (ABody (Names Eof))
    else if bytes_eq w (codes "timeout") then Leaves (ABody (Names Timeout))
    else if bytes_eq w (codes "default") then Leaves (ABody (Names Default))
    else if bytes_eq w (codes "full_buffer") then Leaves (ABody (Names FullBuffer))
    else if bytes_eq w (codes "null") then Alone (Bad w)
    else Leaves (ABody (Seeks Glob w))

-- what a word says (expect(1), expect)
abbrev pub sign : Bool → List ℕ → Sign
sign standing w = if begins_with_dash w then flag_sign standing w else plain_sign w

-- the part that a word is by itself, if it is one
abbrev pub alone_part : Sign → List Part
alone_part (Alone part) = part ∷ []
alone_part (Leaves expected) = []

-- what the next word is to be after a word with that sign
abbrev pub expected_by : Sign → Expected
expected_by (Alone part) = AnyWord
expected_by (Leaves expected) = expected

-- the parts of words, the first of which is to be what is expected; `standing` is whether they are
-- words of expect_before or expect_after; a last empty body may be missing (expect(1), expect)
abbrev pub parts_from : Bool → Expected → List (List ℕ) → List Part
parts_from standing AnyWord [] = []
parts_from standing AnyWord (w ∷ ws) =
    alone_part (sign standing w) ++ parts_from standing (expected_by (sign standing w)) ws
parts_from standing AList [] = Lacks ∷ []
parts_from standing AList (list ∷ ws) = Ids list ∷ parts_from standing AnyWord ws
parts_from standing ANumber [] = Lacks ∷ []
parts_from standing ANumber (number ∷ ws) = Seconds number ∷ parts_from standing AnyWord ws
parts_from standing (APattern style) [] = Lacks ∷ []
parts_from standing (APattern style) (text ∷ ws) =
    parts_from standing (ABody (Seeks style text)) ws
parts_from standing (ABody wanted) [] = Awaits wanted [] ∷ []
parts_from standing (ABody wanted) (body ∷ ws) =
    Awaits wanted body ∷ parts_from standing AnyWord ws

-- the parts of all words
abbrev pub parts : Bool → List (List ℕ) → List Part
parts standing ws = parts_from standing AnyWord ws
