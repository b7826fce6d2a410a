-- How a story tells acts and answers (this project's own).
use Rattle.std.specs.Prelude.{◌≡◌, ℕ, ◌==◌, ◌&&◌, not, Bool, true, false, List, [], ◌∷◌, ◌++◌, length, Option, Some, None, MatchBool, codes, decimal, if◌then◌else◌}
use Rattle.acts.specs.declared.row.Row.{Row}
use Rattle.acts.specs.declared.act.Timer.{Timer}
use Rattle.acts.specs.declared.act.Timer.TheVariants.{Start, Running, Endless}
use Rattle.acts.specs.declared.act.LogMode.{LogMode}
use Rattle.acts.specs.declared.act.LogMode.TheVariants.{Append, Truncate}
use Rattle.acts.specs.Deed.{Deed, Out, Err, Log, Send, Spawn, Connect, OpenLog, Close, Sleep, CloseLog, Reap, Wait}
use Rattle.acts.specs.Deed.{Reply, Done, Failed, Started, Refused, Exited, Arrive, Ended, TimedOut, NoMore}
use Rattle.acts.specs.Id.{id_text}
use Rattle.story.specs.Line.{line}
use Rattle.story.specs.Spelling.{shortened}
use Rattle.teller.specs.declared.wait.Over.{Over}
use Rattle.teller.specs.declared.wait.Over.TheVariants.{End, Time, Full}

-- a text, of a long one its beginning and its end
abbrev pub shown : List ℕ → List ℕ
shown text = shortened 120 text

-- how many bytes a text has, and the text
abbrev pub sized : List ℕ → List ℕ
sized text =
    decimal (length text)
    ++ ((if length text == 1 then codes " byte  " else codes " bytes  ") ++ shown text)

-- what becomes of the log that is opened
abbrev pub opening : LogMode → List ℕ
opening Append = codes "appends to "
opening Truncate = codes "begins anew "

-- how long a wait may last
abbrev pub lasting : Timer → List ℕ
lasting (Start seconds) = codes ", " ++ (decimal seconds ++ codes " s")
lasting Running = codes ", the time runs on"
lasting Endless = codes ", without end"

-- an id that is waited for, and how much its buffer holds
abbrev pub buffer : Row → List ℕ
buffer row =
    id_text row.id.0
    ++ (codes " (" ++ (decimal row.held ++ (codes " of " ++ (decimal row.max ++ codes " bytes)"))))

-- these ids, with a comma before each but the very first
abbrev pub buffers : (first : Bool) → List Row → List ℕ
buffers first [] = []
buffers first (row ∷ rows) =
    (if first then [] else codes ", ") ++ (buffer row ++ buffers false rows)

-- what an act is about
abbrev pub about : Deed → List ℕ
about (Out bytes) = codes "prints " ++ sized bytes
about (Err bytes) = codes "prints to standard error " ++ sized bytes
about (Log bytes) = codes "logs " ++ sized bytes
about (Send id bytes) = id_text id.0 ++ (codes ", " ++ sized bytes)
about (Spawn id words) = id_text id.0
about (Connect id host port) =
    id_text id.0 ++ (codes ", host " ++ (shown host ++ (codes ", port " ++ decimal port)))
about (OpenLog name mode) = opening mode ++ shown name
about (Close id) = codes "closes " ++ id_text id.0
about (Sleep seconds) = decimal seconds ++ codes " s"
about CloseLog = codes "closes the log"
about (Reap id) = id_text id.0
about (Wait rows timer) = codes "waits for " ++ (buffers true rows ++ lasting timer)

-- what an answer says of an act beside that it is done
abbrev pub outcome : Reply → List ℕ
outcome Done = []
outcome (Failed sent) = codes ", failed after " ++ (decimal sent ++ codes " bytes")
outcome (Started pid) = codes ", process " ++ decimal pid
outcome Refused = codes ", refused"
outcome (Exited (Some status)) = codes ", status " ++ decimal status
outcome (Exited None) = codes ", ended by a signal"
outcome (Arrive id bytes) = []
outcome (Ended id) = []
outcome TimedOut = []
outcome NoMore = codes ", and the world has no more answers"

-- how a wait is over
abbrev pub over_text : Option Over → List ℕ
over_text (Some Time) = codes "time is over"
over_text (Some (End id)) = id_text id.0 ++ codes " is at its end"
over_text (Some (Full id)) = id_text id.0 ++ codes " fills its buffer"
over_text None = codes "it is over"

-- the line of an answer to a wait; of an end and of a time that is over it says besides which
-- branch is chosen for it
abbrev pub IsHeard : Reply → List ℕ → Type 0
IsHeard (Arrive id bytes) text = text ≡ line [] (id_text id.0 ++ codes " says") (sized bytes)
IsHeard (Ended id) text = (branch : List ℕ) × (text ≡ line [] (over_text (Some (End id))) branch)
IsHeard TimedOut text = (branch : List ℕ) × (text ≡ line [] (over_text (Some Time)) branch)
IsHeard NoMore text = text ≡ line [] (codes "the world has no more answers") []
IsHeard reply text = text ≡ line [] (codes "no answer to a wait") []

-- an act is a wait
abbrev pub is_wait : Deed → Bool
is_wait (Wait rows timer) = true
is_wait deed = false

-- the line of an act that is no wait, with its answer: where the command stands that asked for it
-- and how it is written, what the act is about and what has come of it
abbrev pub IsDone : Deed → Reply → List ℕ → Type 0
IsDone deed reply text =
    (place command : List ℕ) × (text ≡ line place command (about deed ++ outcome reply))

-- the line of an act with its answer: of a wait the answer
abbrev pub IsLineOf : Deed → Reply → List ℕ → Type 0
IsLineOf deed reply text = MatchBool (is_wait deed) (IsHeard reply text) (IsDone deed reply text)

-- an act that is also done where no command asks for it: what has come is shown and logged, and at
-- the end an error is reported and what is open is closed (expect(1), log_user, log_file and exit)
abbrev pub may_be_unasked : Deed → Bool
may_be_unasked (Out bytes) = true
may_be_unasked (Err bytes) = true
may_be_unasked (Log bytes) = true
may_be_unasked (Close id) = true
may_be_unasked CloseLog = true
may_be_unasked deed = false

-- an act is told by its line, but for one that no command asked for, of which nothing is told
abbrev pub IsTold : (asked : Bool) → Deed → Reply → List ℕ → Type 0
IsTold asked deed reply text =
    MatchBool (may_be_unasked deed && not asked) (text ≡ []) (IsLineOf deed reply text)
