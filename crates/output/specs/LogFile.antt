-- What log_file does.
use Rattle.std.specs.Prelude.{ℕ, suc, Bool, List, [], ◌∷◌, codes, Option, Some, None, Result, Ok, if◌then◌else◌}
use Rattle.state.specs.Prelude.{Deed, Reply, Flaw, bind, Course, Status}
use Rattle.acts.specs.Deed as said
use Rattle.acts.specs.Flaw as flaw
use Rattle.acts.specs.declared.act.LogMode.{LogMode}
use Rattle.acts.specs.declared.act.LogMode.TheVariants as mode
use Rattle.kinds.specs.Edits.{EndsLog, OpensLog}
use Rattle.kinds.specs.Exchange.{Exchange, Edits, Opens, Performs, gives, fails, course}
use Rattle.kinds.specs.Usage.{after_flag, at_most_one}
use Rattle.output.specs.Request.{Request, request_by, request_of}
use Rattle.output.specs.declared.log_file.Waits.{Waits}
use Rattle.output.specs.declared.log_file.Waits.TheVariants as waits

-- the bytes that the file already has are dropped, or kept (expect(1), log_file)
abbrev pub mode_by : Bool → LogMode
mode_by drops = if drops then mode.Truncate else mode.Append

-- the name after the flags, if there is one (expect(1), log_file)
abbrev pub by_name : Bool → Bool × List (List ℕ) → Result Request Flaw
by_name all (drops, words) =
    bind (at_most_one (codes "-a" ∷ codes "-noappend" ∷ []) (codes "log_file") words) (λ name.
    Ok (request_by all (mode_by drops) name))

-- the words after the first flag, by which the log gets what arrives whatever log_user is
-- (expect(1), log_file)
abbrev pub by_mode : Bool × List (List ℕ) → Result Request Flaw
by_mode (all, words) = by_name all (after_flag (codes "-noappend") words)

-- ?-a? ?-noappend? ?name? (expect(1), log_file)
abbrev pub request : List (List ℕ) → Result Request Flaw
request args = by_mode (after_flag (codes "-a") args)

-- what follows the answer to the opening of a log: the log is open, and gets all or only what is
-- shown, or it cannot be opened (expect(1), log_file)
abbrev pub opened : {n : ℕ} → Bool → List ℕ → Reply → Exchange (suc n)
opened all name said.Done = Opens (OpensLog all) (gives [])
opened all name _ = fails (flaw.CannotOpenLog name)

-- the log of a name is opened, if one is named (expect(1), log_file)
abbrev pub opens_named : {n : ℕ} → Bool → LogMode → Option (List ℕ) → Exchange (suc (suc n))
opens_named all mode (Some name) =
    Performs (said.OpenLog name mode) tt (λ s reply. opened all name reply)
opens_named all mode None = gives []

-- the log that is asked for is opened, if one is (expect(1), log_file)
abbrev pub opens : {n : ℕ} → Request → Exchange (suc (suc n))
opens r = opens_named r.all r.mode r.name

-- a log that is open is closed first (expect(1), log_file)
abbrev pub changes : Request → Status → Exchange 4
changes r s =
    if s.log.logging then Performs said.CloseLog tt (λ t reply. Edits EndsLog (opens r))
    else opens r

-- log_file ?-a? ?-noappend? ?name? (expect(1), log_file)
abbrev pub log_file : List (List ℕ) → Status → Result (Exchange 4) Flaw
log_file args s = bind (request args) (λ r. Ok (changes r s))

-- the name of a log that an act opens
abbrev pub name_opened : Deed → List ℕ
name_opened (said.OpenLog name mode) = name
name_opened _ = []

-- what follows the answer to an act (expect(1), log_file)
abbrev pub follows : {A : Type 0} → Waits A → Deed → Reply → Exchange 3
follows (waits.Closed r) deed reply = Edits EndsLog (opens (request_of r))
follows (waits.Opened all) deed reply = opened all (name_opened deed) reply

-- the same, as a part of a run
abbrev pub next_of : {A : Type 0} → Waits A → Deed → Status → Reply → Course
next_of waits deed s reply = course (follows waits deed reply) s
