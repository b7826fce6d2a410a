-- The statuses of the program, and its lines on standard error (this project's own).
use Rattle.std.specs.Prelude.{ℕ, Bool, true, false, pos, unsigned_abs, List, [], ◌++◌, Option, Some, None, Result, Ok, Err, codes, decimal}
use Rattle.std.specs.Borrow.{Bor}
use Rattle.std.specs.Int.{int_rem_euclid}
use Rattle.memory.specs.declared.NoMemory.{NoMemory as Refusal}
use Rattle.engine.specs.Ends as end
use Rattle.engine.specs.Prelude.{End}
use Rattle.worlds.specs.declared.input.Unread.{Unread}
use Rattle.worlds.specs.declared.input.Unread.TheVariants as unread
use Rattle.records.specs.declared.record.RecordFault.{RecordFault}
use Rattle.records.specs.declared.record.RecordFault.TheVariants as fault
use Rattle.replays.specs.declared.halt.Halt.{Halt}
use Rattle.replays.specs.declared.halt.Halt.TheVariants as halt
use Rattle.worlds.specs.declared.status.Outcome.{Outcome}
use Rattle.worlds.specs.declared.status.Outcome.TheVariants.{Exit, ScriptError, Usage, CannotOpen, Limit, OutputFailed, UnfitAnswer, NoMoreAnswers, WaitDiffers, BadRecord, NoMemory}

-- the end of a run, or the refusal of memory
abbrev pub run_outcome : {A : Type 0} → Result (End A) Refusal → Outcome
run_outcome (Ok (end.Exit number)) = Exit number
run_outcome (Ok (end.Error text)) = ScriptError
run_outcome (Ok end.Limit) = Limit
run_outcome (Ok end.WriterFailed) = OutputFailed
run_outcome (Ok (end.BadAnswer number)) = UnfitAnswer number
run_outcome (Ok end.NoMore) = NoMoreAnswers
run_outcome (Err refusal) = NoMemory refusal

-- how a run ended: a writer that has failed decides, whatever else ended the run, and else the act
-- of this number, if there is one, which differed from the wait of its record
abbrev pub end_outcome : {A : Type 0} → Bool → Option ℕ → Result (End A) Refusal → Outcome
end_outcome true differs ended = OutputFailed
end_outcome false (Some number) ended = WaitDiffers number
end_outcome false None ended = run_outcome ended

-- the same where the record of this name was read as the run went on, and for this reason there
-- were no more answers, though entries were left
abbrev pub reel_outcome : {A : Type 0} → Bool → Bor (List ℕ) → Option Halt →
    Result (End A) Refusal → Outcome
reel_outcome true name halt ended = OutputFailed
reel_outcome false name (Some (halt.Differs number)) ended = WaitDiffers number
reel_outcome false name (Some halt.Unread) ended = CannotOpen name
reel_outcome false name (Some (halt.NoMemory refusal)) ended = NoMemory refusal
reel_outcome false name None ended = run_outcome ended

-- a file of this name that was not read
abbrev pub file_outcome : Bor (List ℕ) → Unread → Outcome
file_outcome name unread.Refused = CannotOpen name
file_outcome name (unread.NoMemory refusal) = NoMemory refusal

-- the words of a call that were not read
abbrev pub words_outcome : Unread → Outcome
words_outcome unread.Refused = Usage
words_outcome (unread.NoMemory refusal) = NoMemory refusal

-- a record of this name that was not read: a missing header is its line 1
abbrev pub fault_outcome : Bor (List ℕ) → RecordFault → Outcome
fault_outcome name fault.Header = BadRecord name 1
fault_outcome name (fault.Line line) = BadRecord name line
fault_outcome name (fault.NoMemory refusal) = NoMemory refusal

-- the number of `exit` modulo 256, and for each other end the number of its kind
abbrev pub status_of : Outcome → ℕ
status_of (Exit number) = unsigned_abs (int_rem_euclid number (pos 256))
status_of ScriptError = 1
status_of Usage = 2
status_of (CannotOpen name) = 2
status_of Limit = 3
status_of OutputFailed = 4
status_of (UnfitAnswer number) = 5
status_of NoMoreAnswers = 5
status_of (WaitDiffers number) = 5
status_of (BadRecord name line) = 5
status_of (NoMemory refusal) = 6

-- the line of an end with its newline, and nothing where the end has no line
abbrev pub line_of : Outcome → List ℕ
line_of (Exit number) = []
line_of ScriptError = []
line_of Usage =
    codes "usage: rx [-c cmds]... [--replay F] [--record G] [--limit N] [[-f] file [args]]\n"
line_of (CannotOpen name) = codes "rx: cannot open " ++ name.now ++ codes "\n"
line_of Limit = codes "rx: command limit reached\n"
line_of OutputFailed = codes "rx: output failed\n"
line_of (UnfitAnswer number) = codes "rx: answer " ++ decimal number ++ codes " does not fit\n"
line_of NoMoreAnswers = codes "rx: no more answers\n"
line_of (WaitDiffers number) = codes "rx: wait differs at answer " ++ decimal number ++ codes "\n"
line_of (BadRecord name line) =
    codes "rx: bad record " ++ name.now ++ codes " at line " ++ decimal line ++ codes "\n"
line_of (NoMemory refusal) = codes "rx: no memory\n"
