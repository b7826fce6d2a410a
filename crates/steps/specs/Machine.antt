-- What one instruction does, on texts and numbers alone.
use Rattle.std.specs.Prelude.{true, false, codes, ℕ, zero, suc, ◌+◌, ◌-◌, List, [], ◌∷◌, ◌++◌, Option, Some, None, Result, Ok, Err, reverse, take, drop, length, nat_le, if◌then◌else◌}
use Rattle.acts.specs.Flaw as flaw
use Rattle.code.specs.declared.instruction.Instruction.{Instruction}
use Rattle.code.specs.declared.instruction.Instruction.TheVariants as i
use Rattle.meanings.specs.Meaning.{flaw_of_list}
use Rattle.pure.specs.Pure.{named, says}
use Rattle.pure.specs.declared.command.Pure.{Pure}
use Rattle.state.specs.Prelude.{Gives, Status}
use Rattle.state.specs.Faults.{flaw_of_fault}
use Rattle.state.specs.Piece.{ListText}
use Rattle.state.specs.Variables.{flaw_of_trouble, spelled}
use Rattle.steps.specs.Catch.{catching, ending_catch, keeping}
use Rattle.steps.specs.Direct as direct
use Rattle.steps.specs.Foreach.{assigning, dealing, finishing, hidden, looking}
use Rattle.steps.specs.Formulas.{calling, choosing, gives, joining_both, prefixing, putting, resulting, telling, unless}
use Rattle.steps.specs.Handling.{fails}
use Rattle.steps.specs.Loops.{ending, stepping, turned, turning}
use Rattle.steps.specs.Moves.{jumping, lowest, on_top, ticked, with_operands}
use Rattle.steps.specs.Switch as switch
use Rattle.steps.specs.Spot.{Spot, Did, Went, Reads, Begins, Says, Runs, Evaluates, Over, Stuck, with_top}
use Rattle.tclparse.specs.Seen.{fault_of}
use Rattle.tclstate.specs.Pairs.{found}
use Rattle.tclstate.specs.Procs.{Procedure, Procs}
use Rattle.tclstate.specs.Scopes.{Trouble, read}
use Rattle.tcltext.specs.Flaw as list

-- goes on with the value of a variable, or fails with the error that it could not be read (set(n))
abbrev pub with_value : Result (List ℕ) Trouble → List ℕ → Spot → Status → (List ℕ → Did) → Did
with_value (Ok value) name spot s next = next value
with_value (Err trouble) name spot s next = fails (flaw_of_trouble trouble name) spot s

-- the value on top is dropped, and a tick is taken (Tcl(n), rule 1)
abbrev pub ticking : Spot → Status → Did
ticking spot s =
    on_top spot.operands (λ value below.
    ticked s.left s (λ t. Went (with_operands below spot) t))

-- the value of a variable, or of an element, is put on top (Tcl(n), rule 8)
abbrev pub reading : List ℕ → Option (List ℕ) → Spot → Status → Did
reading name index spot s =
    with_value (read s.scopes name index) (spelled name index) spot s
    (λ value. Went (with_top value spot) s)

-- the value of the element at the index on top is put in its place (Tcl(n), rule 8)
abbrev pub indexing : List ℕ → Spot → Status → Did
indexing name spot s =
    on_top spot.operands (λ index below. reading name (Some index) (with_operands below spot) s)

-- the value on top is put after the one below it (Tcl(n), rule 11)
abbrev pub joining : Spot → Status → Did
joining spot s =
    on_top spot.operands (λ value more. on_top more (λ bytes below.
    Went (with_operands ((bytes ++ value) ∷ below) spot) s))

-- a script in brackets begins, where a level is left (Tcl(n), rule 7; interp(n), recursionlimit)
abbrev pub entering : ℕ → Spot → Status → Did
entering zero spot s = fails flaw.TooManyNested spot s
entering (suc levels) spot s = Went (record (with_top [] spot) { levels = levels }) s

-- the script of a text runs, where a level is left (Tcl(n), rule 7; interp(n), recursionlimit)
abbrev pub running : ℕ → List ℕ → Spot → Status → Did
running zero text spot s = fails flaw.TooManyNested spot s
running (suc levels) text spot s = Runs text levels spot s

-- a script in brackets is over; levels are counted up to 255 (this project's own rule)
abbrev pub leaving : Spot → Status → Did
leaving spot s =
    if nat_le 255 spot.levels then Stuck
    else Went (record spot { levels = suc spot.levels }) s

-- from here on words are counted; n of them stand there already (Tcl(n), rule 5)
abbrev pub counting : ℕ → Spot → Status → Did
counting n spot s =
    Went (record spot { marks = (length spot.operands - n) ∷ spot.marks }) s

-- the elements of a list are put on top, or the text is no list (Tcl(n), rule 5)
abbrev pub spread : Spot → Status → Result (List (List ℕ)) list.Flaw → Did
spread spot s (Ok elements) = Went (with_operands (reverse elements ++ spot.operands) spot) s
spread spot s (Err why) = fails (flaw_of_list why) spot s

-- the text on top is read as a list (Tcl(n), rule 5)
abbrev pub spreading : Spot → Status → Did
spreading spot s =
    on_top spot.operands (λ text below. Reads (ListText text) (spread (with_operands below spot) s))

-- what is done with all operands above the lowest ones, which are this many, as words (this
-- project's own rule)
abbrev pub with_words : (List (List ℕ) → Spot → Did) → ℕ → Spot → Did
with_words begins below spot =
    let all = reverse spot.operands in
    if nat_le below (length spot.operands)
    then begins (drop below all) (with_operands (reverse (take below all)) spot)
    else Stuck

-- a command begins, whose words are all operands above the lowest ones, which are this many
-- (Tcl(n), rule 2)
abbrev pub beginning : ℕ → Spot → Status → Did
beginning below spot s = with_words (λ words at. Begins words at s) below spot

-- a command begins, whose words were counted (Tcl(n), rule 2)
abbrev pub beginning_counted : Spot → Status → Did
beginning_counted spot s =
    on_top spot.marks (λ below marks. beginning below (record spot { marks = marks }) s)

-- branches are given by all operands above the lowest ones, which are this many: the name of a
-- command, and the words of an argument in braces of it (expect(1), expect)
abbrev pub saying : ℕ → Spot → Status → Did
saying below spot s = with_words (λ words at. Says words at s) below spot

-- the same, where the words were counted (expect(1), expect)
abbrev pub saying_counted : Spot → Status → Did
saying_counted spot s =
    on_top spot.marks (λ below marks. saying below (record spot { marks = marks }) s)

-- the function that a command of this name is, where no procedure hides it (proc(n))
abbrev pub unless_hidden : Option Procedure → Option Pure → Option Pure
unless_hidden None function = function
unless_hidden (Some procedure) function = None

-- the function of its words that a command is, of which the first is its name (Tcl(n), rule 2)
abbrev pub function_in : List (List ℕ) → Procs → Option Pure
function_in [] procedures = None
function_in (name ∷ args) procedures = unless_hidden (found procedures name) (named name)

-- the value of a function of the words after its name takes the place of all words, which stand
-- above so many operands; a command that is no function begins (Tcl(n), rule 2)
abbrev pub performing : Option Pure → List (List ℕ) → ℕ → Spot → Status → Did
performing (Some function) words below spot s =
    gives (says function (drop 1 words)) (with_operands (lowest below spot.operands) spot) s
performing None words below spot s = beginning below spot s

-- a command, whose words are all operands above the lowest ones, which are this many: where it is a
-- function of its words it is over, else it begins (Tcl(n), rule 2)
abbrev pub starting : ℕ → Spot → Status → Did
starting below spot s =
    let words = drop below (reverse spot.operands) in
    performing (function_in words s.procedures) words below spot s

-- where no procedure hides a command, this place is next (proc(n))
abbrev pub unhidden : Option Procedure → ℕ → Spot → Status → Did
unhidden None place spot s = jumping place spot s
unhidden (Some procedure) place spot s = Went spot s

-- the value on top is dropped (for(n))
abbrev pub discarding : Spot → Status → Did
discarding spot s = on_top spot.operands (λ value below. Went (with_operands below spot) s)

-- what an instruction does, where the next place is at hand
abbrev pub does : {A : Type 0} → Instruction A → Spot → Status → Did
does (i.Next from_end) spot s = ticking spot s
does (i.Text bytes) spot s = Went (with_top bytes spot) s
does (i.Variable name) spot s = reading name None spot s
does (i.Element name) spot s = indexing name spot s
does i.Join spot s = joining spot s
does i.Enter spot s = entering spot.levels spot s
does (i.Body after) spot s = entering spot.levels spot s
does i.Leave spot s = leaving spot s
does (i.Run text after) spot s = running spot.levels text spot s
does (i.Count n) spot s = counting n spot s
does i.Spread spot s = spreading spot s
does (i.Command n) spot s = starting (length spot.operands - n) spot s
does i.Counted spot s = beginning_counted spot s
does i.Say spot s = saying_counted spot s
does (i.Fault fault) spot s = fails (flaw_of_fault (fault_of fault)) spot s
does (i.Numeral digits) spot s = putting digits spot s
does (i.Prefix operator) spot s = prefixing operator spot s
does (i.Binary operator) spot s = joining_both operator spot s
does (i.Call function n) spot s = calling function (length spot.operands - n) spot s
does (i.AndAlso place) spot s = choosing place false spot s
does (i.OrElse place) spot s = choosing place true spot s
does i.Truth spot s = telling spot s
does (i.Evaluate text) spot s = Evaluates text spot s
does i.Result spot s = resulting spot s
does (i.Unless place) spot s = unless place spot s
does (i.Jump place) spot s = jumping place spot s
does (i.Unhidden name place) spot s = unhidden (found s.procedures name) place spot s
does (i.Turn body end) spot s = turning body end spot s
does i.Step spot s = stepping spot s
does i.EndTurn spot s = ending spot s
does i.Discard spot s = discarding spot s
does (i.Foreach variables body place) spot s =
    hidden (found s.procedures (codes "foreach")) variables body place spot s
does (i.Deal place) spot s = dealing place spot s
does (i.More place) spot s = looking place spot s
does (i.Assign name) spot s = assigning name spot s
does (i.Begin body end) spot s = turned body end true spot s
does i.Done spot s = finishing spot s
does (i.Switch options after place) spot s =
    switch.hidden (found s.procedures (codes "switch")) options after.items place spot s
does (i.Equals pattern taken other) spot s = switch.comparing pattern taken other spot s
does (i.Matches pattern taken other) spot s = switch.matching pattern taken other spot s
does (i.Catch place) spot s = catching place spot s
does i.EndCatch spot s = ending_catch spot s
does (i.Store name) spot s = keeping name spot s
does (i.Set name) spot s = direct.setting (found s.procedures (codes "set")) name spot s
does (i.Append name) spot s =
    direct.appending (found s.procedures (codes "append")) name spot s
does (i.Add name) spot s = direct.adding (found s.procedures (codes "incr")) name spot s
does i.Increment spot s = direct.incrementing (found s.procedures (codes "incr")) spot s
does i.Return spot s = direct.returning (found s.procedures (codes "return")) spot s
does i.Hole spot s = Stuck

-- the next place
abbrev pub ahead : Spot → Spot
ahead spot = record spot { place = spot.place + 1 }

-- what the instruction at a place does; after the last one the value on top is the outcome
abbrev pub machine : {A : Type 0} → Option (Instruction A) → Spot → Status → Did
machine None spot s = on_top spot.operands (λ value below. Over (Gives value) s)
machine (Some it) spot s = does it (ahead spot) s
