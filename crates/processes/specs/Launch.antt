-- How a program is started, after its echo; n is the number of acts to spare after the start.
use Rattle.std.specs.Prelude.{ℕ, suc, Bool, true, false, List, [], ◌∷◌, ◌++◌, None, codes, decimal, Result, Ok}
use Rattle.state.specs.Prelude.{Id, Reply, Flaw, bind, Status, Scopes}
use Rattle.acts.specs.Deed as said
use Rattle.acts.specs.Flaw as flaw
use Rattle.acts.specs.Id.{id_text}
use Rattle.choices.specs.Kinds.{Process}
use Rattle.choices.specs.LogState.{goes_out, is_logged}
use Rattle.kinds.specs.Edits.{Binds, OpensId, Skips}
use Rattle.kinds.specs.Exchange.{Exchange, Edits, Opens, Performs, fails, gives, settled, written}
use Rattle.kinds.specs.Variables.{put}
use Rattle.processes.specs.Numbers.{next_id}

-- the name of a program, which is its first word (expect(1), spawn)
abbrev pub name_of : List (List ℕ) → List ℕ
name_of [] = []
name_of (w ∷ ws) = w

-- the variables once an id is in force (expect(1), spawn)
abbrev pub in_force : Id → Scopes → Result Scopes Flaw
in_force i scopes = put (codes "spawn_id") None (id_text i.0) scopes

-- an open id is in force, and a value is given (expect(1), spawn)
abbrev pub enters : {n : ℕ} → List ℕ → Id → Scopes → Result (Exchange n) Flaw
enters value i scopes = bind (in_force i scopes) (λ new. Ok (Edits (Binds new) (gives value)))

-- the id of a process is in force, and the number of the process is given; where the variable is
-- not written the id stays open (expect(1), spawn)
abbrev pub enters_process : {n : ℕ} → ℕ → Id → Status → Exchange n
enters_process pid i s = settled (enters (decimal pid) i s.scopes)

-- the id of a process is open, and in force (expect(1), spawn)
abbrev pub runs : {n : ℕ} → ℕ → Status → Id → Exchange (suc n)
runs pid s i = Opens (OpensId i (Process pid)) (enters_process pid i s)

-- a program was started as the process of a number (expect(1), spawn)
abbrev pub running : {n : ℕ} → ℕ → Status → Exchange (suc n)
running pid s = settled (bind (next_id s) (λ i. Ok (runs pid s i)))

-- what follows an answer to the start of a program (expect(1), spawn)
abbrev pub started : {n : ℕ} → List (List ℕ) → Status → Reply → Exchange (suc n)
started words s (said.Started pid) = running pid s
started words s _ = Edits Skips (fails (flaw.CannotExecute (name_of words)))

-- a program is started (expect(1), spawn)
abbrev pub starts : {n : ℕ} → Id → List (List ℕ) → Exchange (suc (suc n))
starts i words = Performs (said.Spawn i words) tt (started words)

-- the words, each after a blank
abbrev pub after_blanks : List (List ℕ) → List ℕ
after_blanks [] = []
after_blanks (w ∷ ws) = 32 ∷ w ++ after_blanks ws

-- the command as it is echoed (expect(1), spawn)
abbrev pub echo_of : List (List ℕ) → List ℕ
echo_of words = codes "spawn" ++ after_blanks words ++ 10 ∷ []

-- the echo is written to the log, or is not, and the program is started (expect(1), spawn and
-- log_file)
abbrev pub noted : {n : ℕ} → Bool → Id → List (List ℕ) → Exchange (suc (suc (suc n)))
noted true i words =
    Performs (said.Log (echo_of words)) tt (λ s reply. written (starts i words) reply)
noted false i words = starts i words

-- the echo is written to the log if what arrives is written there, and the program is started
-- (expect(1), spawn and log_file)
abbrev pub notes : {n : ℕ} → Id → List (List ℕ) → Status → Exchange (suc (suc (suc n)))
notes i words s = noted (is_logged s.log) i words

-- the echo is written to standard output, or is not, and then to the log, and the program is
-- started (expect(1), spawn and log_user)
abbrev pub shown : Bool → Id → List (List ℕ) → Status → Exchange 4
shown true i words s =
    Performs (said.Out (echo_of words)) tt (λ t reply. written (notes i words t) reply)
shown false i words s = notes i words s

-- a program is started, after its echo where it has one; the echo is written where what arrives is
-- written (expect(1), spawn and log_user)
abbrev pub echoes : Bool → Id → List (List ℕ) → Status → Exchange 4
echoes true i words s = shown (goes_out s.log) i words s
echoes false i words s = starts i words

-- a program is started under the next number (expect(1), spawn)
abbrev pub launches : Bool → List (List ℕ) → Status → Result (Exchange 4) Flaw
launches echo words s = bind (next_id s) (λ i. Ok (echoes echo i words s))
