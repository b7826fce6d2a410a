-- What a call puts after the code that stands there already.
use Rattle.std.specs.Prelude.{⊤, ◌≡◌, ℕ, ◌+◌, Bool, true, false, List, Option, length}
use Rattle.code.specs.Branches.{Branch}
use Rattle.code.specs.Code.{At, JoinsAt, PartsAt, WordsAt, CommandAt, CommandsAt, ScriptAt, BranchesAt, BodyAt, ExpressionAt, OwnAt, TurnsAt, StepAt, AssignsAt, NextAt, DealAt, ForeachAt, RestAt, ArmsAt, SwitchAt, FormulaAt, LinksAt, ArgumentsAt, TakenAt}
use Rattle.code.specs.declared.instruction.Instruction.{Instruction}
use Rattle.code.specs.declared.instruction.Instruction.TheVariants as i
use Rattle.code.specs.declared.options.Options.{Options}
use Rattle.tclparse.specs.Fault.{Fault}
use Rattle.tclparse.specs.Formula.{Formula, Formulas, Links}
use Rattle.tclparse.specs.Tree.{Parts, Words, no_words, Commands}

-- what stood there stands there still
pub record Extends {A : Type 0} (old new : List (Instruction A)) : Type 0 where
  pub kept : (place : ℕ) (it : Instruction A) → At old place it → At new place it

-- an instruction that stands for good, and not for one that is still to be put there
abbrev pub IsReal : {A : Type 0} → Instruction A → Type 0
IsReal i.Hole = ⊥
IsReal _ = ⊤

-- what stood there stands there still, but for places that were not filled yet
pub record Keeps {A : Type 0} (old new : List (Instruction A)) : Type 0 where
  pub kept : (place : ℕ) (it : Instruction A) → IsReal it → At old place it → At new place it

-- a block of code was put, which is the code of a tree in all code that comes of this
pub record Block {A : Type 0} (old new : List (Instruction A))
    (Lies : List (Instruction A) → Type 0) : Type 0 where
  pub extends : Extends old new
  pub lies : (later : List (Instruction A)) → Keeps new later → Lies later

-- the value of a part that stands before other parts
abbrev pub ValueBlock : {A : Type 0} → List (Instruction A) → List (Instruction A) →
    (Parts → Parts) → Type 0
ValueBlock old new front = Block old new (λ later.
    (more : Bool) (mid : ℕ) (t : Parts) (end : ℕ) → JoinsAt later more (length new) mid →
    PartsAt later true mid t end → PartsAt later more (length old) (front t) end)

-- all parts of a word
abbrev pub PartsBlock : {A : Type 0} → List (Instruction A) → List (Instruction A) → Parts → Type 0
PartsBlock old new ps = Block old new (λ later. PartsAt later false (length old) ps (length new))

-- a word of a command, or of an argument in braces, before which this many words stand, that stands
-- before other words; whether words are counted before it, and after it
abbrev pub WordBlock : {A : Type 0} → Bool → Bool → ℕ → List (Instruction A) →
    List (Instruction A) → (Words → Words) → Type 0
WordBlock counted counting count old new front = Block old new (λ later.
    (braced : Bool) (t : Words) (end : ℕ) →
    WordsAt later braced counting (count + 1) (length new) t end →
    WordsAt later braced counted count (length old) (front t) end)

-- all words, without what they begin; whether they are counted before the first one, and after the
-- last one, which is the one of this number
abbrev pub ValuesBlock : {A : Type 0} → Bool → Bool → ℕ → List (Instruction A) →
    List (Instruction A) → Words → Type 0
ValuesBlock counted counting count old new ws = Block old new (λ later.
    (braced : Bool) (end : ℕ) → WordsAt later braced counting count (length new) no_words end →
    WordsAt later braced counted 0 (length old) ws end)

-- all words of a command
abbrev pub WordsBlock : {A : Type 0} → List (Instruction A) → List (Instruction A) → Words → Type 0
WordsBlock old new ws = Block old new (λ later.
    WordsAt later false false 0 (length old) ws (length new))

-- all words of an argument in braces, after the name of its command
abbrev pub ArgumentBlock : {A : Type 0} → List (Instruction A) → List (Instruction A) → Words →
    Type 0
ArgumentBlock old new ws = Block old new (λ later.
    WordsAt later true false 1 (length old) ws (length new))

-- the code that a command has of its own, where it has any; else nothing was put
abbrev pub OwnBlock : {A : Type 0} → Bool → List (Instruction A) → List (Instruction A) → Words →
    Type 0
OwnBlock false old new ws = new ≡ old
OwnBlock true old new ws = Block old new (λ later. CommandAt later (length old) ws (length new))

-- a command, which begins with its tick
abbrev pub CommandBlock : {A : Type 0} → List (Instruction A) → List (Instruction A) → Words →
    Type 0
CommandBlock old new ws = Block old new (λ later. (from_end : ℕ) ×
    At later (length old) (i.Next from_end) × CommandAt later (length old + 1) ws (length new))

-- commands one after the other
abbrev pub CommandsBlock : {A : Type 0} → List (Instruction A) → List (Instruction A) → Commands →
    Type 0
CommandsBlock old new cs = Block old new (λ later. CommandsAt later (length old) cs (length new))

-- a script
abbrev pub ScriptBlock : {A : Type 0} → List (Instruction A) → List (Instruction A) → Commands →
    Option Fault → Type 0
ScriptBlock old new cs f = Block old new (λ later.
    ScriptAt later (length old) cs f (length new))

-- branches, and the last body, if there is one
abbrev pub BranchesBlock : {A : Type 0} → List (Instruction A) → List (Instruction A) →
    List Branch → Option (List ℕ) → Type 0
BranchesBlock old new tests otherwise = Block old new (λ later.
    BranchesAt later (length old) tests otherwise (length new))

-- a body
abbrev pub BodyBlock : {A : Type 0} → List (Instruction A) → List (Instruction A) → List ℕ →
    Type 0
BodyBlock old new text = Block old new (λ later. BodyAt later (length old) text (length new))

-- a text whose value as a formula is put on top
abbrev pub ExpressionBlock : {A : Type 0} → List (Instruction A) → List (Instruction A) →
    List ℕ → Type 0
ExpressionBlock old new text = Block old new (λ later.
    ExpressionAt later (length old) text (length new))

-- what the command of this name does with the words after it
abbrev pub ItsBlock : {A : Type 0} → List ℕ → List (Instruction A) → List (Instruction A) →
    List (List ℕ) → Type 0
ItsBlock name old new args = Block old new (λ later.
    OwnAt later name (length old) args (length new))

-- the turns of a loop with this test, this script after each turn, if there is one, and this body
abbrev pub TurnsBlock : {A : Type 0} → List (Instruction A) → List (Instruction A) → List ℕ →
    Option (List ℕ) → List ℕ → Type 0
TurnsBlock old new test step body = Block old new (λ later.
    TurnsAt later (length old) test step body (length new))

-- what stands after the body of a turn
abbrev pub StepBlock : {A : Type 0} → List (Instruction A) → List (Instruction A) →
    Option (List ℕ) → Type 0
StepBlock old new step = Block old new (λ later. StepAt later (length old) step (length new))

-- what is done with the value that the script of a catch ended with
abbrev pub TakenBlock : {A : Type 0} → List (Instruction A) → List (Instruction A) →
    Option (List ℕ) → Type 0
TakenBlock old new variable = Block old new (λ later.
    TakenAt later (length old) variable (length new))

-- variables that take an element each
abbrev pub AssignsBlock : {A : Type 0} → List (Instruction A) → List (Instruction A) →
    List (List ℕ) → Type 0
AssignsBlock old new names = Block old new (λ later.
    AssignsAt later (length old) names (length new))

-- the next turn of foreach with these variables, whose body stands at this place and ends at that
abbrev pub NextBlock : {A : Type 0} → List (Instruction A) → List (Instruction A) →
    List (List ℕ) → ℕ → ℕ → Type 0
NextBlock old new names body ends = Block old new (λ later.
    NextAt later (length old) names body ends (length new))

-- the turns of foreach with these variables and this body
abbrev pub DealBlock : {A : Type 0} → List (Instruction A) → List (Instruction A) →
    List (List ℕ) → List ℕ → Type 0
DealBlock old new names body = Block old new (λ later.
    DealAt later (length old) names body (length new))

-- foreach with these variables and this body, after the value of its list
abbrev pub ForeachBlock : {A : Type 0} → List (Instruction A) → List (Instruction A) → List ℕ →
    List ℕ → Type 0
ForeachBlock old new variables body = Block old new (λ later.
    ForeachAt later (length old) variables body (length new))

-- a body that runs once the string of a switch is dropped
abbrev pub ChosenBlock : {A : Type 0} → List (Instruction A) → List (Instruction A) → List ℕ →
    Type 0
ChosenBlock old new body = Block old new (λ later.
    At later (length old) i.Discard × BodyAt later (length old + 1) body (length new))

-- patterns of a switch with their bodies, of which the first one stands at this place
abbrev pub ArmsBlock : {A : Type 0} → Bool → ℕ → List (Instruction A) → List (Instruction A) →
    List (List ℕ) → Type 0
ArmsBlock globs taken old new arms = Block old new (λ later.
    ArmsAt later globs (length old) taken arms (length new))

-- the patterns of a switch that are left, with their bodies
abbrev pub RestBlock : {A : Type 0} → Bool → List (Instruction A) → List (Instruction A) →
    List (List ℕ) → Type 0
RestBlock globs old new arms = Block old new (λ later.
    RestAt later globs (length old) arms (length new))

-- switch with these options and these words after its string, once that is on top
abbrev pub SwitchBlock : {A : Type 0} → List (Instruction A) → List (Instruction A) → Options →
    List (List ℕ) → Type 0
SwitchBlock old new options after = Block old new (λ later.
    SwitchAt later (length old) options after (length new))

-- a formula
abbrev pub FormulaBlock : {A : Type 0} → List (Instruction A) → List (Instruction A) → Formula →
    Type 0
FormulaBlock old new f = Block old new (λ later. FormulaAt later (length old) f (length new))

-- arguments of a function, this many
abbrev pub ArgumentsBlock : {A : Type 0} → List (Instruction A) → List (Instruction A) → Formulas →
    ℕ → Type 0
ArgumentsBlock old new fs count = Block old new (λ later.
    ArgumentsAt later (length old) fs count (length new))

-- operators in a row
abbrev pub LinksBlock : {A : Type 0} → List (Instruction A) → List (Instruction A) → Links →
    Type 0
LinksBlock old new ls = Block old new (λ later. LinksAt later (length old) ls (length new))

-- one operator before others
abbrev pub LinkBlock : {A : Type 0} → List (Instruction A) → List (Instruction A) →
    (Links → Links) → Type 0
LinkBlock old new front = Block old new (λ later.
    (t : Links) (end : ℕ) → LinksAt later (length new) t end →
    LinksAt later (length old) (front t) end)

-- a hole, and after it the truth value of a formula
pub record RightBlock {A : Type 0} (old new : List (Instruction A)) (f : Formula) : Type 0 where
  pub hole : At new (length old) i.Hole
  pub mid : ℕ
  pub ends : length new ≡ mid + 1
  pub block : Block old new (λ later.
      FormulaAt later (length old + 1) f mid × At later mid i.Truth)
