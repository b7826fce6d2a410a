-- What a command does that begins by its words, and the code of that.
use Rattle.std.specs.Prelude.{◌≡◌, ℕ, ◌+◌, ◌*◌, ◌≤◌, Bool, true, false, List, [], ◌∷◌, Option, None, Some, length}
use Rattle.std.specs.List.{list_all}
use Rattle.code.specs.Branches.{Branch, Branches}
use Rattle.code.specs.Branching.{branches_of}
use Rattle.code.specs.Code.{At, BodyAt, BranchesAt, HasFormula, LacksFormula, TakenAt, TurnsAt}
use Rattle.code.specs.declared.doing.Doing as coded
use Rattle.code.specs.declared.doing.Doing.TheVariants as its
use Rattle.code.specs.declared.instruction.Instruction.{Instruction}
use Rattle.code.specs.declared.instruction.Instruction.TheVariants as i

-- if with these branches; while; for; catch, whose variable takes the value that the script ended
-- with, if there is one (if(n); while(n); for(n); catch(n))
pub data Doing : Type 0 where
  If : (found : Branches) → Doing
  While : (test body : List ℕ) → Doing
  For : (start test step body : List ℕ) → Doing
  Catch : (body : List ℕ) (variable : Option (List ℕ)) → Doing

-- what one of the code stands for
abbrev pub doing_of : {A : Type 0} → coded.Doing A → Doing
doing_of (its.If own) = If (branches_of own)
doing_of (its.While test body) = While test body
doing_of (its.For start test step body) = For start test step body
doing_of (its.Catch body variable) = Catch body variable

-- its code stands from the first place up to the second (if(n); while(n); for(n); catch(n))
abbrev pub DoneAt : {A : Type 0} → List (Instruction A) → Doing → ℕ → ℕ → Type 0
DoneAt code (If found) place end = BranchesAt code place found.tests found.otherwise end
DoneAt code (While test body) place end = TurnsAt code place test None body end
DoneAt code (For start test step body) place end =
    (mid : ℕ) × BodyAt code place start mid × At code mid i.Discard ×
    TurnsAt code (mid + 1) test (Some step) body end
DoneAt code (Catch body variable) place end =
    (mid : ℕ) × At code place (i.Catch (mid + 1)) × BodyAt code (place + 1) body mid ×
    At code mid i.EndCatch × TakenAt code (mid + 1) variable end

-- an instruction by which no command begins (this project's own rule)
abbrev pub is_still : {A : Type 0} → Instruction A → Bool
is_still (i.Text bytes) = true
is_still (i.Run text after) = true
is_still (i.Evaluate text) = true
is_still (i.Unless place) = true
is_still (i.Jump place) = true
is_still (i.Turn body ends) = true
is_still i.Step = true
is_still i.EndTurn = true
is_still i.Discard = true
is_still (i.Catch place) = true
is_still i.EndCatch = true
is_still (i.Store name) = true
is_still it = false

-- no command begins by this code (this project's own rule)
abbrev pub are_still : {A : Type 0} → List (Instruction A) → Bool
are_still code = list_all (λ it. is_still it) code

-- how many instructions the code has at most (this project's own rule)
abbrev pub size_of : Doing → ℕ
size_of (If found) = 2 + 4 * length found.tests
size_of (While test body) = 7
size_of (For start test step body) = 11
size_of (Catch body variable) = 5

-- these instructions are the code of what is done by itself: what is on top is dropped first, and
-- no command begins by them (this project's own rule)
pub record IsCodeOfDoing {A : Type 0} (code : List (Instruction A)) (doing : Doing) : Type 0 where
  pub drops : At code 0 i.Discard
  pub lies : DoneAt code doing 1 (length code)
  pub still : are_still code ≡ true
  pub short : length code ≤ size_of doing

-- whether a text is a formula (expr(n))
abbrev pub Tells : Bool → List ℕ → Type 0
Tells true text = HasFormula text
Tells false text = LacksFormula text

-- the code of a branch that stands at this place, of an if that ends at that one (if(n))
abbrev pub branch_code : {A : Type 0} → ℕ → ℕ → Branch → List (Instruction A)
branch_code place end it =
    i.Evaluate it.test ∷ i.Unless (place + 4) ∷ i.Run it.body 0 ∷ i.Jump end ∷ []

-- the code of the last body, or the empty text where there is none (if(n))
abbrev pub last_code : {A : Type 0} → Option (List ℕ) → List (Instruction A)
last_code None = i.Text [] ∷ []
last_code (Some body) = i.Run body 0 ∷ []

-- what is done with the value that the script of a catch ended with (catch(n))
abbrev pub taker : {A : Type 0} → Option (List ℕ) → Instruction A
taker None = i.Discard
taker (Some name) = i.Store name
