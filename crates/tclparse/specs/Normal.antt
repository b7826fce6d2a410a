-- Trees in normal form: bytes that stand side by side are one literal, a literal has a byte, and a
-- command has a word (this project's own rule).
use Rattle.std.specs.Prelude.{◌≡◌, ℕ, List, [], ◌∷◌, ◌++◌, ◌⊎◌, Bool, true, false, map, Vec}
use Rattle.std.specs.declared.rc.Rc.{Rc}
use Rattle.tclparse.specs.declared.tree.Part.{Part, fold-Part}
use Rattle.tclparse.specs.declared.tree.Part.TheOpen.{Part-F, Word-F, Command-F}
use Rattle.tclparse.specs.declared.tree.Part.TheFolds.{fold-Word, fold-Command}
use Rattle.tclparse.specs.declared.tree.Word.{Word}
use Rattle.tclparse.specs.declared.tree.Command.{Command}

-- A part's form: a literal that has a byte, another part that is normal within, or neither.
pub data Form : Type 0 where
  literal : Form
  other : Form
  neither : Form

-- a literal's form, by its bytes
abbrev pub literal_form : List ℕ → Form
literal_form [] = neither
literal_form (b ∷ v) = literal

-- another part's form, by whether it is normal within
abbrev pub other_form : Bool → Form
other_form true = other
other_form false = neither

-- each of the answers is yes
abbrev pub all_yes : List Bool → Bool
all_yes [] = true
all_yes (true ∷ bs) = all_yes bs
all_yes (false ∷ bs) = false

-- there are answers, and each is yes
abbrev pub some_yes : List Bool → Bool
some_yes [] = false
some_yes (b ∷ bs) = all_yes (b ∷ bs)

-- No two literals stand side by side, and each part is normal. The first argument says whether a
-- literal stands before these parts.
abbrev pub are_apart : Bool → List Form → Bool
are_apart before [] = true
are_apart true (literal ∷ fs) = false
are_apart false (literal ∷ fs) = are_apart true fs
are_apart before (other ∷ fs) = are_apart false fs
are_apart before (neither ∷ fs) = false

-- the form of one level of the tree, where that of what is inside is already known
abbrev pub form_step : {A : Type 0} → Part-F A Form Bool Bool → Form
form_step (Part-F.Literal v) = literal_form v
form_step (Part-F.Variable v) = other
form_step (Part-F.Element v ps) = other_form (are_apart false ps.value.items)
form_step (Part-F.Bracket cs) = other_form (all_yes cs.value.items)

abbrev pub word_step : {A : Type 0} → Word-F A Form Bool Bool → Bool
word_step w = are_apart false w.parts.value.items

abbrev pub command_step : {A : Type 0} → Command-F A Form Bool Bool → Bool
command_step c = some_yes c.words.value.items

-- a part's form; whether a word, and a command, is normal at every depth
abbrev pub form_of : {A : Type 0} → Part A → Form
form_of {A} = fold-Part A Form Bool Bool form_step command_step word_step

abbrev pub is_normal_word : {A : Type 0} → Word A → Bool
is_normal_word {A} = fold-Word A Form Bool Bool form_step command_step word_step

abbrev pub is_normal_command : {A : Type 0} → Command A → Bool
is_normal_command {A} = fold-Command A Form Bool Bool form_step command_step word_step

-- the parts of a word are normal
abbrev pub AreNormalParts : {A : Type 0} → Rc (Vec (Part A) A) A → Type 0
AreNormalParts ps = are_apart false (map form_of ps.value.items) ≡ true

-- the words of an argument are normal
abbrev pub AreNormalWords : {A : Type 0} → Rc (Vec (Word A) A) A → Type 0
AreNormalWords ws = all_yes (map is_normal_word ws.value.items) ≡ true

-- the words of a command are normal, and there is one
abbrev pub AreNormalCommand : {A : Type 0} → Rc (Vec (Word A) A) A → Type 0
AreNormalCommand ws = some_yes (map is_normal_word ws.value.items) ≡ true

-- the commands of a script are normal
abbrev pub AreNormalCommands : {A : Type 0} → Rc (Vec (Command A) A) A → Type 0
AreNormalCommands cs = all_yes (map is_normal_command cs.value.items) ≡ true

-- qs are the parts ps with at most one literal added at the end, as far as their forms show
abbrev pub EndsLiteral : {A : Type 0} → List (Part A) → List (Part A) → Type 0
EndsLiteral ps qs =
    (map form_of qs ≡ map form_of ps) ⊎ (map form_of qs ≡ map form_of ps ++ literal ∷ [])
