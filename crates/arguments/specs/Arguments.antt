-- The arguments of a call of the program (this project's own).
use Rattle.std.specs.Prelude.{◌≡◌, ◌≢◌, ◌≤◌, ◌⊎◌, ℕ, Bool, true, false, List, [], ◌∷◌, ◌++◌, Option, Some, None, Vec, map, flat_map, codes, decimal}
use Rattle.std.specs.List.{filter}
use Rattle.std.specs.Option.{option_copied, option_to_list}
use Rattle.arguments.specs.declared.arguments.Arguments.{Arguments}
use Rattle.arguments.specs.declared.arguments.Name.{Name as ReadName}
use Rattle.arguments.specs.declared.arguments.Name.TheVariants as read
use Rattle.arguments.specs.declared.arguments.Setting.{Setting as ReadSetting}

-- the texts of words
abbrev pub texts : {A : Type 0} → List (Vec ℕ A) → List (List ℕ)
texts words = map (λ word. word.items) words

-- the options of a call
pub data Name : Type 0 where
  Command : Name
  Replay : Name
  Record : Name
  Limit : Name

-- how an option is spelled
abbrev pub word_of : Name → List ℕ
word_of Command = codes "-c"
word_of Replay = codes "--replay"
word_of Record = codes "--record"
word_of Limit = codes "--limit"

-- whether two options are the same
abbrev pub same : Name → Name → Bool
same Command Command = true
same Replay Replay = true
same Record Record = true
same Limit Limit = true
same one other = false

-- an option with the value after it
pub record Setting : Type 0 where
  pub name : Name
  pub value : List ℕ

-- the words of an option and its value
abbrev pub spelled : Setting → List (List ℕ)
spelled setting = word_of setting.name ∷ setting.value ∷ []

-- each value that is given to an option
abbrev pub values : Name → List Setting → List (List ℕ)
values name settings =
    map (λ setting. setting.value) (filter (λ setting. same name setting.name) settings)

-- 10,000,000 ticks where no limit is given, and else its number, 1 to 1,000,000,000,000
abbrev pub AreTicks : Option (List ℕ) → ℕ → Type 0
AreTicks None ticks = ticks ≡ 10000000
AreTicks (Some limit) ticks = (1 ≤ ticks) × (ticks ≤ 1000000000000) × (limit ≡ decimal ticks)

-- a word that names a file without `-f`: it begins with `-` only where it is `-`, standard input
abbrev pub IsFile : List ℕ → Type 0
IsFile word = (rest : List ℕ) → word ≡ codes "-" ++ rest → rest ≡ []

-- the words after the options are the script's file and its arguments: after `-f` any word is a
-- file; there may be no word at all
abbrev pub AreScript : List (List ℕ) → List (List ℕ) → Type 0
AreScript [] script = script ≡ []
AreScript (first ∷ behind) script =
    ((first ≡ codes "-f") × (behind ≢ []) × (script ≡ behind))
    ⊎ (IsFile first × (script ≡ first ∷ behind))

-- what a call asks for: texts that run before that of the script's file, the record whose answers
-- it gets, the record that is made of it, how many ticks it may take, and the script's file with
-- its arguments, or nothing
pub record Call : Type 0 where
  pub commands : List (List ℕ)
  pub replay : Option (List ℕ)
  pub made : Option (List ℕ)
  pub ticks : ℕ
  pub script : List (List ℕ)

-- words are a call: options in any order, each but `-c` at most once, and after them the script,
-- which may be left out where there is a `-c`
pub record IsCall (words : List (List ℕ)) (call : Call) : Type 0 where
  pub settings : List Setting
  pub limit : Option (List ℕ)
  pub rest : List (List ℕ)
  pub spells : words ≡ flat_map spelled settings ++ rest
  pub commands : values Command settings ≡ call.commands
  pub replays : values Replay settings ≡ option_to_list call.replay
  pub makes : values Record settings ≡ option_to_list call.made
  pub limits : values Limit settings ≡ option_to_list limit
  pub ticks : AreTicks limit call.ticks
  pub script : AreScript rest call.script
  pub given : call.commands ≡ [] → call.script ≢ []

-- words are this call and no other
abbrev pub IsOneCall : List (List ℕ) → Call → Type 0
IsOneCall words call = IsCall words call × ((other : Call) → IsCall words other → other ≡ call)

-- the option that one of the code stands for
abbrev pub name_of : ReadName → Name
name_of read.Command = Command
name_of read.Replay = Replay
name_of read.Record = Record
name_of read.Limit = Limit

-- the option with its value that one of the code stands for
abbrev pub setting_of : ReadSetting → Setting
setting_of setting = record { name = name_of setting.name; value = setting.value.now }

-- the arguments that were read hold this call
pub record Holds {A : Type 0} (found : Arguments A) (call : Call) : Type 0 where
  pub settings : List Setting
  pub options : texts found.options.now ≡ flat_map spelled settings
  pub commands : values Command settings ≡ call.commands
  pub replay : option_copied found.replay ≡ call.replay
  pub made : option_copied found.made ≡ call.made
  pub ticks : found.limits.ticks ≡ call.ticks
  pub script : texts found.script.now ≡ call.script

-- what is put before the text of a script's file: each text of `-c`, and a newline after it
abbrev pub lines : List (List ℕ) → List ℕ
lines commands = flat_map (λ text. text ++ codes "\n") commands
