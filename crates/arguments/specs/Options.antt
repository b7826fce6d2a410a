-- The options in front of a call's words, as they are read (this project's own).
use Rattle.std.specs.Prelude.{◌≡◌, ◌≢◌, ◌↔◌, IsTrue, ℕ, List, [], ◌++◌, Option, flat_map}
use Rattle.std.specs.Option.{option_copied, option_to_list}
use Rattle.arguments.specs.declared.arguments.Options.{Options}
use Rattle.arguments.specs.Arguments.{Command, Limit, Record, Replay, Setting, spelled, values}

-- words begin with these options, and no further one stands after them
pub record BeginWith (words : List (List ℕ)) (settings : List Setting) (rest : List (List ℕ))
    : Type 0 where
  pub spells : words ≡ flat_map spelled settings ++ rest
  pub behind : (next : Setting) (others : List (List ℕ)) → rest ≢ spelled next ++ others

-- the values of options, each but `-c` at most once
abbrev pub AreOnce : List Setting → (replay made limit : Option (List ℕ)) → Type 0
AreOnce settings replay made limit =
    (values Replay settings ≡ option_to_list replay)
    × (values Record settings ≡ option_to_list made)
    × (values Limit settings ≡ option_to_list limit)

-- the options that were read are these: whether a `-c` is among them, and the others' values
abbrev pub AreOptions : Options → List Setting → Type 0
AreOptions found settings =
    (IsTrue found.has_command ↔ (values Command settings ≢ []))
    × AreOnce settings (option_copied found.replay) (option_copied found.made)
    (option_copied found.limit)
