-- The words of switch.
use Rattle.std.specs.Prelude.{◌≡◌, ℕ, ◌==◌, ◌<◌, ◌≤◌, ◌&&◌, Bool, true, false, List, [], ◌∷◌, ◌++◌, codes, length, Option, Some, None}
use Rattle.std.specs.Str.{bytes_eq}
use Rattle.code.specs.declared.options.Flag.{Flag}
use Rattle.code.specs.declared.options.Flag.TheVariants as flag
use Rattle.code.specs.declared.options.Options.{Options}
use Rattle.tclparse.specs.Tree.{Words, no_parts, word, bytes_then}
use Rattle.tcltext.specs.Elements.{IsList}

-- the flag as a word (switch(n))
abbrev pub flag_word : Option Flag → List (List ℕ)
flag_word None = []
flag_word (Some flag.Exact) = codes "-exact" ∷ []
flag_word (Some flag.Glob) = codes "-glob" ∷ []

-- `--` as a word, where it is there (switch(n))
abbrev pub dashes_word : Bool → List (List ℕ)
dashes_word false = []
dashes_word true = codes "--" ∷ []

-- the options as words (switch(n))
abbrev pub option_words : Options → List (List ℕ)
option_words options = flag_word options.flag ++ dashes_word options.dashes

-- the words before the string of a switch with these options (switch(n))
abbrev pub words_before : Options → List (List ℕ)
words_before options = codes "switch" ∷ option_words options

-- whether the patterns are globs; without a flag they are not (switch(n))
abbrev pub are_globs : Option Flag → Bool
are_globs None = false
are_globs (Some flag.Exact) = false
are_globs (Some flag.Glob) = true

-- a last pattern `default` matches any string (switch(n))
abbrev pub is_default : List ℕ → List (List ℕ) → Bool
is_default pattern more = bytes_eq pattern (codes "default") && (length more == 0)

-- the patterns and bodies are the elements of the only word after the string, or these words
-- (switch(n))
pub data AreArms (arms : List (List ℕ)) : List (List ℕ) → Type 0 where
  of_list : {list : List ℕ} → IsList arms list → AreArms arms (list ∷ [])
  of_words : 1 < length arms → AreArms arms arms

-- as a glob a pattern has at most 1,000,000 bytes (string(n), match; the limit is this project's
-- own rule)
abbrev pub IsShort : Bool → List ℕ → Type 0
IsShort false pattern = Unit {0}
IsShort true pattern = length pattern ≤ 1000000

-- each pattern has a body, where the last one is not `-`, and none is too long (switch(n))
pub data AreWhole (globs : Bool) : List (List ℕ) → Type 0 where
  no_arm : AreWhole globs []
  last_arm : {pattern body : List ℕ} → IsShort globs pattern →
      bytes_eq body (codes "-") ≡ false → AreWhole globs (pattern ∷ body ∷ [])
  one_arm : {pattern body next : List ℕ} {more : List (List ℕ)} → IsShort globs pattern →
      AreWhole globs (next ∷ more) → AreWhole globs (pattern ∷ body ∷ next ∷ more)
