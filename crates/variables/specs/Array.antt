-- What array does.
use Rattle.std.specs.Prelude.{ℕ, List, [], ◌∷◌, codes, Option, Some, None, Err, if◌then◌else◌}
use Rattle.std.specs.Str.{bytes_eq}
use Rattle.acts.specs.Flaw as flaw
use Rattle.kinds.specs.Readings.{Done, Reading, Found}
use Rattle.tclstate.specs.Scopes.{Scopes}
use Rattle.variables.specs.declared.array.Subcommand.{Subcommand}
use Rattle.variables.specs.declared.array.Subcommand.TheVariants as subcommand
use Rattle.variables.specs.Array.Exists.{exists}
use Rattle.variables.specs.Array.Get.{get}
use Rattle.variables.specs.Array.ArrayNames.{names}
use Rattle.variables.specs.Array.Set.{set}
use Rattle.variables.specs.Array.Size.{size}
use Rattle.variables.specs.Array.Unset.{unset}
use Rattle.variables.specs.Array.Words.{wrong_words}
pub mod Words
pub mod Indexes
pub mod Exists
pub mod Get
pub mod ArrayNames
pub mod Set
pub mod Size
pub mod Unset

-- the subcommand of a name (array(n))
abbrev pub named : List ℕ → Option Subcommand
named name =
    if bytes_eq name (codes "exists") then Some subcommand.Exists
    else if bytes_eq name (codes "get") then Some subcommand.Get
    else if bytes_eq name (codes "names") then Some subcommand.Names
    else if bytes_eq name (codes "set") then Some subcommand.Set
    else if bytes_eq name (codes "size") then Some subcommand.Size
    else if bytes_eq name (codes "unset") then Some subcommand.Unset
    else None

-- what a subcommand does with the words after its name (array(n))
abbrev pub does : Subcommand → List (List ℕ) → Scopes → Reading (Done Scopes)
does subcommand.Exists words v = Found (v, exists words v)
does subcommand.Get words v = get words v
does subcommand.Names words v = names words v
does subcommand.Set words v = set words v
does subcommand.Size words v = Found (v, size words v)
does subcommand.Unset words v = unset words v

-- the subcommand that a name has; a name without one is the error (array(n))
abbrev pub called : Option Subcommand → List ℕ → List (List ℕ) → Scopes → Reading (Done Scopes)
called (Some found) name words v = does found words v
called None name words v = Found (v, Err (flaw.BadArgument name (codes "array")))

-- array subcommand ..: the name of the subcommand is examined before the number of the words after
-- it (array(n))
abbrev pub array : List (List ℕ) → Scopes → Reading (Done Scopes)
array [] v = wrong_words v
array (name ∷ words) v = called (named name) name words v
