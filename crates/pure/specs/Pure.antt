-- The commands by their names, and the meaning of each for its words.
use Rattle.std.specs.Prelude.{ℕ, List, codes, Option, Some, None, if◌then◌else◌}
use Rattle.std.specs.Str.{bytes_eq}
use Rattle.pure.specs.declared.command.Pure.{Pure}
use Rattle.pure.specs.declared.command.Pure.TheVariants as pure
use Rattle.pure.specs.Concat.{concat}
use Rattle.pure.specs.Join.{join}
use Rattle.pure.specs.Lindex.{lindex}
use Rattle.pure.specs.Llength.{llength}
use Rattle.pure.specs.Lrange.{lrange}
use Rattle.meanings.specs.Meaning.{Meaning, Gives}
use Rattle.pure.specs.Split.{split}
use Rattle.pure.specs.Strings.{string}
use Rattle.tcltext.specs.Canonical.{canonical}

-- the command that has this name, if one has (concat(n), join(n), lindex(n), list(n), llength(n),
-- lrange(n), split(n), string(n))
abbrev pub named : List ℕ → Option Pure
named name =
    if bytes_eq name (codes "concat") then Some pure.Concat
    else if bytes_eq name (codes "join") then Some pure.Join
    else if bytes_eq name (codes "lindex") then Some pure.Lindex
    else if bytes_eq name (codes "list") then Some pure.List
    else if bytes_eq name (codes "llength") then Some pure.Llength
    else if bytes_eq name (codes "lrange") then Some pure.Lrange
    else if bytes_eq name (codes "split") then Some pure.Split
    else if bytes_eq name (codes "string") then Some pure.String
    else None

-- the meaning of a command for the words after its name (Tcl(n), rule 2)
abbrev pub says : Pure → List (List ℕ) → Meaning
says pure.Concat words = concat words
says pure.Join words = join words
says pure.Lindex words = lindex words
says pure.List words = Gives (canonical words)
says pure.Llength words = llength words
says pure.Lrange words = lrange words
says pure.Split words = split words
says pure.String words = string words
