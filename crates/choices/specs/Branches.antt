-- Branches, and the pairs of an id and a branch among which an expect chooses.
use Rattle.std.specs.Prelude.{ℕ, List, Option, ℤ}
use Rattle.acts.specs.declared.id.Id.{Id}
use Rattle.choices.specs.declared.branch.Flags.{Flags}
use Rattle.patterns.specs.Item.{Reading}

-- what a branch waits for: a pattern, or what a keyword names (expect(1), expect)
pub data Awaited : Type 0 where
  Sought : (pattern : Reading) → Awaited
  FullBuffer : Awaited
  Eof : Awaited
  Timeout : Awaited
  Default : Awaited

-- a branch: what it waits for, its flags, and its body. By its flags the bytes that it finds stay
-- in the buffer (-notransfer), their places are reported (-indices), and capital letters of the
-- window count as small ones (-nocase) (expect(1), expect)
pub record Branch : Type 0 where
  pub awaited : Awaited
  pub flags : Flags
  pub body : List ℕ

-- a branch for one id (expect(1), expect, -i)
pub record Pair : Type 0 where
  pub id : Id
  pub branch : Branch

-- a pair by its parts
abbrev pub pair : Id → Branch → Pair
pair id branch = record { id = id; branch = branch }

-- what the words of an expect say: the ids that they name, in the order of their mentions, the
-- pairs of ids and branches, and the seconds of the last -timeout, if there is one (expect(1),
-- expect)
pub record Branches : Type 0 where
  pub named : List Id
  pub pairs : List Pair
  pub timeout : Option ℤ

-- branches by their parts
abbrev pub branches : List Id → List Pair → Option ℤ → Branches
branches named pairs timeout = record { named = named; pairs = pairs; timeout = timeout }
