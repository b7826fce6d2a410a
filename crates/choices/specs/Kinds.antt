-- What ids are opened for.
use Rattle.std.specs.Prelude.{ℕ}

-- what an id was opened for: a process of this number, or a connection (expect(1), spawn)
pub data Kind : Type 0 where
  Process : (pid : ℕ) → Kind
  Socket : Kind
