-- What contracts see of the types of the code.
use Rattle.std.specs.Prelude.{ℕ, Bool, List}
use Rattle.acts.specs.declared.id.Id.{Id}
use Rattle.matchbuf.specs.Held.{Held}
use Rattle.choices.specs.Branches.{Awaited, Branch, Sought, FullBuffer, Eof, Timeout, Default}
use Rattle.choices.specs.Kinds.{Kind, Process, Socket}
use Rattle.choices.specs.Lines.{Line}
use Rattle.choices.specs.declared.branch.Awaited.{Awaited as Coded}
use Rattle.choices.specs.declared.branch.Awaited.TheVariants as coded
use Rattle.choices.specs.declared.branch.Flags.{Flags}
use Rattle.choices.specs.declared.kind.Kind as kinds
use Rattle.choices.specs.declared.kind.Kind.TheVariants as kind

-- a line by its parts
abbrev pub line_by : Id → Kind → Held → Bool → Line
line_by id kind h drops = record { id = id; kind = kind; held = h; drops_nulls = drops }

-- what an id of the code was opened for
abbrev pub kind_of : kinds.Kind → Kind
kind_of (kind.Process pid) = Process pid
kind_of kind.Socket = Socket

-- what a branch of the code waits for
abbrev pub awaited_of : {A : Type 0} → Coded A → Awaited
awaited_of (coded.Sought pattern) = Sought pattern
awaited_of coded.FullBuffer = FullBuffer
awaited_of coded.Eof = Eof
awaited_of coded.Timeout = Timeout
awaited_of coded.Default = Default

-- a branch of the code by its parts
abbrev pub branch_of : {A : Type 0} → Coded A → Flags → List ℕ → Branch
branch_of awaited flags body = record {
  awaited = awaited_of awaited;
  flags = flags;
  body = body;
}
