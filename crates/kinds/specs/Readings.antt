-- The meaning of commands that read texts on their way, before they answer.
use Rattle.std.specs.Prelude.{◌≡◌, ℕ, List, Result, Ok, Err}
use Rattle.state.specs.Prelude.{Flaw, flaw_of, Raise, IsTree, ListText}
use Rattle.acts.specs.declared.raise.Raise.TheVariants as raise
use Rattle.meanings.specs.Meaning.{flaw_of_list}
use Rattle.state.specs.Piece.{Text, Tree}
use Rattle.tcltext.specs.Flaw as list

-- a reading has its answer, of X; or it reads a text as a tree, and continues with that (this
-- project's own rule)
pub data Reading (X : Type 0) : Type 0 where
  Found : X → Reading X
  Reads : (text : Text) → (Tree text → Reading X) → Reading X

-- the reading has this answer, once its texts are read (this project's own rule)
abbrev pub ComesTo : {X : Type 0} → Reading X → X → Type 0
ComesTo (Found x) other = x ≡ other
ComesTo (Reads text next) other = (tree : Tree text) × IsTree text tree × ComesTo (next tree) other

-- continues with the answer of a reading (this project's own rule)
abbrev pub and_then : {X Y : Type 0} → Reading X → (X → Reading Y) → Reading Y
and_then (Found x) next = next x
and_then (Reads text more) next = Reads text (λ tree. and_then (more tree) next)

-- continues with a value; an error is passed on (this project's own rule)
abbrev pub carried : {X Y : Type 0} → Result X Flaw → (X → Reading (Result Y Flaw)) →
    Reading (Result Y Flaw)
carried (Ok x) next = next x
carried (Err flaw) next = Found (Err flaw)

-- the same, once the value is read (this project's own rule)
abbrev pub and_bind : {X Y : Type 0} → Reading (Result X Flaw) →
    (X → Reading (Result Y Flaw)) → Reading (Result Y Flaw)
and_bind r next = and_then r (λ x. carried x next)

-- the elements of a list, or why a text is none, as the script's error (Tcl_SplitList(3))
abbrev pub listed : Result (List (List ℕ)) list.Flaw → Result (List (List ℕ)) Flaw
listed (Ok elements) = Ok elements
listed (Err why) = Err (flaw_of_list why)

-- a text is read as a list (Tcl_SplitList(3))
abbrev pub elements : List ℕ → Reading (Result (List (List ℕ)) Flaw)
elements text = Reads (ListText text) (λ split. Found (listed split))

-- the answer of the code is that of the reading, except where memory was refused (this project's
-- own rule)
abbrev pub Finds : {A X Y : Type 0} → (Y → X) → Reading (Result X Flaw) → Result Y (Raise A) →
    Type 0
Finds view meant (Ok y) = ComesTo meant (Ok (view y))
Finds view meant (Err (raise.Fault why)) = ComesTo meant (Err (flaw_of why))
Finds view meant (Err (raise.NoMemory refusal)) = Unit {0}

-- how a command ends that sees V alone, the variables or the procedures: the V that it leaves, with
-- a value or an error (this project's own rule)
abbrev pub Done : Type 0 → Type 0
Done V = V × Result (List ℕ) Flaw

-- continues with a value; with an error nothing more is done (this project's own rule)
abbrev pub after : {X V : Type 0} → Result X Flaw → V → (X → Reading (Done V)) → Reading (Done V)
after (Ok x) v next = next x
after (Err flaw) v next = Found (v, Err flaw)

-- the same, once the value is read (this project's own rule)
abbrev pub once : {X V : Type 0} → Reading (Result X Flaw) → V → (X → Reading (Done V)) →
    Reading (Done V)
once r v next = and_then r (λ x. after x v next)

-- nothing changes unless there is a value (this project's own rule)
abbrev pub kept : {V : Type 0} → V → Result (V × List ℕ) Flaw → Done V
kept v (Ok done) = (done.0, Ok done.1)
kept v (Err flaw) = (v, Err flaw)

-- the answer of the command, and what it leaves, are those of the reading; where memory was
-- refused, nothing is said (this project's own rule)
abbrev pub Leaves : {A V : Type 0} → Reading (Done V) → Result (List ℕ) (Raise A) → V → Type 0
Leaves meant (Ok value) new = ComesTo meant (new, Ok value)
Leaves meant (Err (raise.Fault why)) new = ComesTo meant (new, Err (flaw_of why))
Leaves meant (Err (raise.NoMemory refusal)) new = Unit {0}
