-- What goes out to standard output and to standard error.
use Rattle.std.specs.Prelude.{ℕ, List, [], Option, take}
use Rattle.std.specs.Io.KnownBytes.{IsAtEnd, Keeps}
use Rattle.acts.specs.declared.act.LogMode.{LogMode}
use Rattle.acts.specs.declared.act.LogMode.TheVariants.{Append, Truncate}
use Rattle.acts.specs.Deed.{Deed, Reply}
use Rattle.acts.specs.Deed as said

-- what has gone out of a text by the answer: all of it where the answer is that it is done, and the
-- first bytes, as many as the answer says, where it failed after them (write(2))
abbrev pub went_out : List ℕ → Reply → List ℕ
went_out text said.Done = text
went_out text (said.Failed sent) = take sent text
went_out text _ = []

-- what goes to standard output by an act with this answer (this project's own)
abbrev pub out_text : Deed → Reply → List ℕ
out_text (said.Out text) reply = went_out text reply
out_text _ reply = []

-- what goes to standard error by an act with this answer (this project's own)
abbrev pub err_text : Deed → Reply → List ℕ
err_text (said.Err text) reply = went_out text reply
err_text _ reply = []

-- a file that is opened to be appended to keeps what it holds, and one that is begun anew is empty
-- (expect(1), log_file; open(2), O_APPEND and O_TRUNC)
abbrev pub IsOpened : (held : Option (List ℕ)) → LogMode → (contents : Option (List ℕ)) → Type 0
IsOpened held Append contents = Keeps held contents
IsOpened held Truncate contents = IsAtEnd contents
