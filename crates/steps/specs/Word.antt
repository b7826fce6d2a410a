-- A word of a command that is being put together, as the proof sees it.
use Rattle.std.specs.Prelude.{ℕ, List, [], ◌∷◌, ◌++◌, codes, Bool, true, false, Option, Some, None, reverse}
use Rattle.code.specs.Switch.{words_before}
use Rattle.code.specs.declared.options.Options.{Options}
use Rattle.expects.specs.Expect.{by_name}
use Rattle.runs.specs.Commands.{command}
use Rattle.state.specs.Listed.{with_list}
use Rattle.state.specs.Prelude.{Course, Status}
use Rattle.state.specs.Variables.{reads}
use Rattle.steps.specs.Operand.{Outer, operand_on, waiting}
use Rattle.tclparse.specs.Tree.{Parts, Words, no_words, literals}
use Rattle.state.specs.Words.{parts, words}

-- an array whose index is open, and the word or the index around its element: the bytes before the
-- element, where there is something of it, and the parts after it (Tcl(n), rule 8)
pub record Around : Type 0 where
  pub array : List ℕ
  pub so_far : Option (List ℕ)
  pub parts : Parts

-- what is done with words that are all substituted: they begin a command; or they give its
-- branches, where they are those of an argument in braces after its name (Tcl(n), rule 2;
-- expect(1), expect)
abbrev pub call_of : Bool → ℕ → Status → List (List ℕ) → Course
call_of false levels = command levels
call_of true levels = by_name levels

-- where a word stands: after these words of its command, or of an argument in braces, the last one
-- first, and before the rest; the words are counted or not, and after {*} they are (Tcl(n), rules 2
-- and 5); or it is an operand
-- of a formula (expr(n)); or the list of a foreach with these variables and this body (foreach(n));
-- or the string of a switch with these options and these words after it (switch(n)); or the last
-- word of a command, after these words, that is one instruction (set(n); append(n); incr(n);
-- return(n))
pub data Word : Type 0 where
  Plain : (braced counted : Bool) (before : List (List ℕ)) (rest : Words) → Word
  Expands : (braced : Bool) (before : List (List ℕ)) (rest : Words) → Word
  Operand : (outer : List Outer) → Word
  Listed : (variables body : List ℕ) → Word
  Switched : (options : Options) (after : List (List ℕ)) → Word
  Last : (before : List (List ℕ)) → Word

-- a word that is open: its bytes so far, where there is something of it, its parts that are left,
-- the indexes in which these stand, the innermost first, and where it stands (Tcl(n), rules 7, 8
-- and 11)
pub record Open : Type 0 where
  pub so_far : Option (List ℕ)
  pub parts : Parts
  pub outer : List Around
  pub word : Word

-- the bytes so far
abbrev pub bytes_of : Option (List ℕ) → List ℕ
bytes_of None = []
bytes_of (Some bytes) = bytes

-- what follows the value of an index: the element is read, and then come the indexes and the word
-- around it (Tcl(n), rule 8)
abbrev pub index_on : ℕ → List Around → (Status → List ℕ → Course) → Status → List ℕ → Course
index_on levels [] next = next
index_on levels (o ∷ os) next = λ s index.
    reads o.array (Some index) s (λ value.
    parts levels o.parts (bytes_of o.so_far ++ value) s (index_on levels os next))

-- what follows the value of a word: the words after it, and then what they begin (Tcl(n), rules 2
-- and 5)
abbrev pub word_on : ℕ → Word → Status → List ℕ → Course
word_on levels (Plain braced counted before rest) = λ s value.
    words levels rest (reverse before ++ value ∷ []) s (call_of braced levels)
word_on levels (Expands braced before rest) = λ s value.
    with_list value s (λ more.
    words levels rest (reverse before ++ more) s (call_of braced levels))
word_on levels (Operand outer) = operand_on levels outer
word_on levels (Listed variables body) = λ s value.
    words levels (literals (body ∷ [])) (codes "foreach" ∷ variables ∷ value ∷ []) s
    (command levels)
word_on levels (Switched options after) = λ s value.
    words levels (literals after) (words_before options ++ value ∷ []) s (command levels)
word_on levels (Last before) = λ s value.
    words levels no_words (before ++ value ∷ []) s (command levels)

-- the course of an open word with these bytes so far
abbrev pub course_with : ℕ → Open → List ℕ → Status → Course
course_with levels o bytes s =
    parts levels o.parts bytes s (index_on levels o.outer (word_on levels o.word))

-- the bytes so far are an operand, where there is something of the word
abbrev pub with_bytes : Option (List ℕ) → List (List ℕ) → List (List ℕ)
with_bytes None below = below
with_bytes (Some bytes) below = bytes ∷ below

-- the operands of the words and indexes around an index
abbrev pub around : List Around → List (List ℕ) → List (List ℕ)
around [] below = below
around (o ∷ os) below = with_bytes o.so_far (around os below)

-- the words before this one, or the operands before it, on top of these
abbrev pub before_of : Word → List (List ℕ) → List (List ℕ)
before_of (Plain braced counted before rest) below = before ++ below
before_of (Expands braced before rest) below = before ++ below
before_of (Operand outer) below = waiting outer below
before_of (Listed variables body) below = below
before_of (Switched options after) below = below
before_of (Last before) below = below

-- whether the words are counted
abbrev pub is_counted : Word → Bool
is_counted (Plain braced counted before rest) = counted
is_counted (Expands braced before rest) = true
is_counted (Operand outer) = false
is_counted (Listed variables body) = false
is_counted (Switched options after) = false
is_counted (Last before) = false

-- the operands of an open word
abbrev pub operands_of : Open → List (List ℕ) → List (List ℕ)
operands_of o below = with_bytes o.so_far (around o.outer (before_of o.word below))
