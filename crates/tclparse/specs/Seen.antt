-- What the values of the code stand for in the definitions.
use Rattle.std.specs.Prelude.{ℕ, ◌<◌, List, length, Option, Some, None, option_map, Result, Ok, Err}
use Rattle.std.specs.Borrow.{Bor}
use Rattle.tclparse.specs.Piece.{Place, in_word, within_quotes, within_index, Next, end, fault, a_byte, a_name, an_index, an_element, a_bracket}
use Rattle.tclparse.specs.Grammar.{Outcome, Kind, in_braces, in_quotes, bare}
use Rattle.tclparse.specs.Fault as fault_is
use Rattle.tclparse.specs.Context.{Context, whole_script, bracketed, argument}
use Rattle.tclparse.specs.declared.fault.Fault as the_fault
use Rattle.tclparse.specs.declared.fault.Fault.TheVariants as the
use Rattle.tclparse.specs.declared.context.Context as the_context
use Rattle.tclparse.specs.declared.context.Context.TheVariants as stands_in
use Rattle.tclparse.specs.declared.piece.Place as the_place
use Rattle.tclparse.specs.declared.piece.Place.TheVariants as stands
use Rattle.tclparse.specs.declared.name.Name as the_name
use Rattle.tclparse.specs.declared.word.Opening.{Opening}
use Rattle.tclparse.specs.declared.word.Opening.TheVariants as opens
use Rattle.tclparse.specs.declared.piece.Piece.{Piece}
use Rattle.tclparse.specs.declared.piece.Piece.TheVariants.{End, Fault, Byte, Name, Index, Element, Bracket}

-- the fault that a value of the code stands for
abbrev pub fault_of : the_fault.Fault → fault_is.Fault
fault_of the.OpenBrace = fault_is.open_brace
fault_of the.OpenBracket = fault_is.open_bracket
fault_of the.OpenQuote = fault_is.open_quote
fault_of the.AfterBrace = fault_is.after_brace
fault_of the.AfterQuote = fault_is.after_quote
fault_of the.TooDeep = fault_is.too_deep
fault_of the.EscapeNotHere = fault_is.escape_not_here
fault_of the.BadVariable = fault_is.bad_variable

-- the context that the words of a text stand in
abbrev pub context_of : the_context.Context → Context
context_of stands_in.Script = whole_script
context_of stands_in.Brackets = bracketed
context_of stands_in.Argument = argument

-- where the parts of a word stand
abbrev pub place_of : the_place.Place → Place
place_of (stands.Bare context) = in_word (context_of context)
place_of stands.Quotes = within_quotes
place_of stands.Index = within_index

-- a piece with the texts that its slices hold
abbrev pub seen : Piece → Next
seen End = end
seen (Fault f) = fault (fault_of f)
seen (Byte b z) = a_byte b z.now
seen (Name n z) = a_name n.now z.now
seen (Index n z) = an_index n.now z.now
seen (Element n i z) = an_element n.now i.now z.now
seen (Bracket z) = a_bracket z.now

-- the text after a piece has fewer than n bytes
abbrev pub IsShorter : Piece → ℕ → Type 0
IsShorter End n = Unit {0}
IsShorter (Fault f) n = Unit {0}
IsShorter (Byte b z) n = length z.now < n
IsShorter (Name m z) n = length z.now < n
IsShorter (Index m z) n = length z.now < n
IsShorter (Element m i z) n = length z.now < n
IsShorter (Bracket z) n = length z.now < n

-- a bracket or an index opens only where one more may
abbrev pub OpensWithin : Piece → ℕ → Type 0
OpensWithin End d = Unit {0}
OpensWithin (Fault f) d = Unit {0}
OpensWithin (Byte b z) d = Unit {0}
OpensWithin (Name m z) d = Unit {0}
OpensWithin (Index m z) d = 0 < d
OpensWithin (Element m i z) d = Unit {0}
OpensWithin (Bracket z) d = 0 < d

-- the piece is not the end of its place
abbrev pub IsNotEnd : Piece → Type 0
IsNotEnd End = ⊥
IsNotEnd (Fault f) = Unit {0}
IsNotEnd (Byte b z) = Unit {0}
IsNotEnd (Name m z) = Unit {0}
IsNotEnd (Index m z) = Unit {0}
IsNotEnd (Element m i z) = Unit {0}
IsNotEnd (Bracket z) = Unit {0}

-- the texts that two slices hold, if there are any
abbrev pub element_seen : Option (Bor (List ℕ) × Bor (List ℕ)) → Option (List ℕ × List ℕ)
element_seen None = None
element_seen (Some r) = Some (r.0.now, r.1.now)

-- the name of a variable or of an element, with the texts that its slices hold
abbrev pub name_seen : the_name.Name → List ℕ × Option (List ℕ)
name_seen n = (n.name.now, option_map (λ i. i.now) n.index)

-- a reader's result as an outcome
abbrev pub outcome : Result (Bor (List ℕ)) the_fault.Fault → Outcome
outcome (Ok z) = Ok z.now
outcome (Err f) = Err (fault_of f)

-- how a word begins
abbrev pub opening : Opening → Kind
opening (opens.Braces z) = in_braces z.now
opening (opens.Quotes z) = in_quotes z.now
opening opens.Bare = bare

-- the text after what a word opens has fewer than n bytes
abbrev pub OpensShorter : Opening → ℕ → Type 0
OpensShorter (opens.Braces z) n = length z.now < n
OpensShorter (opens.Quotes z) n = length z.now < n
OpensShorter opens.Bare n = Unit {0}
