-- What the instructions of switch do.
use Rattle.std.specs.Prelude.{ℕ, ◌==◌, ◌&&◌, ◌||◌, ◌++◌, Bool, not, List, ◌∷◌, length, nat_le, is_none, Option, Some, None, if◌then◌else◌}
use Rattle.std.specs.Str.{bytes_eq}
use Rattle.code.specs.Switch.{words_before}
use Rattle.code.specs.declared.options.Options.{Options}
use Rattle.state.specs.Arguments.{begins_with_dash}
use Rattle.state.specs.Piece.{TestText}
use Rattle.state.specs.Prelude.{Status}
use Rattle.steps.specs.Moves.{jumping, on_top}
use Rattle.steps.specs.Spot.{Spot, Did, Went, Reads, Begins, Stuck}
use Rattle.tclstate.specs.Procs.{Procedure}
use Rattle.patterns.specs.Item.{Reading}

-- the string is no option: it stands after `--`, or is the first of two words, or begins with no
-- dash (switch(n))
abbrev pub is_string : Options → List ℕ → List (List ℕ) → Bool
is_string options text after =
    options.dashes || ((is_none options.flag && (length after == 1)) || not (begins_with_dash text))

-- switch with these options, the string on top and these words after it begins by its words, and
-- this place is next; there is no way back (Tcl(n), rule 2)
abbrev pub by_words : Options → List (List ℕ) → ℕ → Spot → Status → Did
by_words options after place spot s =
    on_top spot.operands (λ text below.
    if nat_le spot.place place
    then Begins (words_before options ++ text ∷ after)
    (record spot { place = place; operands = below }) s
    else Stuck)

-- where the string is no option the run goes on, else switch begins by its words (switch(n))
abbrev pub choosing : Options → List (List ℕ) → ℕ → Spot → Status → Did
choosing options after place spot s =
    on_top spot.operands (λ text below.
    if is_string options text after then Went spot s else by_words options after place spot s)

-- where a procedure hides switch it begins by its words (proc(n))
abbrev pub hidden : Option Procedure → Options → List (List ℕ) → ℕ → Spot → Status → Did
hidden None options after place spot s = choosing options after place spot s
hidden (Some procedure) options after place spot s = by_words options after place spot s

-- after a pattern that takes the string the first place is next, else the second (switch(n))
abbrev pub going : Bool → ℕ → ℕ → Spot → Status → Did
going takes taken other spot s =
    if takes then jumping taken spot s else jumping other spot s

-- the string on top is compared with a text (switch(n))
abbrev pub comparing : List ℕ → ℕ → ℕ → Spot → Status → Did
comparing pattern taken other spot s =
    on_top spot.operands (λ text below. going (bytes_eq pattern text) taken other spot s)

-- the string on top is compared with a glob (switch(n); string(n), match)
abbrev pub matching : Reading → ℕ → ℕ → Spot → Status → Did
matching pattern taken other spot s =
    on_top spot.operands (λ text below.
    Reads (TestText pattern.items text) (λ takes. going takes taken other spot s))
