-- The flags in the words of a command, and the words for which it has no room.
use Rattle.std.specs.Prelude.{ℕ, ◌==◌, ◌||◌, ◌&&◌, Bool, true, false, not, List, [], ◌∷◌, length, codes, Option, Some, None, Result, Ok, Err, if◌then◌else◌}
use Rattle.std.specs.Str.{bytes_eq}
use Rattle.acts.specs.Flaw.{Flaw}
use Rattle.acts.specs.Flaw as flaw
use Rattle.state.specs.Arguments.{begins_with_dash, is_flag}

-- whether a flag stands first, and the words after it (expect(1), match_max -d)
abbrev pub after_flag : List ℕ → List (List ℕ) → Bool × List (List ℕ)
after_flag flag [] = (false, [])
after_flag flag (w ∷ ws) = if bytes_eq w flag then (true, ws) else (false, w ∷ ws)

-- the word of a flag, where the two stand first, and the words after them (expect(1), close -i)
abbrev pub after_pair : List ℕ → List (List ℕ) → Option (List ℕ) × List (List ℕ)
after_pair flag [] = (None, [])
after_pair flag (w ∷ []) = (None, w ∷ [])
after_pair flag (w ∷ v ∷ vs) =
    if bytes_eq w flag then (Some v, vs) else (None, w ∷ v ∷ vs)

-- the word is one of a command's flags (this project's own rule)
abbrev pub is_among : List (List ℕ) → List ℕ → Bool
is_among [] w = false
is_among (f ∷ fs) w = bytes_eq w f || is_among fs w

-- the error of a word for which a command has no room: it names the word where that would be a flag
-- and is none of the command's, else there are too many words (this project's own rule)
abbrev pub misplaced : List (List ℕ) → List ℕ → List ℕ → Flaw
misplaced flags command w =
    if not (is_among flags w) && is_flag w then flaw.BadArgument w command
    else flaw.WrongArgs command

-- no word stands after the flags (expect(1), wait)
abbrev pub no_more : List (List ℕ) → List ℕ → List (List ℕ) → Result (Unit {0}) Flaw
no_more flags command [] = Ok tt
no_more flags command (w ∷ ws) = Err (misplaced flags command w)

-- one word at most stands after the flags, and would be no flag (expect(1), match_max)
abbrev pub at_most_one : List (List ℕ) → List ℕ → List (List ℕ) → Result (Option (List ℕ)) Flaw
at_most_one flags command [] = Ok None
at_most_one flags command (w ∷ ws) =
    if not (length ws == 0) || is_flag w then Err (misplaced flags command w) else Ok (Some w)

-- the word --, after which no flag stands (expect(1), send)
abbrev pub is_dashes : List ℕ → Bool
is_dashes w = bytes_eq w (codes "--")

-- the error of a word where a text is due: it names the word where that begins as flags do and is
-- none of the command's, else there are too few words or too many (expect(1), send)
abbrev pub no_text : List (List ℕ) → List ℕ → List ℕ → Flaw
no_text flags command w =
    if not (is_among flags w) && begins_with_dash w then flaw.BadFlag w
    else flaw.WrongArgs command

-- ?--? t: a word alone is the text, unless it begins as flags do; else the text stands after --
-- (expect(1), send, send_user, send_log and send_error)
abbrev pub text_in : List (List ℕ) → List ℕ → List (List ℕ) → Result (List ℕ) Flaw
text_in flags command [] = Err (flaw.WrongArgs command)
text_in flags command (t ∷ []) =
    if begins_with_dash t then Err (no_text flags command t) else Ok t
text_in flags command (w ∷ t ∷ []) =
    if is_dashes w then Ok t else Err (no_text flags command w)
text_in flags command (w ∷ t ∷ u ∷ us) = Err (no_text flags command w)
