-- What switch does.
use Rattle.std.specs.Prelude.{ℕ, ◌==◌, ◌&&◌, nat_le, Bool, true, false, List, [], ◌∷◌, length, codes, Option, Some, None, if◌then◌else◌, nat_lt}
use Rattle.state.specs.Prelude.{Reads, Course, gives, raises, within, Status}
use Rattle.std.specs.Str.{bytes_eq}
use Rattle.acts.specs.Flaw as flaw
use Rattle.nesting.specs.Eval.{passed}
use Rattle.nesting.specs.declared.switch.Mode as coded
use Rattle.nesting.specs.declared.switch.Mode.TheVariants as mode
use Rattle.state.specs.Arguments.{begins_with_dash}
use Rattle.state.specs.Listed.{with_list}
use Rattle.state.specs.Piece.{TestText}
use Rattle.patterns.specs.Glob.{plain}

-- how a pattern is compared with the text: byte by byte, or as string match does (switch(n))
pub data Mode : Type 0 where
  Exact : Mode
  Glob : Mode

-- the mode that one of the code's stands for
abbrev pub mode_of : coded.Mode → Mode
mode_of mode.Exact = Exact
mode_of mode.Glob = Glob

-- what follows is given whether a pattern matches the text; as a glob it has at most 1,000,000
-- bytes (switch(n); string(n), match; the limit is this project's own rule)
abbrev pub takes : Mode → List ℕ → List ℕ → Status → (Bool → Course) → Course
takes Exact pattern text s next = next (bytes_eq pattern text)
takes Glob pattern text s next =
    if nat_lt 1000000 (length pattern) then raises flaw.PatternTooLong s
    else Reads (TestText (plain pattern).items text) next

-- the same, but a pattern that is known to match any text is not compared (switch(n))
abbrev pub tried : Bool → Mode → List ℕ → List ℕ → Status → (Bool → Course) → Course
tried true mode pattern text s next = next true
tried false mode pattern text s next = takes mode pattern text s next

-- a last pattern `default` matches any text (switch(n))
abbrev pub is_default : List ℕ → List (List ℕ) → Bool
is_default pattern more = bytes_eq pattern (codes "default") && (length more == 0)

-- the body is that of the next pattern (switch(n))
abbrev pub is_shared : List ℕ → Bool
is_shared body = bytes_eq body (codes "-")

-- the body of a pattern: of the bodies from its own on, the first that is not `-` (switch(n))
abbrev pub body_of : List (List ℕ) → Option (List ℕ)
body_of [] = None
body_of (body ∷ []) = Some body
body_of (body ∷ pattern ∷ more) = if is_shared body then body_of more else Some body

-- what follows is given the body of the first pattern that matches the text, if one does; the
-- patterns after it are not examined (switch(n))
abbrev pub chosen : Mode → List ℕ → List (List ℕ) → Status → (Option (List ℕ) → Course) → Course
chosen mode text [] s next = next None
chosen mode text (pattern ∷ []) s next = next None
chosen mode text (pattern ∷ body ∷ more) s next =
    tried (is_default pattern more) mode pattern text s (λ it_does.
    if it_does then next (body_of (body ∷ more)) else chosen mode text more s next)

-- the last of the patterns and bodies, where it is a pattern without a body, or a `-` without a
-- next body to share (switch(n))
abbrev pub left_over : List (List ℕ) → Option (List ℕ)
left_over [] = None
left_over (pattern ∷ []) = Some pattern
left_over (pattern ∷ body ∷ []) = if is_shared body then Some body else None
left_over (pattern ∷ body ∷ other ∷ more) = left_over (other ∷ more)

-- the body runs one level deeper, and its outcome is passed on, whatever it is; without a body the
-- value is empty (switch(n))
abbrev pub runs_body : ℕ → Status → Option (List ℕ) → Course
runs_body levels s None = gives [] s
runs_body levels s (Some body) = within levels body s passed

-- a word that switch does not take (switch(n))
abbrev pub wrong_word : List ℕ → Status → Course
wrong_word word s = raises (flaw.BadArgument word (codes "switch")) s

-- what follows happens, unless a word is left over (switch(n))
abbrev pub unless_left : Option (List ℕ) → Status → Course → Course
unless_left None s next = next
unless_left (Some word) s next = wrong_word word s

-- the patterns are tried in turn, but none of them is where one lacks its body (switch(n))
abbrev pub on_arms : ℕ → Mode → List ℕ → List (List ℕ) → Status → Course
on_arms levels mode text arms s =
    unless_left (left_over arms) s (chosen mode text arms s (runs_body levels s))

-- another number of words than switch takes (switch(n))
abbrev pub wrong_words : Status → Course
wrong_words s = raises (flaw.WrongArgs (codes "switch")) s

-- the text, and the patterns with their bodies: as one list, or as words (switch(n))
abbrev pub on_words : ℕ → Mode → List (List ℕ) → Status → Course
on_words levels mode [] s = wrong_words s
on_words levels mode (text ∷ []) s = wrong_words s
on_words levels mode (text ∷ list ∷ []) s =
    with_list list s (λ arms. on_arms levels mode text arms s)
on_words levels mode (text ∷ pattern ∷ body ∷ more) s =
    on_arms levels mode text (pattern ∷ body ∷ more) s

-- the words after the place of a flag: `--` may stand first, and no other word that begins with a
-- dash (switch(n))
abbrev pub behind_flag : ℕ → Mode → List (List ℕ) → Status → Course
behind_flag levels mode [] s = wrong_words s
behind_flag levels mode (word ∷ words) s =
    if bytes_eq word (codes "--") then on_words levels mode words s
    else if begins_with_dash word then wrong_word word s
    else on_words levels mode (word ∷ words) s

-- one flag may stand first, which says the mode; without one patterns are exact (switch(n))
abbrev pub on_flags : ℕ → List (List ℕ) → Status → Course
on_flags levels [] s = wrong_words s
on_flags levels (word ∷ words) s =
    if bytes_eq word (codes "-exact") then behind_flag levels Exact words s
    else if bytes_eq word (codes "-glob") then behind_flag levels Glob words s
    else behind_flag levels Exact (word ∷ words) s

-- switch ?-exact|-glob? ?--? t {p b ..}, or p b ..; two words have no flags (switch(n))
abbrev pub switch : ℕ → List (List ℕ) → Status → Course
switch levels args s =
    if nat_le (length args) 2 then on_words levels Exact args s else on_flags levels args s
