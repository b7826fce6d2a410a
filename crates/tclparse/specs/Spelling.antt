-- How the parts, words and commands of a tree are spelled in a text (Tcl(n), rules 1 to 10).
use Rattle.std.specs.Prelude.{◌≡◌, ℕ, ◌==◌, ◌||◌, ◌⊎◌, List, [], ◌∷◌, ◌++◌, Bool, true, false, Ok}
use Rattle.tcltext.specs.Balanced.{IsBalanced}
use Rattle.tcltext.specs.Escape.{escape}
use Rattle.tclparse.specs.Tree.{Parts, no_parts, byte, variable, element, script, Words, no_words, word, Commands, no_commands, command, bytes_then}
use Rattle.tclparse.specs.Context.{Context, bracketed, is_white, is_separator, ends_command}
use Rattle.tclparse.specs.Variable.{after_name, from}
use Rattle.tclparse.specs.Braces.{IsValue}
use Rattle.tclparse.specs.Piece.{Place, in_word, within_quotes, within_index, ends_parts}
use Rattle.tclparse.specs.Grammar.{kind, bare}

-- t is a backslash and bytes that stand for the byte b when some text follows them (Tcl(n), rule 9)
abbrev pub IsEscapeOf : ℕ → List ℕ → Type 0
IsEscapeOf b t = (e z : List ℕ) × (t ≡ 92 ∷ e) × (escape (e ++ z) ≡ Ok (b, z))

-- a backslash and an open bracket never stand for themselves (Tcl(n), rules 7 and 9); a dollar does
-- where no name follows (rule 8)
abbrev pub is_special : ℕ → Bool
is_special b = (b == 92) || (b == 91)

-- a byte of a word is spelled by itself, where it neither ends that place nor begins a
-- substitution, or by an escape (Tcl(n), rule 9)
abbrev pub SpellsByte : Place → ℕ → List ℕ → Type 0
SpellsByte place b t = ((t ≡ b ∷ []) × (ends_parts place (b ∷ []) ≡ false)
    × (is_special b ≡ false)) ⊎ IsEscapeOf b t

-- letters, digits and underscores, at least one (Tcl(n), rule 8)
abbrev pub IsName : List ℕ → Type 0
IsName n = (n ≡ [] → ⊥) × (after_name n ≡ [])

-- $name, or ${name} with no closing brace in the name (Tcl(n), rule 8)
abbrev pub SpellsVariable : List ℕ → List ℕ → Type 0
SpellsVariable n t = (IsName n × (t ≡ 36 ∷ n))
    ⊎ ((from 125 n ≡ []) × (t ≡ 36 ∷ 123 ∷ (n ++ 125 ∷ [])))

-- ${name(index)} with no closing brace in it: the index is its bytes (Tcl(n), rule 8)
abbrev pub SpellsWhole : List ℕ → Parts → List ℕ → Type 0
SpellsWhole n is t = (i : List ℕ) × (is ≡ bytes_then i no_parts)
    × (from 125 (n ++ 40 ∷ (i ++ 41 ∷ [])) ≡ [])
    × (t ≡ 36 ∷ 123 ∷ ((n ++ 40 ∷ (i ++ 41 ∷ [])) ++ 125 ∷ []))

-- words are separated by white space and by continued lines (Tcl(n), rules 3 and 9)
pub data IsWhiteText : Context → List ℕ → Type 0 where
  no_white : (context : Context) → IsWhiteText context []
  white : (context : Context) (c : ℕ) (s : List ℕ) → is_white context c ≡ true
      → IsWhiteText context s → IsWhiteText context (c ∷ s)
  white_line : (context : Context) (s : List ℕ) → IsWhiteText context s
      → IsWhiteText context (92 ∷ 10 ∷ s)

-- after its # a comment has no newline except after a backslash, which is taken together with the
-- byte after it (Tcl(n), rule 10)
pub data IsComment : List ℕ → Type 0 where
  no_comment : IsComment []
  comment_byte : (c : ℕ) (s : List ℕ) → (c == 10) ≡ false → (c == 92) ≡ false → IsComment s
      → IsComment (c ∷ s)
  comment_pair : (c : ℕ) (s : List ℕ) → IsComment s → IsComment (92 ∷ c ∷ s)

-- before a command stand white space, separators, continued lines and comments, each comment up to
-- its newline (Tcl(n), rules 1, 3, 9 and 10)
pub data IsGapText : Context → List ℕ → Type 0 where
  no_gap : (context : Context) → IsGapText context []
  gap_byte : (context : Context) (c : ℕ) (s : List ℕ)
      → is_white context c || is_separator context c ≡ true → IsGapText context s
      → IsGapText context (c ∷ s)
  gap_line : (context : Context) (s : List ℕ) → IsGapText context s
      → IsGapText context (92 ∷ 10 ∷ s)
  gap_comment : (context : Context) (k s : List ℕ) → IsComment k → IsGapText context s
      → IsGapText context (35 ∷ (k ++ 10 ∷ s))

-- A comment that goes up to the text's end, with its # (Tcl(n), rule 10); its last byte may be a
-- backslash.
abbrev pub IsLastComment : List ℕ → Type 0
IsLastComment t = (k : List ℕ) × IsComment k × ((t ≡ 35 ∷ k) ⊎ (t ≡ 35 ∷ (k ++ 92 ∷ [])))

-- What may stand between the last gap and the unread text: nothing, or a comment up to the text's
-- end (Tcl(n), rule 10).
abbrev pub IsTail : List ℕ → List ℕ → Type 0
IsTail t z = (t ≡ []) ⊎ ((z ≡ []) × IsLastComment t)

-- The parts ps are spelled by t, without {*}: in braces, by a balanced content with that value
-- (Tcl(n), rule 6); in quotes (rule 4); or bare, beginning with neither a brace nor a quote. The
-- parts at a place are spelled as Spells says.
abbrev pub SpellsBody : Context → Parts → (Place → List ℕ → Type 0) → List ℕ → Type 0
SpellsBody context ps Spells t =
    ((content value : List ℕ) × (t ≡ 123 ∷ (content ++ 125 ∷ [])) × IsBalanced content
    × IsValue value content × (ps ≡ bytes_then value no_parts)) ⊎
    (((s : List ℕ) × (t ≡ 34 ∷ (s ++ 34 ∷ [])) × Spells within_quotes s) ⊎
    ((kind t ≡ bare) × Spells (in_word context) t))

-- a word that is expanded begins with {*} (Tcl(n), rule 5)
abbrev pub prefixed : Bool → List ℕ → List ℕ
prefixed true t = 123 ∷ 42 ∷ 125 ∷ t
prefixed false t = t

-- the gap g before the words ws is not empty, unless there are no words (Tcl(n), rule 3)
abbrev pub AreParted : List ℕ → Words → Type 0
AreParted g no_words = Unit {0}
AreParted g (word e ps ws) = g ≡ [] → ⊥

-- Each says: the text t spells this tree.
abbrev mutual
  -- bytes, variables, elements with the parts of their index, and scripts in brackets, one after
  -- the other (Tcl(n), rules 7 and 8)
  pub SpellsParts : Place → Parts → List ℕ → Type 0
  SpellsParts place no_parts t = t ≡ []
  SpellsParts place (byte b ps) t = (p q : List ℕ) × (t ≡ p ++ q) × SpellsByte place b p
      × SpellsParts place ps q
  SpellsParts place (variable n ps) t = (p q : List ℕ) × (t ≡ p ++ q) × SpellsVariable n p
      × SpellsParts place ps q
  SpellsParts place (element n is ps) t =
      (p q : List ℕ) × (t ≡ p ++ q)
      × (((i : List ℕ) × IsName n × (p ≡ (36 ∷ n) ++ 40 ∷ (i ++ 41 ∷ []))
      × SpellsParts within_index is i) ⊎ SpellsWhole n is p)
      × SpellsParts place ps q
  SpellsParts place (script cs ps) t =
      (p q : List ℕ) × (t ≡ p ++ q)
      × ((s : List ℕ) × (p ≡ 91 ∷ (s ++ 93 ∷ [])) × SpellsCommands bracketed cs s)
      × SpellsParts place ps q

  -- words, each with the white space after it (Tcl(n), rule 3)
  pub SpellsWords : Context → Words → List ℕ → Type 0
  SpellsWords context no_words t = t ≡ []
  SpellsWords context (word e ps ws) t =
      (b g r : List ℕ) × (t ≡ prefixed e b ++ (g ++ r))
      × SpellsBody context ps (λ place s. SpellsParts place ps s) b
      × IsWhiteText context g × AreParted g ws × SpellsWords context ws r

  -- commands, a gap before each and after the last; what stands after a command begins with what
  -- ends it (Tcl(n), rule 1)
  pub SpellsCommands : Context → Commands → List ℕ → Type 0
  SpellsCommands context no_commands t = IsGapText context t
  SpellsCommands context (command ws cs) t =
      (g w r : List ℕ) × (t ≡ g ++ (w ++ r)) × IsGapText context g × SpellsWords context ws w
      × (ends_command context r ≡ true) × SpellsCommands context cs r

-- The text x is a piece of which Spells holds, and then z.
abbrev pub Begins : (List ℕ → Type 0) → List ℕ → List ℕ → Type 0
Begins Spells x z = (s : List ℕ) × (x ≡ s ++ z) × Spells s

-- The text x is a piece of which Spells holds, then nothing or a comment up to the text's end, and
-- then z.
abbrev pub BeginsWhole : (List ℕ → Type 0) → List ℕ → List ℕ → Type 0
BeginsWhole Spells x z = (s t : List ℕ) × (x ≡ s ++ (t ++ z)) × Spells s × IsTail t z
