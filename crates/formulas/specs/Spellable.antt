-- Which formulas can be spelled: what operands can be, which parentheses the levels of operators
-- require, and how much may be open (expr(n)).
use Rattle.std.specs.Prelude.{◌≡◌, ℕ, ◌+◌, ◌-◌, ◌<◌, ◌≤◌, ◌⊎◌, List, [], ◌∷◌, ◌++◌, Bool, true, false, Some, None}
use Rattle.tcltext.specs.Numeral.{IsUnsigned}
use Rattle.tclparse.specs.declared.operator.Function.{Function}
use Rattle.tclparse.specs.declared.operator.Function.TheVariants.{Abs, Min, Max}
use Rattle.tclparse.specs.Tree.{Parts, no_parts, byte, variable, element, script, Words, no_words, word, Commands, no_commands, command, bytes_then}
use Rattle.tclparse.specs.Variable.{from, named}
use Rattle.tclparse.specs.Spelling.{IsName}
use Rattle.tclparse.specs.Operator.{level}
use Rattle.tclparse.specs.Formula.{Formula, numeral, text, call, prefix, row, choice, Links, no_links, link, Formulas, no_formulas, formula}

-- ${n} is the variable n: no closing brace is in it, and it is the name of no element (Tcl(n),
-- rule 8)
abbrev pub IsVariable : List ℕ → Type 0
IsVariable n = (from 125 n ≡ []) × (named n ≡ Some (n, None))

-- ${n(i)} is the element whose index is the bytes i (Tcl(n), rule 8)
abbrev pub IsWholeElement : List ℕ → Parts → Type 0
IsWholeElement n is =
    (i : List ℕ) × (is ≡ bytes_then i no_parts)
    × (from 125 (n ++ 40 ∷ (i ++ 41 ∷ [])) ≡ [])
    × (named (n ++ 40 ∷ (i ++ 41 ∷ [])) ≡ Some (n, Some i))

-- Each says: where d more may be open, this can be spelled (Tcl(n), rules 1 to 10). Any byte can.
abbrev mutual
  -- the index of $n(..), and a script in brackets, each count as one more that is open
  pub ArePartsSpellable : ℕ → Parts → Type 0
  ArePartsSpellable d no_parts = Unit {0}
  ArePartsSpellable d (byte b ps) = ArePartsSpellable d ps
  ArePartsSpellable d (variable n ps) = IsVariable n × ArePartsSpellable d ps
  ArePartsSpellable d (element n is ps) =
      (((0 < d) × IsName n × ArePartsSpellable (d - 1) is) ⊎ IsWholeElement n is)
      × ArePartsSpellable d ps
  ArePartsSpellable d (script cs ps) =
      (0 < d) × AreCommandsSpellable (d - 1) cs × ArePartsSpellable d ps

  pub AreWordsSpellable : ℕ → Words → Type 0
  AreWordsSpellable d no_words = Unit {0}
  AreWordsSpellable d (word e ps ws) = ArePartsSpellable d ps × AreWordsSpellable d ws

  -- a command has a word
  pub AreCommandsSpellable : ℕ → Commands → Type 0
  AreCommandsSpellable d no_commands = Unit {0}
  AreCommandsSpellable d (command ws cs) =
      (ws ≡ no_words → ⊥) × AreWordsSpellable d ws × AreCommandsSpellable d cs

-- abs takes one argument, min and max at least one (mathfunc(n))
abbrev pub takes : Function → Formulas → Bool
takes g no_formulas = false
takes g (formula f no_formulas) = true
takes Abs (formula f (formula h fs)) = false
takes Min (formula f (formula h fs)) = true
takes Max (formula f (formula h fs)) = true

-- Where operators of the levels up to n may stand, one of level m stands bare, or in parentheses,
-- which are one more that is open: d more may be open outside, e more inside (expr(n), operators).
abbrev pub Stands : ℕ → ℕ → ℕ → ℕ → Type 0
Stands n m d e = ((m ≤ n) × (e ≡ d)) ⊎ (d ≡ e + 1)

-- Each says: this can be spelled where operators of the levels up to n may stand, and d more may be
-- open. Level 1 is that of prefixes, 14 that of choices (expr(n), operators).
abbrev mutual
  -- a number without a sign; a text in quotes; a call of arguments; a prefix before an operand; a
  -- row of one level, whose operands have tighter ones; a choice, both of whose formulas stand
  -- inside it
  pub IsSpellable : ℕ → ℕ → Formula → Type 0
  IsSpellable n d (numeral s) = (m : ℕ) × IsUnsigned m s
  IsSpellable n d (text ps) = ArePartsSpellable d ps
  IsSpellable n d (call g fs) = (0 < d) × (takes g fs ≡ true) × AreAllSpellable (d - 1) fs
  IsSpellable n d (prefix u f) = (0 < d) × IsSpellable 1 (d - 1) f
  IsSpellable n d (row f ls) =
      (m e : ℕ) × Stands n m d e × (ls ≡ no_links → ⊥) × IsSpellable (m - 1) e f
      × AreLinksSpellable m e ls
  IsSpellable n d (choice f g h) =
      (e : ℕ) × Stands n 14 d e × (0 < e) × IsSpellable 13 e f × IsSpellable 14 (e - 1) g
      × IsSpellable 14 (e - 1) h

  -- operators of level m, and their right operands
  pub AreLinksSpellable : ℕ → ℕ → Links → Type 0
  AreLinksSpellable m d no_links = Unit {0}
  AreLinksSpellable m d (link i f ls) =
      (level i ≡ m) × IsSpellable (m - 1) d f × AreLinksSpellable m d ls

  -- arguments
  pub AreAllSpellable : ℕ → Formulas → Type 0
  AreAllSpellable d no_formulas = Unit {0}
  AreAllSpellable d (formula f fs) = IsSpellable 14 d f × AreAllSpellable d fs
