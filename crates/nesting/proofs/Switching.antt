-- A property that is closed under the steps of which courses are made holds of switch.
use Rattle.std.proofs.Common.{ℕ, List, [], ◌∷◌, length, Bool, true, false, Option, Some, None, refl}
use Rattle.std.specs.Prelude.{codes, nat_le, nat_lt, if◌then◌else◌}
use Rattle.std.specs.Str.{bytes_eq}
use Rattle.acts.specs.Flaw as flaw
use Rattle.nesting.specs.Eval.{passed}
use Rattle.nesting.specs.Switch.{Mode, Exact, Glob, behind_flag, body_of, chosen, is_default, left_over, on_arms, on_flags, on_words, runs_body, switch, takes, tried, unless_left, wrong_word, wrong_words}
use Rattle.state.proofs.Closed.{Closed, listed_closed, raises_closed, within_closed}
use Rattle.state.specs.Arguments.{begins_with_dash}
use Rattle.state.specs.Prelude.{Course, Gives, Status}
use Rattle.state.specs.Piece.{TestText}
use Rattle.patterns.specs.Glob.{plain}

module _ (P : Status → Course → Type 0) (closed : Closed P) where
  either_closed : (test : Bool) (one other : Course) (s : Status) → P s one → P s other →
      P s (if test then one else other)
  either_closed true one other s holds also = holds
  either_closed false one other s holds also = also

  wrong_closed : (s : Status) → P s (wrong_words s)
  wrong_closed s = raises_closed P closed (flaw.WrongArgs (codes "switch")) s

  word_closed : (word : List ℕ) (s : Status) → P s (wrong_word word s)
  word_closed word s = raises_closed P closed (flaw.BadArgument word (codes "switch")) s

  takes_closed : (mode : Mode) (pattern text : List ℕ) (s : Status) (next : Bool → Course) →
      ((b : Bool) → P s (next b)) → P s (takes mode pattern text s next)
  takes_closed Exact pattern text s next each = each (bytes_eq pattern text)
  takes_closed Glob pattern text s next each =
      either_closed (nat_lt 1000000 (length pattern)) _ _ s
      (raises_closed P closed flaw.PatternTooLong s)
      (closed.reading (TestText (plain pattern).items text) s next each)

  tried_closed : (any : Bool) (mode : Mode) (pattern text : List ℕ) (s : Status)
      (next : Bool → Course) → ((b : Bool) → P s (next b)) → P s (tried any mode pattern text s next)
  tried_closed true mode pattern text s next each = each true
  tried_closed false mode pattern text s next each = takes_closed mode pattern text s next each

  chosen_closed : (mode : Mode) (text : List ℕ) (arms : List (List ℕ)) (s : Status)
      (next : Option (List ℕ) → Course) → ((body : Option (List ℕ)) → P s (next body)) →
      P s (chosen mode text arms s next)
  chosen_closed mode text [] s next each = each None
  chosen_closed mode text (pattern ∷ []) s next each = each None
  chosen_closed mode text (pattern ∷ body ∷ more) s next each =
      tried_closed (is_default pattern more) mode pattern text s _ (λ it_does.
      either_closed it_does (next (body_of (body ∷ more))) (chosen mode text more s next) s
      (each (body_of (body ∷ more))) (chosen_closed mode text more s next each))

  body_closed : (levels : ℕ) (s : Status) (body : Option (List ℕ)) → P s (runs_body levels s body)
  body_closed levels s None = closed.over s (Gives [])
  body_closed levels s (Some body) =
      within_closed P closed levels body s passed (λ u stop. (u, refl)) (λ u o. closed.over u o)

  unless_closed : (word : Option (List ℕ)) (s : Status) (next : Course) → P s next →
      P s (unless_left word s next)
  unless_closed None s next holds = holds
  unless_closed (Some word) s next holds = word_closed word s

  arms_closed : (levels : ℕ) (mode : Mode) (text : List ℕ) (arms : List (List ℕ)) (s : Status) →
      P s (on_arms levels mode text arms s)
  arms_closed levels mode text arms s =
      unless_closed (left_over arms) s _
      (chosen_closed mode text arms s (runs_body levels s) (body_closed levels s))

  words_closed : (levels : ℕ) (mode : Mode) (words : List (List ℕ)) (s : Status) →
      P s (on_words levels mode words s)
  words_closed levels mode [] s = wrong_closed s
  words_closed levels mode (text ∷ []) s = wrong_closed s
  words_closed levels mode (text ∷ list ∷ []) s =
      listed_closed P closed list s _ (λ arms. arms_closed levels mode text arms s)
  words_closed levels mode (text ∷ pattern ∷ body ∷ more) s =
      arms_closed levels mode text (pattern ∷ body ∷ more) s

  behind_closed : (levels : ℕ) (mode : Mode) (words : List (List ℕ)) (s : Status) →
      P s (behind_flag levels mode words s)
  behind_closed levels mode [] s = wrong_closed s
  behind_closed levels mode (word ∷ words) s =
      either_closed (bytes_eq word (codes "--")) _ _ s (words_closed levels mode words s)
      (either_closed (begins_with_dash word) _ _ s (word_closed word s)
      (words_closed levels mode (word ∷ words) s))

  flags_closed : (levels : ℕ) (words : List (List ℕ)) (s : Status) → P s (on_flags levels words s)
  flags_closed levels [] s = wrong_closed s
  flags_closed levels (word ∷ words) s =
      either_closed (bytes_eq word (codes "-exact")) _ _ s (behind_closed levels Exact words s)
      (either_closed (bytes_eq word (codes "-glob")) _ _ s (behind_closed levels Glob words s)
      (behind_closed levels Exact (word ∷ words) s))

  pub switch_closed : (levels : ℕ) (args : List (List ℕ)) (s : Status) → P s (switch levels args s)
  switch_closed levels args s =
      either_closed (nat_le (length args) 2) _ _ s (words_closed levels Exact args s)
      (flags_closed levels args s)
