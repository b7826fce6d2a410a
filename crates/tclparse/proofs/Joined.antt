-- The unread text after parts, words and commands is an end of the text.
use Rattle.std.proofs.Common.{◌≡◌, ℕ, ◌-◌, ◌==◌, ◌&&◌, ◌||◌, List, [], ◌∷◌, ◌++◌, Bool, true, false, Some, None, Ok, Err, if◌then◌else◌, sym, subst, inl, inr, ◌∙◌, append_assoc}
use Rattle.tclparse.specs.Fault.{Fault, after_brace, after_quote}
use Rattle.tclparse.specs.Tree.{Parts, no_parts, byte, variable, element, script, Words, no_words, word, Commands, no_commands, command}
use Rattle.tclparse.specs.Context.{Context, bracketed, ends_word, is_white, is_separator, is_continuation}
use Rattle.tclparse.specs.Gap.{Gap, skip_white, skip_gap, between, comment, in_pair, after_comment_byte}
use Rattle.tcltext.specs.Balanced.{IsPaired}
use Rattle.tclparse.specs.Piece.{Place, in_word, within_quotes, within_index, Next, end, fault, a_byte, a_name, an_index, an_element, a_bracket, next}
use Rattle.tclparse.specs.Grammar.{Outcome, Then, EndsAs, bracket_closed, index_closed, quotes_closed, Kind, in_braces, in_quotes, bare, kind, without_prefix, unprefixed, IsBraced, IsWord, IsParts, IsWords, IsCommands}
use Rattle.tclparse.specs.Spelled.{Joins, Behind, Leaves}
use Rattle.tclparse.proofs.Spelled.{joins_self, joins_more, joins_trans, joins_if, behind_trans, next_behind, nothing_next}

pub white_joins : (context : Context) (hidden : Bool) (x : List ℕ) →
    Joins x (skip_white context hidden x)
white_joins context hidden [] = joins_self []
white_joins context true (c ∷ x) = joins_more c x (skip_white context false x)
    (white_joins context false x)
white_joins context false (c ∷ x) =
    joins_if (is_white context c) (c ∷ x) (skip_white context false x) _
    (joins_more c x (skip_white context false x) (white_joins context false x))
    (joins_if (is_continuation c x) (c ∷ x) (skip_white context true x) (c ∷ x)
    (joins_more c x (skip_white context true x) (white_joins context true x))
    (joins_self (c ∷ x)))

pub gap_joins : (context : Context) (gap : Gap) (x : List ℕ) → Joins x (skip_gap context gap x)
gap_joins context gap [] = joins_self []
gap_joins context in_pair (c ∷ x) = joins_more c x (skip_gap context comment x)
    (gap_joins context comment x)
gap_joins context comment (c ∷ x) = joins_more c x (skip_gap context (after_comment_byte c) x)
    (gap_joins context (after_comment_byte c) x)
gap_joins context between (c ∷ x) =
    let whole = c ∷ x in
    let on = joins_more c x (skip_gap context between x) (gap_joins context between x) in
    joins_if (is_white context c || is_separator context c) whole (skip_gap context between x) _ on
    (joins_if (c == 35) whole (skip_gap context comment x) _
    (joins_more c x (skip_gap context comment x) (gap_joins context comment x))
    (joins_if (is_continuation c x) whole (skip_gap context between x) whole on (joins_self whole)))

-- the text after a closing brace is an end of the text
pub paired_joins : (x content rest : List ℕ) → IsPaired x content rest → Joins x rest
paired_joins x content rest h = (
  content ++ 125 ∷ [],
  h.0
      ∙ sym (append_assoc content (125 ∷ []) rest),
)

joins_behind : (x w : List ℕ) (c : ℕ) → Joins x (c ∷ w) → Joins x w
joins_behind x w c h = joins_trans x (c ∷ w) w h (joins_more c w w (joins_self w))

pub leaves_trans : (x y : List ℕ) (o : Outcome) → Joins x y → Leaves y o → Leaves x o
leaves_trans x y (Ok z) h k = joins_trans x y z h k
leaves_trans x y (Err f) h k = tt

-- a fault leaves no text, so there is nothing to show
pub fault_leaves : (x : List ℕ) (o : Outcome) (f : Fault) → o ≡ Err f → Leaves x o
fault_leaves x o f e = subst (Leaves x) (sym e) tt

pub rest_leaves : (x z : List ℕ) (o : Outcome) → Joins x z → o ≡ Ok z → Leaves x o
rest_leaves x z o h e = subst (Leaves x) (sym e) h

pub bracket_leaves : (x : List ℕ) (r : Outcome) → Leaves x r → Leaves x (bracket_closed r)
bracket_leaves x (Ok []) h = tt
bracket_leaves x (Ok (c ∷ w)) h = joins_behind x w c h
bracket_leaves x (Err f) h = tt

pub index_leaves : (x : List ℕ) (r : Outcome) → Leaves x r → Leaves x (index_closed r)
index_leaves x (Ok []) h = tt
index_leaves x (Ok (c ∷ w)) h = joins_behind x w c h
index_leaves x (Err f) h = tt

ended_leaves : (b : Bool) (x z : List ℕ) (f : Fault) → Joins x z →
    Leaves x (if b then Ok z else Err f)
ended_leaves true x z f h = h
ended_leaves false x z f h = tt

pub quotes_leaves : (context : Context) (x : List ℕ) (r : Outcome) → Leaves x r →
    Leaves x (quotes_closed context r)
quotes_leaves context x (Ok []) h = tt
quotes_leaves context x (Ok (c ∷ w)) h =
    ended_leaves (ends_word context w) x w after_quote (joins_behind x w c h)
quotes_leaves context x (Err f) h = tt

pub then_leaves : (x : List ℕ) (r o : Outcome) (T : Type 0) (M : List ℕ → Type 0) → Leaves x r →
    Then r T M o → ((w : List ℕ) → M w → Leaves w o) → Leaves x o
then_leaves x (Ok w) o T M h k more = leaves_trans x w o h (more w k)
then_leaves x (Err f) o T M h k more = fault_leaves x o f k.1

pub piece_behind : (place : Place) (d : ℕ) (x : List ℕ) → Behind (next place d x) x
piece_behind place d [] = subst (λ m. Behind m []) (sym (nothing_next place d)) tt
piece_behind place d (c ∷ x) = behind_trans (next place d (c ∷ x)) (c ∷ x) x
    (joins_more c x x (joins_self x)) (next_behind place d c x)

ends_leaves : (n : Next) (x : List ℕ) (o : Outcome) → EndsAs n x o → Leaves x o
ends_leaves end x o h = rest_leaves x x o (joins_self x) h
ends_leaves (fault f) x o h = fault_leaves x o f h
ends_leaves (a_byte b z) x o h = absurd h
ends_leaves (a_name n z) x o h = absurd h
ends_leaves (an_index n z) x o h = absurd h
ends_leaves (an_element n i z) x o h = absurd h
ends_leaves (a_bracket z) x o h = absurd h

abbrev pub KindBehind : Kind → List ℕ → Type 0
KindBehind (in_braces z) x = Joins x z
KindBehind (in_quotes z) x = Joins x z
KindBehind bare x = Unit {0}

kind_if : (b : Bool) (m n : Kind) (x : List ℕ) → KindBehind m x → KindBehind n x →
    KindBehind (if b then m else n) x
kind_if true m n x h k = h
kind_if false m n x h k = k

pub kind_behind : (x : List ℕ) → KindBehind (kind x) x
kind_behind [] = tt
kind_behind (c ∷ x) =
    let on = joins_more c x x (joins_self x) in
    kind_if (c == 123) (in_braces x) _ (c ∷ x) on
    (kind_if (c == 34) (in_quotes x) bare (c ∷ x) on tt)

pub braced_leaves : (context : Context) (ps : Parts) (x : List ℕ) (r : Outcome) →
    IsBraced context ps x r → Leaves x r
braced_leaves context ps x r (inl h) =
    subst (Leaves x) (sym h.6) (ended_leaves (ends_word context h.1) x h.1 after_brace
    (paired_joins x h.0 h.1 h.3))
braced_leaves context ps x r (inr h) = fault_leaves x r _ h.2

pub word_leaves : (context : Context) (d : ℕ) (ps : Parts) (w : Kind) (x : List ℕ) (r : Outcome) →
    KindBehind w x → IsWord context ps (λ place z s. IsParts place d ps z s) w x r
    → ((place : Place) (z : List ℕ) (s : Outcome) → IsParts place d ps z s → Leaves z s) →
    Leaves x r
word_leaves context d ps (in_braces z) x r h k parts =
    leaves_trans x z r h (braced_leaves context ps z r k)
word_leaves context d ps (in_quotes z) x r h k parts =
    leaves_trans x z r h (subst (Leaves z) (sym k.2)
    (quotes_leaves context z k.0 (parts within_quotes z k.0 k.1)))
word_leaves context d ps bare x r h k parts = parts (in_word context) x r k

star_if : (b : Bool) (context : Context) (x z : List ℕ) → Joins x z →
    Joins x (without_prefix context x (if b then Some z else None))
star_if true context x z h = joins_if (ends_word context z) x x z (joins_self x) h
star_if false context x z h = joins_self x

pub unprefixed_joins : (context : Context) (x : List ℕ) → Joins x (unprefixed context x)
unprefixed_joins context [] = joins_self []
unprefixed_joins context (a ∷ []) = joins_self (a ∷ [])
unprefixed_joins context (a ∷ b ∷ []) = joins_self (a ∷ b ∷ [])
unprefixed_joins context (a ∷ b ∷ c ∷ z) =
    star_if ((a == 123) && ((b == 42) && (c == 125))) context (a ∷ b ∷ c ∷ z) z
    (joins_more a (b ∷ c ∷ z) z (joins_more b (c ∷ z) z (joins_more c z z (joins_self z))))

mutual
  pub parts_leave : (ps : Parts) (place : Place) (d : ℕ) (x : List ℕ) (o : Outcome) →
      IsParts place d ps x o → Leaves x o
  parts_leave no_parts place d x o h = ends_leaves (next place d x) x o h
  parts_leave (byte b ps) place d x o h =
      let on : Joins x h.0 = subst (λ m. Behind m x) h.1 (piece_behind place d x) in
      leaves_trans x h.0 o on (parts_leave ps place d h.0 o h.2)
  parts_leave (variable n ps) place d x o h =
      let on : Joins x h.0 = subst (λ m. Behind m x) h.1 (piece_behind place d x) in
      leaves_trans x h.0 o on (parts_leave ps place d h.0 o h.2)
  parts_leave (element n is ps) place d x o (inl h) =
      let on : Joins x h.0 = subst (λ m. Behind m x) h.1 (piece_behind place d x) in
      leaves_trans x h.0 o on (then_leaves h.0 (index_closed h.2) o (ps ≡ no_parts)
      (λ w. IsParts place d ps w o)
      (index_leaves h.0 h.2 (parts_leave is within_index (d - 1) h.0 h.2 h.3)) h.4
      (λ w k. parts_leave ps place d w o k))
  parts_leave (element n is ps) place d x o (inr h) =
      let on : Joins x h.1 = subst (λ m. Behind m x) h.2 (piece_behind place d x) in
      leaves_trans x h.1 o on (parts_leave ps place d h.1 o h.4)
  parts_leave (script cs ps) place d x o h =
      let on : Joins x h.0 = subst (λ m. Behind m x) h.1 (piece_behind place d x) in
      leaves_trans x h.0 o on (then_leaves h.0 (bracket_closed h.2) o (ps ≡ no_parts)
      (λ w. IsParts place d ps w o)
      (bracket_leaves h.0 h.2 (commands_leave cs bracketed (d - 1) h.0 h.2 h.3)) h.4
      (λ w k. parts_leave ps place d w o k))

  pub words_leave : (ws : Words) (context : Context) (d : ℕ) (x : List ℕ) (o : Outcome) →
      IsWords context d ws x o → Leaves x o
  words_leave no_words context d x o h = rest_leaves x x o (joins_self x) h.1
  words_leave (word e ps ws) context d x o h =
      let body = unprefixed context x in
      let first = leaves_trans x body h.2 (unprefixed_joins context x)
      (word_leaves context d ps (kind body) body h.2 (kind_behind body) h.3
      (λ place z s k. parts_leave ps place d z s k)) in
      then_leaves x h.2 o (ws ≡ no_words) (λ z. IsWords context d ws (skip_white context false z) o)
      first h.4
      (λ z k. leaves_trans z (skip_white context false z) o (white_joins context false z)
      (words_leave ws context d (skip_white context false z) o k))

  pub commands_leave : (cs : Commands) (context : Context) (d : ℕ) (x : List ℕ) (o : Outcome) →
      IsCommands context d cs x o → Leaves x o
  commands_leave no_commands context d x o h =
      rest_leaves x (skip_gap context between x) o (gap_joins context between x) h.1
  commands_leave (command ws cs) context d x o h =
      let start = skip_gap context between x in
      let first = leaves_trans x start h.1 (gap_joins context between x)
      (words_leave ws context d start h.1 h.2) in
      then_leaves x h.1 o (cs ≡ no_commands) (λ z. IsCommands context d cs z o) first h.3
      (λ z k. commands_leave cs context d z o k)

pub ruleset ends_of_texts = (
  piece_behind,
  white_joins,
  gap_joins,
  parts_leave,
  words_leave,
  commands_leave,
)
