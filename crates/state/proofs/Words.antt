-- The words of a command: bytes in them, those that are texts as they stand, and what holds of them
-- where it holds of all that may follow them.
use Rattle.std.proofs.Common.{◌≡◌, ◌∙◌, ℕ, ◌++◌, List, [], ◌∷◌, Bool, true, false, Some, None, append_assoc, refl, sym, ap}
use Rattle.std.proofs.lemmas.List.{append-nil}
use Rattle.state.proofs.Closed.{Closed, inside_closed, listed_closed, reads_closed, value_closed}
use Rattle.state.specs.Prelude.{Course, on_value, Status}
use Rattle.tclparse.specs.Tree.{Commands, Parts, no_parts, byte, variable, element, script, Words, no_words, word, bytes_then, literals, texts_then}
use Rattle.state.specs.Words.{nested, parts, expanded, words}

-- bytes of a word go after those before them
pub literal : (levels : ℕ) (v : List ℕ) (ps : Parts) (bytes : List ℕ) (s : Status)
    (k : Status → List ℕ → Course) →
    parts levels (bytes_then v ps) bytes s k ≡ parts levels ps (bytes ++ v) s k
literal levels [] ps bytes s k = ap (λ b. parts levels ps b s k) (sym (append-nil bytes))
literal levels (b ∷ v) ps bytes s k =
    literal levels v ps (bytes ++ b ∷ []) s k
    ∙ ap (λ w. parts levels ps w s k) (append_assoc bytes (b ∷ []) v)

-- words that are texts as they stand are these texts
pub literal_words : (levels : ℕ) (texts before : List (List ℕ)) (s : Status)
    (next : Status → List (List ℕ) → Course) →
    words levels (literals texts) before s next ≡ next s (before ++ texts)
literal_words levels [] before s next = ap (next s) (sym (append-nil before))
literal_words levels (text ∷ texts) before s next =
    literal levels text no_parts [] s
    (λ t value. words levels (literals texts) (before ++ value ∷ []) t next)
    ∙ literal_words levels texts (before ++ text ∷ []) s next
    ∙ ap (next s) (append_assoc before (text ∷ []) texts)

-- words that are texts as they stand are these texts, before other words
pub text_words : (levels : ℕ) (texts before : List (List ℕ)) (ws : Words) (s : Status)
    (next : Status → List (List ℕ) → Course) →
    words levels (texts_then texts ws) before s next ≡ words levels ws (before ++ texts) s next
text_words levels [] before ws s next =
    ap (λ vs. words levels ws vs s next) (sym (append-nil before))
text_words levels (text ∷ texts) before ws s next =
    literal levels text no_parts [] s
    (λ t value. words levels (texts_then texts ws) (before ++ value ∷ []) t next)
    ∙ text_words levels texts (before ++ text ∷ []) ws s next
    ∙ ap (λ vs. words levels ws vs s next) (append_assoc before (text ∷ []) texts)

module _ (P : Status → Course → Type 0) (closed : Closed P) where
  -- a script in a word
  pub nested_closed : (levels : ℕ) (commands : Commands) (s : Status)
      (next : Status → List ℕ → Course) → ((u : Status) (v : List ℕ) → P u (next u v)) →
      P s (nested levels commands s next)
  nested_closed levels commands s next each =
      inside_closed P closed levels (record { commands = commands; fault = None }) s
      (on_value next) (λ u stop. (u, refl)) (value_closed P closed.over next each)

  -- the parts of a word
  pub parts_closed : (levels : ℕ) (ps : Parts) (bytes : List ℕ) (s : Status)
      (next : Status → List ℕ → Course) → ((u : Status) (v : List ℕ) → P u (next u v)) →
      P s (parts levels ps bytes s next)
  parts_closed levels no_parts bytes s next each = each s bytes
  parts_closed levels (byte b ps) bytes s next each =
      parts_closed levels ps (bytes ++ b ∷ []) s next each
  parts_closed levels (variable name ps) bytes s next each =
      reads_closed P closed name None s _
      (λ value. parts_closed levels ps (bytes ++ value) s next each)
  parts_closed levels (element name is ps) bytes s next each =
      parts_closed levels is [] s _ (λ t index.
      reads_closed P closed name (Some index) t _
      (λ value. parts_closed levels ps (bytes ++ value) t next each))
  parts_closed levels (script commands ps) bytes s next each =
      nested_closed levels commands s _
      (λ t value. parts_closed levels ps (bytes ++ value) t next each)

  expanded_closed : (expands : Bool) (value : List ℕ) (s : Status)
      (next : List (List ℕ) → Course) → ((more : List (List ℕ)) → P s (next more)) →
      P s (expanded expands value s next)
  expanded_closed false value s next each = each (value ∷ [])
  expanded_closed true value s next each = listed_closed P closed value s next each

  -- the words of a command
  pub words_closed : (levels : ℕ) (ws : Words) (values : List (List ℕ)) (s : Status)
      (next : Status → List (List ℕ) → Course) →
      ((u : Status) (vs : List (List ℕ)) → P u (next u vs)) →
      P s (words levels ws values s next)
  words_closed levels no_words values s next each = each s values
  words_closed levels (word expands ps ws) values s next each =
      parts_closed levels ps [] s _ (λ t value.
      expanded_closed expands value t _ (λ more.
      words_closed levels ws (values ++ more) t next each))
