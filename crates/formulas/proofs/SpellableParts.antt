-- Parts, words and commands that a text is read as can be spelled.
use Rattle.std.proofs.Common.{◌≡◌, ℕ, zero, suc, ◌-◌, ◌<◌, ◌≤◌, ◌==◌, ◌||◌, List, [], ◌∷◌, ◌++◌, Bool, true, false, Option, Some, None, Ok, if◌then◌else◌, inl, inr, refl, sym, ap, subst, ◌∙◌, append_assoc, arith}
use Rattle.std.proofs.lemmas.Bool.Decides.{eqb_tells}
use Rattle.tclparse.specs.Fault.{too_deep}
use Rattle.tclparse.specs.Tree.{Parts, no_parts, byte, variable, element, script, Words, no_words, word, Commands, no_commands, command, bytes_then}
use Rattle.tclparse.specs.Context.{bracketed, is_white, is_separator, is_continuation, ends_script, ends_command}
use Rattle.tclparse.specs.Gap.{Gap, skip_white, skip_gap, between, comment, in_pair, after_comment_byte}
use Rattle.tclparse.specs.Variable.{is_name, after_name, from, holds_colons, named}
use Rattle.tclparse.specs.Piece.{Place, in_word, within_quotes, within_index, Next, end, fault, a_byte, a_name, an_index, an_element, a_bracket, ends_parts, next_named, next_part, next}
use Rattle.tclparse.specs.Grammar.{Outcome, Kind, in_braces, in_quotes, bare, kind, unprefixed, bracket_closed, index_closed, IsWord, IsParts, IsWords, IsCommands}
use Rattle.tclparse.specs.Spelling.{IsName, SpellsWhole}
use Rattle.tclparse.proofs.Spelling.{if_known}
use Rattle.tclparse.proofs.SpelledPieces.{IsSpelled, piece_spelled}
use Rattle.tclparse.proofs.SpelledTrees.{then_more, bracket_open, index_open, quotes_open}
use Rattle.formulas.specs.Spellable.{IsVariable, IsWholeElement, ArePartsSpellable, AreWordsSpellable, AreCommandsSpellable}
use Rattle.formulas.proofs.PartTexts.{not_same, all_name, name_found, name_left, until_brace, from_brace, braced_text, index_text}

-- what can be spelled where some may be open can be where more may
mutual
  pub parts_more : (ps : Parts) (d e : ℕ) → d ≤ e → ArePartsSpellable d ps → ArePartsSpellable e ps
  parts_more no_parts d e less h = tt
  parts_more (byte b ps) d e less h = parts_more ps d e less h
  parts_more (variable n ps) d e less h = (h.0, parts_more ps d e less h.1)
  parts_more (element n is ps) d e less (inl i, h) = (
    inl (
      omega (arith, less, i.0),
      i.1,
      parts_more is (d - 1) (e - 1) (omega (arith, less)) i.2,
    ),
    parts_more ps d e less h,
  )
  parts_more (element n is ps) d e less (inr w, h) = (inr w, parts_more ps d e less h)
  parts_more (script cs ps) d e less h = (
    omega (arith, less, h.0),
    commands_more cs (d - 1) (e - 1) (omega (arith, less)) h.1,
    parts_more ps d e less h.2,
  )

  words_more : (ws : Words) (d e : ℕ) → d ≤ e → AreWordsSpellable d ws → AreWordsSpellable e ws
  words_more no_words d e less h = tt
  words_more (word x ps ws) d e less h = (parts_more ps d e less h.0, words_more ws d e less h.1)

  commands_more : (cs : Commands) (d e : ℕ) → d ≤ e → AreCommandsSpellable d cs →
      AreCommandsSpellable e cs
  commands_more no_commands d e less h = tt
  commands_more (command ws cs) d e less h =
      (h.0, words_more ws d e less h.1, commands_more cs d e less h.2)

pub bytes_spell : (v : List ℕ) (d : ℕ) → ArePartsSpellable d (bytes_then v no_parts)
bytes_spell [] d = tt
bytes_spell (b ∷ v) d = bytes_spell v d

-- a name holds none of the bytes that end one elsewhere
none_from : (b : ℕ) (n : List ℕ) → is_name b ≡ false → after_name n ≡ [] → from b n ≡ []
none_from b [] other h = refl
none_from b (c ∷ n) other h =
    let k = all_name (is_name c) c n (after_name n) h in
    let no : (c == b) ≡ false = not_same is_name c b k.0 other in
    rw (no, none_from b n other k.1) refl

no_colons : (n : List ℕ) → after_name n ≡ [] → holds_colons n ≡ false
no_colons [] h = refl
no_colons (c ∷ n) h =
    let k = all_name (is_name c) c n (after_name n) h in
    let no : (c == 58) ≡ false = not_same is_name c 58 k.0 refl in
    rw (no, no_colons n k.1) refl

name_variable : (n : List ℕ) → IsName n → IsVariable n
name_variable n h = (
  none_from 125 n refl h.1,
  rw (no_colons n h.1, none_from 40 n refl h.1) refl,
)

-- what is next, where that is not the end
open_if : (b : Bool) (n m : Next) → (m ≡ end → ⊥) → (if b then end else n) ≡ m → n ≡ m
open_if true n m some h = absurd (some (sym h))
open_if false n m some h = h

opened : (place : Place) (d : ℕ) (x : List ℕ) (m : Next) → (m ≡ end → ⊥) → next place d x ≡ m →
    next_part d x ≡ m
opened place d x m some h = open_if (ends_parts place x) (next_part d x) m some h

braced_part : (d : ℕ) (n z : List ℕ) → from 125 n ≡ [] → next_part d (braced_text n z)
    ≡ next_named (named n) z
braced_part d n z h = rw (until_brace n z h, from_brace n z h) refl

named_name : (v : Option (List ℕ × Option (List ℕ))) (n z : List ℕ) → next_named v z ≡ a_name n z →
    v ≡ Some (n, None)
named_name None n z h = absurd (cc (h))
named_name (Some (w, None)) n z h = let same : w ≡ n = cc (h) in ap (λ m. Some (m, None)) same
named_name (Some (w, Some i)) n z h = absurd (cc (h))

named_element : (v : Option (List ℕ × Option (List ℕ))) (n i z : List ℕ) → next_named v z
    ≡ an_element n i z → v ≡ Some (n, Some i)
named_element None n i z h = absurd (cc (h))
named_element (Some (w, None)) n i z h = absurd (cc (h))
named_element (Some (w, Some j)) n i z h =
    let same : (w ≡ n) × (j ≡ i) = (cc (h), cc (h)) in
    ap (λ m. Some (m, Some j)) same.0 ∙ ap (λ k. Some (n, Some k)) same.1

pub name_piece : (place : Place) (d : ℕ) (x n z : List ℕ) → next place d x ≡ a_name n z →
    IsVariable n
name_piece place d x n z h =
    let s : IsSpelled place (a_name n z) x =
    subst (λ m. IsSpelled place m x) h (piece_spelled place d x) in
    elim s.2 [
      | inl k ↦ name_variable n k.0
      | inr k ↦
          let is : x ≡ braced_text n z =
          s.1 ∙ ap (λ t. t ++ z) k.1 ∙ ap (λ t. 36 ∷ 123 ∷ t) (append_assoc n (125 ∷ []) z) in
          let at : next_part d (braced_text n z) ≡ a_name n z =
          ap (next_part d) (sym is) ∙ opened place d x (a_name n z) (λ e. absurd (cc (e))) h in (
            k.0,
            named_name (named n) n z (sym (braced_part d n z k.0) ∙ at),
          )
    ]

bytes_same : (i j : List ℕ) → bytes_then i no_parts ≡ bytes_then j no_parts → i ≡ j
bytes_same [] [] h = refl
bytes_same [] (c ∷ j) h = absurd (cc (h))
bytes_same (b ∷ i) [] h = absurd (cc (h))
bytes_same (b ∷ i) (c ∷ j) h =
    let first : b ≡ c = cc (h) in
    let rest : bytes_then i no_parts ≡ bytes_then j no_parts = cc (h) in
    ap (λ a. a ∷ i) first ∙ ap (λ l. c ∷ l) (bytes_same i j rest)

pub element_piece : (place : Place) (d : ℕ) (x n i z : List ℕ) → next place d x ≡ an_element n i z →
    IsWholeElement n (bytes_then i no_parts)
element_piece place d x n i z h =
    let s : IsSpelled place (an_element n i z) x =
    subst (λ m. IsSpelled place m x) h (piece_spelled place d x) in
    let k : SpellsWhole n (bytes_then i no_parts) s.0 = s.2 in
    let j : List ℕ = k.0 in
    let w : List ℕ = n ++ 40 ∷ (j ++ 41 ∷ []) in
    let same : i ≡ j = bytes_same i j k.1 in
    let is : x ≡ braced_text w z =
    s.1 ∙ ap (λ t. t ++ z) k.3 ∙ ap (λ t. 36 ∷ 123 ∷ t) (append_assoc w (125 ∷ []) z) in
    let at : next_part d (braced_text w z) ≡ an_element n i z =
    ap (next_part d) (sym is) ∙ opened place d x (an_element n i z) (λ e. absurd (cc (e))) h in (
      j,
      k.1,
      k.2,
      named_element (named w) n i z (sym (braced_part d w z k.2) ∙ at)
          ∙ ap (λ b. Some (n, Some b)) same,
    )

index_closed_off : (n z : List ℕ) → IsName n → next_part 0 (index_text n z) ≡ fault too_deep
index_closed_off [] z name = absurd (name.0 refl)
index_closed_off (c ∷ n) z name =
    let k = all_name (is_name c) c n (after_name n) name.1 in
    let brace = not_same is_name c 123 k.0 refl in
    let parenthesis = not_same is_name c 40 k.0 refl in
    rw (brace, parenthesis, k.0, name_found n z k.1, name_left n z k.1) refl

pub index_piece : (place : Place) (d : ℕ) (x n z : List ℕ) → next place d x ≡ an_index n z →
    (0 < d) × IsName n
index_piece place zero x n z h =
    let s : IsSpelled place (an_index n z) x =
    subst (λ m. IsSpelled place m x) h (piece_spelled place 0 x) in
    let at : next_part 0 (index_text n z) ≡ an_index n z =
    ap (next_part 0) (sym s.1) ∙ opened place 0 x (an_index n z) (λ e. absurd (cc (e))) h in
    let no = index_closed_off n z s.0 in
    absurd (cc (no, at))
index_piece place (suc d) x n z h =
    let s : IsSpelled place (an_index n z) x =
    subst (λ m. IsSpelled place m x) h (piece_spelled place (suc d) x) in (omega arith, s.0)

bracket_closed_off : (z : List ℕ) → next_part 0 (91 ∷ z) ≡ fault too_deep
bracket_closed_off z = refl

pub bracket_piece : (place : Place) (d : ℕ) (x z : List ℕ) → next place d x ≡ a_bracket z → 0 < d
bracket_piece place zero x z h =
    let s : IsSpelled place (a_bracket z) x =
    subst (λ m. IsSpelled place m x) h (piece_spelled place 0 x) in
    let at : next_part 0 (91 ∷ z) ≡ a_bracket z =
    ap (next_part 0) (sym s) ∙ opened place 0 x (a_bracket z) (λ e. absurd (cc (e))) h in
    let no = bracket_closed_off z in
    absurd (cc (no, at))
bracket_piece place (suc d) x z h = omega arith

-- what each piece says of what can be spelled, at whatever place it stands
abbrev pub PartSpells : ℕ → Next → Type 0
PartSpells d end = Unit {0}
PartSpells d (fault f) = Unit {0}
PartSpells d (a_byte b z) = Unit {0}
PartSpells d (a_name n z) = IsVariable n
PartSpells d (an_index n z) = (0 < d) × IsName n
PartSpells d (an_element n i z) = IsWholeElement n (bytes_then i no_parts)
PartSpells d (a_bracket z) = 0 < d

piece_spells : (place : Place) (d : ℕ) (x : List ℕ) (m : Next) → next place d x ≡ m → PartSpells d m
piece_spells place d x end h = tt
piece_spells place d x (fault f) h = tt
piece_spells place d x (a_byte b z) h = tt
piece_spells place d x (a_name n z) h = name_piece place d x n z h
piece_spells place d x (an_index n z) h = index_piece place d x n z h
piece_spells place d x (an_element n i z) h = element_piece place d x n i z h
piece_spells place d x (a_bracket z) h = bracket_piece place d x z h

pub part_spells : (d : ℕ) (x : List ℕ) → PartSpells d (next_part d x)
part_spells d [] = tt
part_spells d (c ∷ x) = elim (eqb_tells c 34) [
  | inl p ↦ subst (λ b. PartSpells d (next_part d (b ∷ x))) (sym p.1) tt
  | inr p ↦
      let is : next within_quotes d (c ∷ x) ≡ next_part d (c ∷ x) = rw p.0 refl in
      piece_spells within_quotes d (c ∷ x) (next_part d (c ∷ x)) is
]

-- after a gap no separator stands
abbrev NoSeparator : List ℕ → Type 0
NoSeparator [] = Unit {0}
NoSeparator (c ∷ x) = is_separator bracketed c ≡ false

neither_last : (a b : Bool) → (a || b) ≡ false → b ≡ false
neither_last true b h = absurd (cc)
neither_last false b h = h

gap_stops : (gap : Gap) (x : List ℕ) → NoSeparator (skip_gap bracketed gap x)
gap_stops between [] = tt
gap_stops comment [] = tt
gap_stops in_pair [] = tt
gap_stops in_pair (c ∷ x) = gap_stops comment x
gap_stops comment (c ∷ x) = gap_stops (after_comment_byte c) x
gap_stops between (c ∷ x) =
    if_known NoSeparator (is_white bracketed c || is_separator bracketed c)
    (skip_gap bracketed between x) _ (λ _. gap_stops between x)
    (λ n. if_known NoSeparator (c == 35) (skip_gap bracketed comment x) _
    (λ _. gap_stops comment x)
    (λ _. if_known NoSeparator (is_continuation c x) (skip_gap bracketed between x) (c ∷ x)
    (λ _. gap_stops between x)
    (λ _. neither_last (is_white bracketed c) (is_separator bracketed c) n)))

ends_none : (s c : Bool) → s ≡ false → c ≡ false → (s || c) ≡ true → ⊥
ends_none true c h k e = absurd (cc (h))
ends_none false true h k e = absurd (cc (k))
ends_none false false h k e = absurd (cc (e))

no_end : (x : List ℕ) → NoSeparator x → ends_script bracketed x ≡ false →
    ends_command bracketed x ≡ true → ⊥
no_end [] h k e = absurd (cc (k))
no_end (c ∷ x) h k e = ends_none (is_separator bracketed c) (c == 93) h k e

has_word : (ws : Words) (d : ℕ) (x : List ℕ) (o : Outcome) →
    ends_script bracketed (skip_gap bracketed between x) ≡ false
    → IsWords bracketed d ws (skip_gap bracketed between x) o → ws ≡ no_words → ⊥
has_word no_words d x o more h none =
    no_end (skip_gap bracketed between x) (gap_stops between x) more h.0
has_word (word e ps ws) d x o more h none = absurd (cc (none))

-- a word, whose parts can be spelled wherever they are read
word_spells : (k : Kind) (ps : Parts) (d : ℕ) (x z : List ℕ) →
    IsWord bracketed ps (λ place y o. IsParts place d ps y o) k x (Ok z)
    → ((place : Place) (y w : List ℕ) → IsParts place d ps y (Ok w) → ArePartsSpellable d ps) →
    ArePartsSpellable d ps
word_spells (in_braces y) ps d x z (inl h) parts =
    subst (ArePartsSpellable d) (sym h.5) (bytes_spell h.2 d)
word_spells (in_braces y) ps d x z (inr h) parts = absurd (cc (h.2))
word_spells (in_quotes y) ps d x z h parts =
    let k = quotes_open bracketed h.0 z h.2 in
    parts within_quotes y (k.0 ∷ z) (subst (λ r. IsParts within_quotes d ps y r) k.1 h.1)
word_spells bare ps d x z h parts = parts (in_word bracketed) x z h

mutual
  pub parts_spell : (ps : Parts) (place : Place) (d : ℕ) (x z : List ℕ) →
      IsParts place d ps x (Ok z) → ArePartsSpellable d ps
  parts_spell no_parts place d x z h = tt
  parts_spell (byte b ps) place d x z h = parts_spell ps place d h.0 z h.2
  parts_spell (variable n ps) place d x z h =
      (name_piece place d x n h.0 h.1, parts_spell ps place d h.0 z h.2)
  parts_spell (element n is ps) place d x z (inl h) =
      let more = then_more (index_closed h.2) (ps ≡ no_parts) (λ w. IsParts place d ps w (Ok z)) z
      h.4 in
      let k = index_open h.2 more.0 more.1 in
      let at = index_piece place d x n h.0 h.1 in (
        inl (
          at.0,
          at.1,
          parts_spell is within_index (d - 1) h.0 (k.0 ∷ more.0)
              (subst (λ r. IsParts within_index (d - 1) is h.0 r) k.1 h.3),
        ),
        parts_spell ps place d more.0 z more.2,
      )
  parts_spell (element n is ps) place d x z (inr h) = (
    inr (subst (IsWholeElement n) (sym h.3) (element_piece place d x n h.0 h.1 h.2)),
    parts_spell ps place d h.1 z h.4,
  )
  parts_spell (script cs ps) place d x z h =
      let more = then_more (bracket_closed h.2) (ps ≡ no_parts) (λ w. IsParts place d ps w (Ok z)) z
      h.4 in
      let k = bracket_open h.2 more.0 more.1 in (
        bracket_piece place d x h.0 h.1,
        commands_spell cs (d - 1) h.0 (k.0 ∷ more.0)
            (subst (λ r. IsCommands bracketed (d - 1) cs h.0 r) k.1 h.3),
        parts_spell ps place d more.0 z more.2,
      )

  pub words_spell : (ws : Words) (d : ℕ) (x z : List ℕ) → IsWords bracketed d ws x (Ok z) →
      AreWordsSpellable d ws
  words_spell no_words d x z h = tt
  words_spell (word e ps ws) d x z h =
      let more = then_more h.2 (ws ≡ no_words)
      (λ w. IsWords bracketed d ws (skip_white bracketed false w) (Ok z)) z h.4 in
      let y = unprefixed bracketed x in (
        word_spells (kind y) ps d y more.0
            (subst (λ r. IsWord bracketed ps (λ place v s. IsParts place d ps v s) (kind y) y r)
            more.1 h.3) (λ place v w k. parts_spell ps place d v w k),
        words_spell ws d (skip_white bracketed false more.0) z more.2,
      )

  pub commands_spell : (cs : Commands) (d : ℕ) (x z : List ℕ) → IsCommands bracketed d cs x (Ok z) →
      AreCommandsSpellable d cs
  commands_spell no_commands d x z h = tt
  commands_spell (command ws cs) d x z h =
      let more = then_more h.1 (cs ≡ no_commands) (λ w. IsCommands bracketed d cs w (Ok z)) z h.3 in (
        has_word ws d x h.1 h.0 h.2,
        words_spell ws d (skip_gap bracketed between x) more.0
            (subst (λ r. IsWords bracketed d ws (skip_gap bracketed between x) r) more.1 h.2),
        commands_spell cs d more.0 z more.2,
      )
