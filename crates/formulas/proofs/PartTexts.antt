-- Parts, words and commands that can be spelled have a text: every word in quotes, in which each
-- byte with a meaning of its own stands after a backslash, and every command before a semicolon.
use Rattle.std.proofs.Common.{◌≡◌, ℕ, ◌-◌, ◌<◌, ◌==◌, ◌||◌, List, [], ◌∷◌, ◌++◌, Bool, true, false, Option, Some, None, Ok, if◌then◌else◌, inl, inr, refl, sym, ap, subst, arith}
use Rattle.std.proofs.lemmas.Bool.Decides.{eqb_tells}
use Rattle.tclparse.specs.Tree.{Parts, no_parts, byte, variable, element, script, Words, no_words, word, Commands, no_commands, command}
use Rattle.tclparse.specs.Context.{bracketed, ends_script}
use Rattle.tclparse.specs.Gap.{skip_white, skip_gap, between}
use Rattle.tclparse.specs.Variable.{is_name, name_at, after_name, until, from, named}
use Rattle.tclparse.specs.Piece.{Place, within_quotes, within_index, a_byte, an_index, a_bracket, next_named, next}
use Rattle.tclparse.specs.Grammar.{EndsAs, after_star, is_prefix, without_prefix, kind, IsWord, IsParts, IsWords, IsCommands}
use Rattle.tclparse.specs.Spelling.{IsName}
use Rattle.tclparse.proofs.Spelling.{if_known}
use Rattle.formulas.specs.Spellable.{IsVariable, IsWholeElement, ArePartsSpellable, AreWordsSpellable, AreCommandsSpellable}

-- a byte that passes a test is not one that fails it
pub not_same : (P : ℕ → Bool) (c k : ℕ) → P c ≡ true → P k ≡ false → (c == k) ≡ false
not_same P c k h m = elim (eqb_tells c k) [
  | inl p ↦ let same : P k ≡ true = subst (λ b. P b ≡ true) p.1 h in absurd (cc)
  | inr p ↦ p.0
]

pub not_zero : (d : ℕ) → 0 < d → (d == 0) ≡ false
not_zero d h = elim (eqb_tells d 0) [
  | inl p ↦ absurd (omega (arith, h, p.1))
  | inr p ↦ p.0
]

-- a place that is closed by a byte: an index by a parenthesis, or a quoted text by a quote
abbrev pub inside : Bool → Place
inside true = within_quotes
inside false = within_index

abbrev pub ending : Bool → ℕ
ending true = 34
ending false = 41

at_end : (q : Bool) (d : ℕ) (y : List ℕ) →
    EndsAs (next (inside q) d (ending q ∷ y)) (ending q ∷ y) (Ok (ending q ∷ y))
at_end true d y = refl
at_end false d y = refl

-- a byte that has a meaning of its own in quotes or in an index
abbrev is_marked : ℕ → Bool
is_marked b = (b == 34) || ((b == 41) || ((b == 92) || ((b == 36) || (b == 91))))

abbrev byte_text : ℕ → List ℕ → List ℕ
byte_text b z = if is_marked b then 92 ∷ b ∷ z else (b ∷ z)

marked_is : (P : ℕ → Type 0) (b : ℕ) → is_marked b ≡ true → P 34 → P 41 → P 92 → P 36 → P 91 → P b
marked_is P b h quote parenthesis backslash dollar bracket = elim (eqb_tells b 34) [
  | inl p ↦ subst P (sym p.1) quote
  | inr p ↦ elim (eqb_tells b 41) [
    | inl q ↦ subst P (sym q.1) parenthesis
    | inr q ↦ elim (eqb_tells b 92) [
      | inl r ↦ subst P (sym r.1) backslash
      | inr r ↦ elim (eqb_tells b 36) [
        | inl s ↦ subst P (sym s.1) dollar
        | inr s ↦ elim (eqb_tells b 91) [
          | inl t ↦ subst P (sym t.1) bracket
          | inr t ↦
              let none : is_marked b ≡ false = rw (p.0, q.0, r.0, s.0, t.0) refl in
              absurd (cc (none, h))
        ]
      ]
    ]
  ]
]

neither : (a b : Bool) → (a || b) ≡ false → (a ≡ false) × (b ≡ false)
neither true b h = absurd (cc)
neither false b h = (refl, h)

marked_next : (q : Bool) (d b : ℕ) (z : List ℕ) → is_marked b ≡ true →
    next (inside q) d (92 ∷ b ∷ z) ≡ a_byte b z
marked_next true d b z h =
    marked_is (λ c. next within_quotes d (92 ∷ c ∷ z) ≡ a_byte c z) b h refl refl refl refl refl
marked_next false d b z h =
    marked_is (λ c. next within_index d (92 ∷ c ∷ z) ≡ a_byte c z) b h refl refl refl refl refl

plain_next : (q : Bool) (d b : ℕ) (z : List ℕ) → is_marked b ≡ false →
    next (inside q) d (b ∷ z) ≡ a_byte b z
plain_next true d b z h =
    let k = neither (b == 34) _ h in
    let l = neither (b == 41) _ k.1 in
    let m = neither (b == 92) _ l.1 in
    let n = neither (b == 36) (b == 91) m.1 in
    rw (k.0, m.0, n.0, n.1) refl
plain_next false d b z h =
    let k = neither (b == 34) _ h in
    let l = neither (b == 41) _ k.1 in
    let m = neither (b == 92) _ l.1 in
    let n = neither (b == 36) (b == 91) m.1 in
    rw (l.0, m.0, n.0, n.1) refl

byte_next : (q : Bool) (d b : ℕ) (z : List ℕ) → next (inside q) d (byte_text b z) ≡ a_byte b z
byte_next q d b z =
    if_known (λ x. next (inside q) d x ≡ a_byte b z) (is_marked b) (92 ∷ b ∷ z) (b ∷ z)
    (marked_next q d b z) (plain_next q d b z)

-- ${n} goes up to the brace where none is in the name
no_brace : (t : Bool) (c : ℕ) (n m : List ℕ) → (if t then (c ∷ n) else m) ≡ [] → (t ≡ false)
    × (m ≡ [])
no_brace true c n m h = absurd (cc)
no_brace false c n m h = (refl, h)

pub until_brace : (n z : List ℕ) → from 125 n ≡ [] → until 125 (n ++ 125 ∷ z) ≡ n
until_brace [] z h = refl
until_brace (c ∷ n) z h =
    let k = no_brace (c == 125) c n (from 125 n) h in rw (k.0, until_brace n z k.1) refl

pub from_brace : (n z : List ℕ) → from 125 n ≡ [] → from 125 (n ++ 125 ∷ z) ≡ 125 ∷ z
from_brace [] z h = refl
from_brace (c ∷ n) z h =
    let k = no_brace (c == 125) c n (from 125 n) h in rw (k.0, from_brace n z k.1) refl

abbrev pub braced_text : List ℕ → List ℕ → List ℕ
braced_text n z = 36 ∷ 123 ∷ (n ++ 125 ∷ z)

named_next : (q : Bool) (d : ℕ) (n z : List ℕ) (v : Option (List ℕ × Option (List ℕ))) →
    from 125 n ≡ [] → named n ≡ v → next (inside q) d (braced_text n z) ≡ next_named v z
named_next true d n z v h is = rw (until_brace n z h, from_brace n z h, is) refl
named_next false d n z v h is = rw (until_brace n z h, from_brace n z h, is) refl

-- $n( goes up to the parenthesis
pub all_name : (t : Bool) (c : ℕ) (n m : List ℕ) → (if t then m else (c ∷ n)) ≡ [] → (t ≡ true)
    × (m ≡ [])
all_name true c n m h = (refl, h)
all_name false c n m h = absurd (cc)

pub name_found : (n z : List ℕ) → after_name n ≡ [] → name_at (n ++ 40 ∷ z) ≡ n
name_found [] z h = refl
name_found (c ∷ n) z h =
    let k = all_name (is_name c) c n (after_name n) h in rw (k.0, name_found n z k.1) refl

pub name_left : (n z : List ℕ) → after_name n ≡ [] → after_name (n ++ 40 ∷ z) ≡ 40 ∷ z
name_left [] z h = refl
name_left (c ∷ n) z h =
    let k = all_name (is_name c) c n (after_name n) h in rw (k.0, name_left n z k.1) refl

abbrev pub index_text : List ℕ → List ℕ → List ℕ
index_text n z = 36 ∷ (n ++ 40 ∷ z)

index_next : (q : Bool) (d : ℕ) (n z : List ℕ) → 0 < d → IsName n →
    next (inside q) d (index_text n z) ≡ an_index n z
index_next q d [] z some name = absurd (name.0 refl)
index_next true d (c ∷ n) z some name =
    let k = all_name (is_name c) c n (after_name n) name.1 in
    let brace = not_same is_name c 123 k.0 refl in
    let parenthesis = not_same is_name c 40 k.0 refl in
    rw (brace, parenthesis, k.0, name_found n z k.1, name_left n z k.1, not_zero d some) refl
index_next false d (c ∷ n) z some name =
    let k = all_name (is_name c) c n (after_name n) name.1 in
    let brace = not_same is_name c 123 k.0 refl in
    let parenthesis = not_same is_name c 40 k.0 refl in
    rw (brace, parenthesis, k.0, name_found n z k.1, name_left n z k.1, not_zero d some) refl

bracket_next : (q : Bool) (d : ℕ) (z : List ℕ) → 0 < d → next (inside q) d (91 ∷ z) ≡ a_bracket z
bracket_next true d z some = rw (not_zero d some) refl
bracket_next false d z some = rw (not_zero d some) refl

-- Texts are functions of what stands after them. After parts stands what closes their place,
-- after words a semicolon, after commands a bracket.
abbrev pub PartsText : ℕ → Parts → Type 0
PartsText d ps =
    (t : List ℕ → List ℕ)
    × ((q : Bool) (y : List ℕ) → IsParts (inside q) d ps (t (ending q ∷ y)) (Ok (ending q ∷ y)))

-- words begin with no gap
abbrev Begins : Words → (List ℕ → List ℕ) → Type 0
Begins no_words t = Unit {0}
Begins (word e ps ws) t =
    (z : List ℕ) → (skip_gap bracketed between (t z) ≡ t z) × (ends_script bracketed (t z) ≡ false)

abbrev WordsText : ℕ → Words → Type 0
WordsText d ws =
    (t : List ℕ → List ℕ)
    × ((y : List ℕ) → IsWords bracketed d ws (t (59 ∷ y)) (Ok (59 ∷ y)))
    × ((y : List ℕ) → skip_white bracketed false (t (59 ∷ y)) ≡ t (59 ∷ y)) × Begins ws t

abbrev CommandsText : ℕ → Commands → Type 0
CommandsText d cs =
    (t : List ℕ → List ℕ) × ((y : List ℕ) → IsCommands bracketed d cs (t (93 ∷ y)) (Ok (93 ∷ y)))

byte_read : (d b : ℕ) (ps : Parts) → PartsText d ps → PartsText d (byte b ps)
byte_read d b ps k =
    (λ z. byte_text b (k.0 z), λ q y. (k.0 (ending q ∷ y), byte_next q d b (k.0 (ending q ∷ y)), k.1 q y))

variable_read : (d : ℕ) (n : List ℕ) (ps : Parts) → IsVariable n → PartsText d ps →
    PartsText d (variable n ps)
variable_read d n ps v k = (
  λ z. braced_text n (k.0 z),
  λ q y. (
    k.0 (ending q ∷ y),
    named_next q d n (k.0 (ending q ∷ y)) (Some (n, None)) v.0 v.1,
    k.1 q y,
  ),
)

whole_read : (d : ℕ) (n : List ℕ) (is ps : Parts) → IsWholeElement n is → PartsText d ps →
    PartsText d (element n is ps)
whole_read d n is ps e k = (
  λ z. braced_text (n ++ 40 ∷ (e.0 ++ 41 ∷ [])) (k.0 z),
  λ q y. inr (
    e.0,
    k.0 (ending q ∷ y),
    named_next q d (n ++ 40 ∷ (e.0 ++ 41 ∷ [])) (k.0 (ending q ∷ y)) (Some (n, Some e.0)) e.2 e.3,
    e.1,
    k.1 q y,
  ),
)

index_read : (d : ℕ) (n : List ℕ) (is ps : Parts) → 0 < d → IsName n → PartsText (d - 1) is →
    PartsText d ps → PartsText d (element n is ps)
index_read d n is ps some name i k = (
  λ z. index_text n (i.0 (41 ∷ k.0 z)),
  λ q y. inl (
    i.0 (41 ∷ k.0 (ending q ∷ y)),
    index_next q d n (i.0 (41 ∷ k.0 (ending q ∷ y))) some name,
    Ok (41 ∷ k.0 (ending q ∷ y)),
    i.1 false (k.0 (ending q ∷ y)),
    k.1 q y,
  ),
)

script_read : (d : ℕ) (cs : Commands) (ps : Parts) → 0 < d → CommandsText (d - 1) cs →
    PartsText d ps → PartsText d (script cs ps)
script_read d cs ps some c k = (
  λ z. 91 ∷ c.0 (93 ∷ k.0 z),
  λ q y. (
    c.0 (93 ∷ k.0 (ending q ∷ y)),
    bracket_next q d (c.0 (93 ∷ k.0 (ending q ∷ y))) some,
    Ok (93 ∷ k.0 (ending q ∷ y)),
    c.1 (k.0 (ending q ∷ y)),
    k.1 q y,
  ),
)

-- a quote begins no {*}
no_star : (x : List ℕ) → after_star (34 ∷ x) ≡ None
no_star [] = refl
no_star (b ∷ []) = refl
no_star (b ∷ c ∷ x) = refl

-- a word in quotes, with the words after it
abbrev quoted_text : (List ℕ → List ℕ) → (List ℕ → List ℕ) → List ℕ → List ℕ
quoted_text t u z = 34 ∷ t (34 ∷ 32 ∷ u z)

plain_word : (d : ℕ) (ps : Parts) (ws : Words) → PartsText d ps → WordsText d ws →
    WordsText d (word false ps ws)
plain_word d ps ws k w =
    let t : List ℕ → List ℕ = quoted_text k.0 w.0 in (
      t,
      λ y. (
        refl,
        sym (ap (is_prefix bracketed) (no_star (k.0 (34 ∷ 32 ∷ w.0 (59 ∷ y))))),
        Ok (32 ∷ w.0 (59 ∷ y)),
        subst (λ v. IsWord bracketed ps (λ place x o. IsParts place d ps x o) (kind v) v
            (Ok (32 ∷ w.0 (59 ∷ y))))
            (sym (ap (without_prefix bracketed (t (59 ∷ y)))
            (no_star (k.0 (34 ∷ 32 ∷ w.0 (59 ∷ y))))))
            (Ok (34 ∷ 32 ∷ w.0 (59 ∷ y)), k.1 true (32 ∷ w.0 (59 ∷ y)), refl),
        subst (λ x. IsWords bracketed d ws x (Ok (59 ∷ y))) (sym (w.2 y)) (w.1 y),
      ),
      λ y. refl,
      λ z. (refl, refl),
    )

expanded_word : (d : ℕ) (ps : Parts) (ws : Words) → PartsText d ps → WordsText d ws →
    WordsText d (word true ps ws)
expanded_word d ps ws k w = (
  λ z. 123 ∷ 42 ∷ 125 ∷ quoted_text k.0 w.0 z,
  λ y. (
    refl,
    refl,
    Ok (32 ∷ w.0 (59 ∷ y)),
    (Ok (34 ∷ 32 ∷ w.0 (59 ∷ y)), k.1 true (32 ∷ w.0 (59 ∷ y)), refl),
    subst (λ x. IsWords bracketed d ws x (Ok (59 ∷ y))) (sym (w.2 y)) (w.1 y),
  ),
  λ y. refl,
  λ z. (refl, refl),
)

-- a semicolon before commands is a gap
semicolon : (d : ℕ) (cs : Commands) (x : List ℕ) (z : List ℕ) →
    IsCommands bracketed d cs x (Ok z) → IsCommands bracketed d cs (59 ∷ x) (Ok z)
semicolon d no_commands x z h = h
semicolon d (command ws cs) x z h = h

command_read : (d : ℕ) (ws : Words) (cs : Commands) → (ws ≡ no_words → ⊥) → WordsText d ws →
    CommandsText d cs → CommandsText d (command ws cs)
command_read d no_words cs some w c = absurd (some refl)
command_read d (word e ps ws) cs some w c = (
  λ z. w.0 (59 ∷ c.0 z),
  λ y.
      let x = w.0 (59 ∷ c.0 (93 ∷ y)) in
      let at = w.3 (59 ∷ c.0 (93 ∷ y)) in (
        subst (λ v. ends_script bracketed v ≡ false) (sym at.0) at.1,
        Ok (59 ∷ c.0 (93 ∷ y)),
        subst (λ v. IsWords bracketed d (word e ps ws) v (Ok (59 ∷ c.0 (93 ∷ y)))) (sym at.0)
            (w.1 (c.0 (93 ∷ y))),
        semicolon d cs (c.0 (93 ∷ y)) (93 ∷ y) (c.1 y),
      ),
)

mutual
  pub parts_text : (ps : Parts) (d : ℕ) → ArePartsSpellable d ps → PartsText d ps
  parts_text no_parts d h = (λ z. z, λ q y. at_end q d y)
  parts_text (byte b ps) d h = byte_read d b ps (parts_text ps d h)
  parts_text (variable n ps) d h = variable_read d n ps h.0 (parts_text ps d h.1)
  parts_text (element n is ps) d (inl i, h) =
      index_read d n is ps i.0 i.1 (parts_text is (d - 1) i.2) (parts_text ps d h)
  parts_text (element n is ps) d (inr e, h) = whole_read d n is ps e (parts_text ps d h)
  parts_text (script cs ps) d h =
      script_read d cs ps h.0 (commands_text cs (d - 1) h.1) (parts_text ps d h.2)

  words_text : (ws : Words) (d : ℕ) → AreWordsSpellable d ws → WordsText d ws
  words_text no_words d h = (λ z. z, λ y. (refl, refl), λ y. refl, tt)
  words_text (word true ps ws) d h =
      expanded_word d ps ws (parts_text ps d h.0) (words_text ws d h.1)
  words_text (word false ps ws) d h =
      plain_word d ps ws (parts_text ps d h.0) (words_text ws d h.1)

  commands_text : (cs : Commands) (d : ℕ) → AreCommandsSpellable d cs → CommandsText d cs
  commands_text no_commands d h = (λ z. z, λ y. (refl, refl))
  commands_text (command ws cs) d h =
      command_read d ws cs h.0 (words_text ws d h.1) (commands_text cs d h.2)
