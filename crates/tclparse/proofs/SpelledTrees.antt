-- A text that is read as parts, words or commands begins with a spelling of them.
use Rattle.std.proofs.Common.{◌≡◌, ℕ, ◌-◌, ◌==◌, ◌&&◌, List, [], ◌∷◌, ◌++◌, Bool, true, false, Some, None, Ok, Err, if◌then◌else◌, refl, sym, ap, subst, inl, inr, ◌∙◌, append_assoc, ◌⊎◌}
use Rattle.tclparse.specs.Fault.{Fault, after_brace, after_quote}
use Rattle.tclparse.specs.Tree.{Parts, no_parts, byte, variable, element, script, Words, no_words, word, Commands, no_commands, command}
use Rattle.tclparse.specs.Context.{Context, bracketed, ends_script, ends_command, ends_word}
use Rattle.tclparse.specs.Gap.{skip_white, skip_gap, between}
use Rattle.tclparse.specs.Piece.{Place, in_word, within_quotes, within_index, Next, end, fault, a_byte, a_name, an_index, an_element, a_bracket, ends_parts, next}
use Rattle.tclparse.specs.Grammar.{Outcome, Then, EndsAs, bracket_closed, index_closed, quotes_closed, Kind, in_braces, in_quotes, bare, kind, is_prefix, without_prefix, expands, unprefixed, IsBraced, IsWord, IsParts, IsWords, IsCommands}
use Rattle.tclparse.specs.Spelling.{IsWhiteText, IsGapText, IsName, IsTail, SpellsWhole, SpellsBody, prefixed, AreParted, SpellsParts, SpellsWords, SpellsCommands, Begins, BeginsWhole}
use Rattle.tclparse.proofs.Gaps.{white_begins}
use Rattle.tclparse.proofs.Spelling.{if_known, equal_if, both, white_spelled, gap_spelled}
use Rattle.tclparse.proofs.SpelledPieces.{IsSpelled, piece_spelled}

-- one piece after the other
pub begins_both : (P Q : List ℕ → Type 0) (x y z : List ℕ) → Begins P x y → Begins Q y z →
    Begins (λ t. (p q : List ℕ) × (t ≡ p ++ q) × P p × Q q) x z
begins_both P Q x y z h k = (
  h.0 ++ k.0,
  h.1 ∙ ap (λ l. h.0 ++ l) k.1 ∙ sym (append_assoc h.0 k.0 z),
  (h.0, k.0, refl, h.2, k.2),
)

-- the outcome of two readings is a text only where that of the first is
pub then_more : (r : Outcome) (T : Type 0) (M : List ℕ → Type 0) (z : List ℕ) → Then r T M (Ok z) →
    (w : List ℕ) × (r ≡ Ok w) × M w
then_more (Ok w) T M z h = (w, refl, h)
then_more (Err f) T M z h = absurd (cc (h.1))

pub bracket_open : (r : Outcome) (w : List ℕ) → bracket_closed r ≡ Ok w → (c : ℕ) × (r ≡ Ok (c ∷ w))
bracket_open (Ok []) w h = absurd (cc)
bracket_open (Ok (c ∷ z)) w h = let same : z ≡ w = cc in (c, ap (λ l. Ok (c ∷ l)) same)
bracket_open (Err f) w h = absurd (cc)

pub index_open : (r : Outcome) (w : List ℕ) → index_closed r ≡ Ok w → (c : ℕ) × (r ≡ Ok (c ∷ w))
index_open (Ok []) w h = absurd (cc)
index_open (Ok (c ∷ z)) w h = let same : z ≡ w = cc in (c, ap (λ l. Ok (c ∷ l)) same)
index_open (Err f) w h = absurd (cc)

pub ended_open : (b : Bool) (w z : List ℕ) (f : Fault) → Ok z ≡ (if b then Ok w else Err f) →
    (w ≡ z) × (b ≡ true)
ended_open true w z f h = (cc, refl)
ended_open false w z f h = absurd (cc)

pub quotes_open : (context : Context) (r : Outcome) (z : List ℕ) → Ok z ≡ quotes_closed context r →
    (c : ℕ) × (r ≡ Ok (c ∷ z)) × (ends_word context z ≡ true)
quotes_open context (Ok []) z h = absurd (cc)
quotes_open context (Ok (c ∷ w)) z h =
    let open_ : (w ≡ z) × (ends_word context w ≡ true) =
    ended_open (ends_word context w) w z after_quote h in
    (c, ap (λ l. Ok (c ∷ l)) open_.0, subst (λ l. ends_word context l ≡ true) open_.0 open_.1)
quotes_open context (Err f) z h = absurd (cc)

-- ps are spelled at the front of x, and their place ends where z begins
abbrev PartsAre : Place → Parts → List ℕ → List ℕ → Type 0
PartsAre place ps x z = Begins (λ t. SpellsParts place ps t) x z × (ends_parts place z ≡ true)

abbrev WordsAre : Context → Words → List ℕ → List ℕ → Type 0
WordsAre context ws x z = Begins (λ t. SpellsWords context ws t) x z
    × (ends_command context z ≡ true)

abbrev CommandsAre : Context → Commands → List ℕ → List ℕ → Type 0
CommandsAre context cs x z = BeginsWhole (λ t. SpellsCommands context cs t) x z
    × (ends_script context z ≡ true)

ok_is : (x z : List ℕ) (o : Outcome) → o ≡ Ok z → o ≡ Ok x → x ≡ z
ok_is x z o e h = cc

ends_spelled : (place : Place) (n : Next) (x z : List ℕ) → IsSpelled place n x → EndsAs n x (Ok z) →
    PartsAre place no_parts x z
ends_spelled place end x z k h = let same : x ≡ z = ok_is x z (Ok z) refl h in
    (([], same, refl), subst (λ l. ends_parts place l ≡ true) same k)
ends_spelled place (fault f) x z k h = absurd (cc)
ends_spelled place (a_byte b y) x z k h = absurd h
ends_spelled place (a_name n y) x z k h = absurd h
ends_spelled place (an_index n y) x z k h = absurd h
ends_spelled place (an_element n i y) x z k h = absurd h
ends_spelled place (a_bracket y) x z k h = absurd h

-- a text between two others, however the three are grouped
closed : (f s : List ℕ) (c : ℕ) (w : List ℕ) → f ++ (s ++ c ∷ w) ≡ (f ++ (s ++ c ∷ [])) ++ w
closed f s c w = ap (λ l. f ++ l) (sym (append_assoc s (c ∷ []) w))
    ∙ sym (append_assoc f (s ++ c ∷ []) w)

abbrev IsIndexed : List ℕ → Parts → List ℕ → Type 0
IsIndexed n is p = (i : List ℕ) × IsName n × (p ≡ (36 ∷ n) ++ 40 ∷ (i ++ 41 ∷ []))
    × SpellsParts within_index is i

indexed : (n : List ℕ) (is : Parts) (x y w : List ℕ) (c : ℕ) → IsName n × (x ≡ 36 ∷ (n ++ 40 ∷ y)) →
    PartsAre within_index is y (c ∷ w) → Begins (IsIndexed n is) x w
indexed n is x y w c k h =
    let i = h.0.0 in
    let close = equal_if c 41 h.1 in
    let joined : x ≡ (36 ∷ n) ++ 40 ∷ (i ++ 41 ∷ w) =
    k.1 ∙ ap (λ l. 36 ∷ (n ++ 40 ∷ l)) h.0.1 ∙ ap (λ b. 36 ∷ (n ++ 40 ∷ (i ++ b ∷ w))) close in
    let bytes : (36 ∷ n) ++ 40 ∷ (i ++ 41 ∷ w) ≡ ((36 ∷ n) ++ 40 ∷ (i ++ 41 ∷ [])) ++ w =
    ap (λ l. (36 ∷ n) ++ 40 ∷ l) (sym (append_assoc i (41 ∷ []) w))
    ∙ sym (append_assoc (36 ∷ n) (40 ∷ (i ++ 41 ∷ [])) w) in
    ((36 ∷ n) ++ 40 ∷ (i ++ 41 ∷ []), joined ∙ bytes, (i, k.0, refl, h.0.2))

abbrev IsBracketed : Commands → List ℕ → Type 0
IsBracketed cs p = (s : List ℕ) × (p ≡ 91 ∷ (s ++ 93 ∷ [])) × SpellsCommands bracketed cs s

-- a comment before another text does not go up to the text's end
tail_none : (t w : List ℕ) (c : ℕ) → IsTail t (c ∷ w) → t ≡ []
tail_none t w c (inl e) = e
tail_none t w c (inr h) = let e = h.0 in absurd (cc)

between_brackets : (cs : Commands) (x y w : List ℕ) (c : ℕ) → x ≡ 91 ∷ y →
    CommandsAre bracketed cs y (c ∷ w) → Begins (IsBracketed cs) x w
between_brackets cs x y w c k h =
    let s = h.0.0 in
    let close = equal_if c 93 h.1 in
    let none = tail_none h.0.1 w c h.0.4 in
    let joined : x ≡ 91 ∷ (s ++ 93 ∷ w) = k ∙ ap (λ l. 91 ∷ l) h.0.2
    ∙ ap (λ l. 91 ∷ (s ++ (l ++ c ∷ w))) none ∙ ap (λ b. 91 ∷ (s ++ b ∷ w)) close in (
      91 ∷ (s ++ 93 ∷ []),
      joined ∙ ap (λ l. 91 ∷ l) (sym (append_assoc s (93 ∷ []) w)),
      (s, refl, h.0.3),
    )

-- how a word begins
abbrev KindAs : Kind → List ℕ → Type 0
KindAs (in_braces y) x = x ≡ 123 ∷ y
KindAs (in_quotes y) x = x ≡ 34 ∷ y
KindAs bare x = Unit {0}

kind_as : (x : List ℕ) → KindAs (kind x) x
kind_as [] = tt
kind_as (c ∷ x) =
    if_known (λ k. KindAs k (c ∷ x)) (c == 123) (in_braces x) _
    (λ e. ap (λ b. b ∷ x) (equal_if c 123 e))
    (λ n. if_known (λ k. KindAs k (c ∷ x)) (c == 34) (in_quotes x) bare
    (λ e. ap (λ b. b ∷ x) (equal_if c 34 e)) (λ m. tt))

-- a bare word's spelling begins as the word does
bare_if : (a b : Bool) (x y : List ℕ) →
    (if a then in_braces x else (if b then in_quotes x else bare)) ≡ bare →
    (if a then in_braces y else (if b then in_quotes y else bare)) ≡ bare
bare_if true b x y h = absurd (cc)
bare_if false true x y h = absurd (cc)
bare_if false false x y h = refl

bare_front : (t z : List ℕ) → kind (t ++ z) ≡ bare → kind t ≡ bare
bare_front [] z h = refl
bare_front (c ∷ t) z h = bare_if (c == 123) (c == 34) (t ++ z) t h

abbrev BodyIs : Context → Parts → List ℕ → List ℕ → Type 0
BodyIs context ps x z = Begins (λ t. SpellsBody context ps (λ place s. SpellsParts place ps s) t) x
    z × (ends_word context z ≡ true)

braced_spelled : (context : Context) (ps : Parts) (x y z : List ℕ) → x ≡ 123 ∷ y →
    IsBraced context ps y (Ok z) → BodyIs context ps x z
braced_spelled context ps x y z k (inl h) =
    let content = h.0 in
    let open_ = ended_open (ends_word context h.1) h.1 z after_brace h.6 in
    let joined : x ≡ (123 ∷ (content ++ 125 ∷ [])) ++ z =
    k ∙ ap (λ l. 123 ∷ l) (h.3.0 ∙ ap (λ l. content ++ 125 ∷ l) open_.0
    ∙ sym (append_assoc content (125 ∷ []) z)) in (
      (123 ∷ (content ++ 125 ∷ []), joined, inl (content, h.2, refl, h.3.1, h.4, h.5)),
      subst (λ l. ends_word context l ≡ true) open_.0 open_.1,
    )
braced_spelled context ps x y z k (inr h) = absurd (cc (h.2))

body_spelled : (context : Context) (d : ℕ) (ps : Parts) (k : Kind) (x z : List ℕ) → kind x ≡ k →
    KindAs k x → IsWord context ps (λ place z s. IsParts place d ps z s) k x (Ok z)
    → ((place : Place) (y w : List ℕ) → IsParts place d ps y (Ok w) → PartsAre place ps y w) →
    BodyIs context ps x z
body_spelled context d ps (in_braces y) x z e k h parts = braced_spelled context ps x y z k h
body_spelled context d ps (in_quotes y) x z e k h parts =
    let open_ = quotes_open context h.0 z h.2 in
    let c = open_.0 in
    let inside : PartsAre within_quotes ps y (c ∷ z) =
    parts within_quotes y (c ∷ z) (subst (λ r. IsParts within_quotes d ps y r) open_.1 h.1) in
    let s = inside.0.0 in
    let joined : x ≡ (34 ∷ (s ++ 34 ∷ [])) ++ z =
    k ∙ ap (λ l. 34 ∷ l) (inside.0.1 ∙ ap (λ b. s ++ b ∷ z) (equal_if c 34 inside.1)
    ∙ sym (append_assoc s (34 ∷ []) z)) in
    ((34 ∷ (s ++ 34 ∷ []), joined, inr (inl (s, refl, inside.0.2))), open_.2)
body_spelled context d ps bare x z e k h parts =
    let inside : PartsAre (in_word context) ps x z = parts (in_word context) x z h in (
      (
        inside.0.0,
        inside.0.1,
        inr (inr (bare_front inside.0.0 z (ap kind (sym inside.0.1) ∙ e), inside.0.2)),
      ),
      inside.1,
    )

-- a word that is expanded, or not, and its prefix
ends_if : (b : Bool) (z : List ℕ) → 123 ∷ 42 ∷ 125 ∷ z
    ≡ prefixed (if b then false else true) (if b then (123 ∷ 42 ∷ 125 ∷ z) else z)
ends_if true z = refl
ends_if false z = refl

star_if : (b : Bool) (context : Context) (x z : List ℕ) → (b ≡ true → x ≡ 123 ∷ 42 ∷ 125 ∷ z)
    → x ≡ prefixed (is_prefix context (if b then Some z else None))
    (without_prefix context x (if b then Some z else None))
star_if true context x z h =
    subst (λ l. l ≡ prefixed (if ends_word context z then false else true)
    (if ends_word context z then l else z)) (sym (h refl)) (ends_if (ends_word context z) z)
star_if false context x z h = refl

three_are : (a b c : ℕ) (z : List ℕ) → (a == 123) && ((b == 42) && (c == 125)) ≡ true → a ∷ b ∷ c
    ∷ z ≡ 123 ∷ 42 ∷ 125 ∷ z
three_are a b c z h =
    let first = both (a == 123) ((b == 42) && (c == 125)) h in
    let more = both (b == 42) (c == 125) first.1 in
    ap (λ n. n ∷ b ∷ c ∷ z) (equal_if a 123 first.0)
    ∙ ap (λ n. 123 ∷ n ∷ c ∷ z) (equal_if b 42 more.0)
    ∙ ap (λ n. 123 ∷ 42 ∷ n ∷ z) (equal_if c 125 more.1)

prefix_spelled : (context : Context) (x : List ℕ) → x
    ≡ prefixed (expands context x) (unprefixed context x)
prefix_spelled context [] = refl
prefix_spelled context (a ∷ []) = refl
prefix_spelled context (a ∷ b ∷ []) = refl
prefix_spelled context (a ∷ b ∷ c ∷ z) =
    star_if ((a == 123) && ((b == 42) && (c == 125))) context (a ∷ b ∷ c ∷ z) z (three_are a b c z)

prefixed_joined : (e : Bool) (b z : List ℕ) → prefixed e (b ++ z) ≡ prefixed e b ++ z
prefixed_joined true b z = refl
prefixed_joined false b z = refl

-- where more words follow, white space was skipped
parted : (ws : Words) (context : Context) (d : ℕ) (w z g : List ℕ) → ends_word context w ≡ true → w
    ≡ g ++ skip_white context false w
    → IsWords context d ws (skip_white context false w) (Ok z) → AreParted g ws
parted no_words context d w z g e k h = tt
parted (word f ps ws) context d w z g e k h = λ none.
    let same : w ≡ skip_white context false w =
    k ∙ ap (λ l. l ++ skip_white context false w) none in
    let ends : ends_word context (skip_white context false w) ≡ true =
    ap (ends_word context) (sym same) ∙ e in
    absurd (cc (ends, white_begins context false w, h.0))

-- before a command that is there no comment goes up to the text's end
pub gap_whole : (context : Context) (x z : List ℕ) → ends_script context z ≡ false →
    BeginsWhole (λ t. IsGapText context t) x z → Begins (λ t. IsGapText context t) x z
gap_whole context x [] e h = absurd (cc)
gap_whole context x (c ∷ z) e h = (
  h.0,
  h.2 ∙ ap (λ l. h.0 ++ (l ++ c ∷ z)) (tail_none h.1 z c h.4),
  h.3,
)

ends_front : (context : Context) (s t : List ℕ) → ends_command context (s ++ t) ≡ true →
    ends_command context s ≡ true
ends_front context [] t h = refl
ends_front context (c ∷ s) t h = h

words_join : (e : Bool) (context : Context) (ps : Parts) (ws : Words) (x body w y z : List ℕ) → x
    ≡ prefixed e body → Begins (λ t. SpellsBody context ps (λ place s. SpellsParts place ps s) t)
    body w
    → (gap : Begins (λ t. IsWhiteText context t) w y) → AreParted gap.0 ws →
    Begins (λ t. SpellsWords context ws t) y z →
    Begins (λ t. SpellsWords context (word e ps ws) t) x z
words_join e context ps ws x body w y z k first gap apart rest =
    let b = first.0 in
    let g = gap.0 in
    let r = rest.0 in
    let behind : w ≡ (g ++ r) ++ z = gap.1 ∙ ap (λ l. g ++ l) rest.1 ∙ sym (append_assoc g r z) in
    let joined : x ≡ (prefixed e b ++ (g ++ r)) ++ z =
    k ∙ ap (prefixed e) (first.1 ∙ ap (λ l. b ++ l) behind) ∙ prefixed_joined e b ((g ++ r) ++ z)
    ∙ sym (append_assoc (prefixed e b) (g ++ r) z) in
    (prefixed e b ++ (g ++ r), joined, (b, g, r, refl, first.2, gap.2, apart, rest.2))

pub commands_join : (context : Context) (ws : Words) (cs : Commands) (x y w z : List ℕ) →
    Begins (λ t. IsGapText context t) x y → Begins (λ t. SpellsWords context ws t) y w →
    ends_command context w ≡ true
    → Begins (λ t. SpellsCommands context cs t) w z →
    Begins (λ t. SpellsCommands context (command ws cs) t) x z
commands_join context ws cs x y w z gap first ends rest =
    let g = gap.0 in
    let v = first.0 in
    let r = rest.0 in
    let joined : x ≡ (g ++ (v ++ r)) ++ z =
    gap.1 ∙ ap (λ l. g ++ l) (first.1 ∙ ap (λ l. v ++ l) rest.1 ∙ sym (append_assoc v r z))
    ∙ sym (append_assoc g (v ++ r) z) in
    let stops = ends_front context r z (ap (ends_command context) (sym rest.1) ∙ ends) in
    (g ++ (v ++ r), joined, (g, v, r, refl, gap.2, first.2, stops, rest.2))

mutual
  pub parts_spelled : (ps : Parts) (place : Place) (d : ℕ) (x z : List ℕ) →
      IsParts place d ps x (Ok z) → PartsAre place ps x z
  parts_spelled no_parts place d x z h =
      ends_spelled place (next place d x) x z (piece_spelled place d x) h
  parts_spelled (byte b ps) place d x z h =
      let here : IsSpelled place (a_byte b h.0) x =
      subst (λ m. IsSpelled place m x) h.1 (piece_spelled place d x) in
      let rest = parts_spelled ps place d h.0 z h.2 in
      (begins_both _ (λ t. SpellsParts place ps t) x h.0 z here rest.0, rest.1)
  parts_spelled (variable n ps) place d x z h =
      let here : IsSpelled place (a_name n h.0) x =
      subst (λ m. IsSpelled place m x) h.1 (piece_spelled place d x) in
      let rest = parts_spelled ps place d h.0 z h.2 in
      (begins_both _ (λ t. SpellsParts place ps t) x h.0 z here rest.0, rest.1)
  parts_spelled (element n is ps) place d x z (inl h) =
      let more = then_more (index_closed h.2) (ps ≡ no_parts) (λ w. IsParts place d ps w (Ok z)) z
      h.4 in
      let open_ = index_open h.2 more.0 more.1 in
      let inner = parts_spelled is within_index (d - 1) h.0 (open_.0 ∷ more.0)
      (subst (λ r. IsParts within_index (d - 1) is h.0 r) open_.1 h.3) in
      let at : IsSpelled place (an_index n h.0) x =
      subst (λ m. IsSpelled place m x) h.1 (piece_spelled place d x) in
      let here = indexed n is x h.0 more.0 open_.0 at inner in
      let rest = parts_spelled ps place d more.0 z more.2 in (
        begins_both (λ p. IsIndexed n is p ⊎ SpellsWhole n is p) (λ t. SpellsParts place ps t) x
            more.0 z (here.0, here.1, inl here.2) rest.0,
        rest.1,
      )
  parts_spelled (element n is ps) place d x z (inr h) =
      let at : IsSpelled place (an_element n h.0 h.1) x =
      subst (λ m. IsSpelled place m x) h.2 (piece_spelled place d x) in
      let whole : SpellsWhole n is at.0 = subst (λ i. SpellsWhole n i at.0) (sym h.3) at.2 in
      let rest = parts_spelled ps place d h.1 z h.4 in (
        begins_both (λ p. IsIndexed n is p ⊎ SpellsWhole n is p) (λ t. SpellsParts place ps t) x h.1
            z (at.0, at.1, inr whole) rest.0,
        rest.1,
      )
  parts_spelled (script cs ps) place d x z h =
      let more = then_more (bracket_closed h.2) (ps ≡ no_parts) (λ w. IsParts place d ps w (Ok z)) z
      h.4 in
      let open_ = bracket_open h.2 more.0 more.1 in
      let inner = commands_spelled cs bracketed (d - 1) h.0 (open_.0 ∷ more.0)
      (subst (λ r. IsCommands bracketed (d - 1) cs h.0 r) open_.1 h.3) in
      let at : IsSpelled place (a_bracket h.0) x =
      subst (λ m. IsSpelled place m x) h.1 (piece_spelled place d x) in
      let rest = parts_spelled ps place d more.0 z more.2 in (
        begins_both (IsBracketed cs) (λ t. SpellsParts place ps t) x more.0 z
            (between_brackets cs x h.0 more.0 open_.0 at inner) rest.0,
        rest.1,
      )

  pub words_spelled : (ws : Words) (context : Context) (d : ℕ) (x z : List ℕ) →
      IsWords context d ws x (Ok z) → WordsAre context ws x z
  words_spelled no_words context d x z h = let same : x ≡ z = ok_is x z (Ok z) refl h.1 in
      (([], same, refl), subst (λ l. ends_command context l ≡ true) same h.0)
  words_spelled (word e ps ws) context d x z h =
      let more = then_more h.2 (ws ≡ no_words)
      (λ w. IsWords context d ws (skip_white context false w) (Ok z)) z h.4 in
      let w = more.0 in
      let body = unprefixed context x in
      let is : IsWord context ps (λ place y s. IsParts place d ps y s) (kind body) body (Ok w) =
      subst (λ r. IsWord context ps (λ place y s. IsParts place d ps y s) (kind body) body r) more.1
      h.3 in
      let first = body_spelled context d ps (kind body) body w refl (kind_as body) is
      (λ place y v k. parts_spelled ps place d y v k) in
      let gap = white_spelled context w in
      let rest = words_spelled ws context d (skip_white context false w) z more.2 in (
        words_join e context ps ws x body w (skip_white context false w) z (prefix_spelled context x
            ∙ ap (λ f. prefixed f body) (sym h.1)) first.0 gap
            (parted ws context d w z gap.0 first.1 gap.1 more.2) rest.0,
        rest.1,
      )

  pub commands_spelled : (cs : Commands) (context : Context) (d : ℕ) (x z : List ℕ) →
      IsCommands context d cs x (Ok z) → CommandsAre context cs x z
  commands_spelled no_commands context d x z h =
      let start = skip_gap context between x in
      let same : start ≡ z = ok_is start z (Ok z) refl h.1 in (
        subst (λ l. BeginsWhole (λ t. IsGapText context t) x l) same (gap_spelled context x),
        subst (λ l. ends_script context l ≡ true) same h.0,
      )
  commands_spelled (command ws cs) context d x z h =
      let start = skip_gap context between x in
      let more = then_more h.1 (cs ≡ no_commands) (λ w. IsCommands context d cs w (Ok z)) z h.3 in
      let first = words_spelled ws context d start more.0
      (subst (λ r. IsWords context d ws start r) more.1 h.2) in
      let rest = commands_spelled cs context d more.0 z more.2 in
      let gap = gap_whole context x start h.0 (gap_spelled context x) in
      let all = commands_join context ws cs x start more.0 (rest.0.1 ++ z) gap first.0 first.1
      (rest.0.0, rest.0.2, rest.0.3) in
      ((all.0, rest.0.1, all.1, all.2, rest.0.4), rest.1)
