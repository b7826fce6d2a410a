-- Each text has a tree: by induction over how much more may be open, and within that over the
-- length.
use Rattle.std.proofs.Common.{◌≡◌, ℕ, zero, suc, ◌-◌, ◌<◌, ◌==◌, ◌&&◌, List, [], ◌∷◌, length, Bool, true, false, Option, Some, None, Ok, Err, if◌then◌else◌, refl, sym, ap, subst, ◌∙◌, inl, inr, arith}
use Rattle.tclparse.specs.Fault.{Fault, open_brace, open_bracket, after_brace, bad_variable}
use Rattle.tclparse.specs.Tree.{Parts, no_parts, byte, variable, element, script, Words, no_words, word, Commands, no_commands, command, bytes_then, with_last}
use Rattle.tclparse.specs.Context.{Context, whole_script, bracketed, argument, ends_script, ends_command, ends_word}
use Rattle.tclparse.specs.Gap.{skip_white, skip_gap, between}
use Rattle.tclparse.specs.Piece.{Place, in_word, within_quotes, within_index, Next, end, fault, a_byte, a_name, an_index, an_element, a_bracket, next}
use Rattle.tclparse.specs.Grammar.{Outcome, Then, EndsAs, bracket_closed, index_closed, quotes_closed, word_ended, Kind, in_braces, in_quotes, bare, kind, without_prefix, expands, unprefixed, IsBraced, IsWord, IsParts, IsWords, IsCommands, IsScript, IsArgument}
use Rattle.tclparse.specs.Spelled.{Joins, Leaves}
use Rattle.tcltext.proofs.Pairing.{pair_or_none}
use Rattle.tclparse.proofs.Lengths.{by_length}
use Rattle.tclparse.proofs.Braced.{each_value}
use Rattle.tclparse.proofs.Pieces.{joins_length, Shorter, piece_shorter, Within, piece_within, IsPiece, bare_is_piece}
use Rattle.tclparse.proofs.Gaps.{white_begins, gap_begins, command_goes_on}
use Rattle.tclparse.proofs.Joined.{white_joins, gap_joins, unprefixed_joins, leaves_trans, then_leaves, index_leaves, bracket_leaves, braced_leaves, quotes_leaves, parts_leave, words_leave, commands_leave}

abbrev PartsRead : Place → ℕ → List ℕ → Type 0
PartsRead place d x = (ps : Parts) × (o : Outcome) × IsParts place d ps x o

abbrev CommandsRead : Context → ℕ → List ℕ → Type 0
CommandsRead context d x = (cs : Commands) × (o : Outcome) × IsCommands context d cs x o

index_reads : (place : Place) (d : ℕ) (x n z : List ℕ) (is : Parts) (r : Outcome) → next place d x
    ≡ an_index n z → IsParts within_index (d - 1) is z r → Leaves z r → length z < length x
    → ((w : List ℕ) → length w < length x → PartsRead place d w) → PartsRead place d x
index_reads place d x n z is (Ok []) e h l s rest =
    (element n is no_parts, Err bad_variable, inl (z, e, Ok [], h, (refl, refl)))
index_reads place d x n z is (Ok (c ∷ w)) e h l s rest =
    let k = rest w (omega (arith, joins_length z (c ∷ w) l)) in
    (element n is k.0, k.1, inl (z, e, Ok (c ∷ w), h, k.2))
index_reads place d x n z is (Err f) e h l s rest =
    (element n is no_parts, Err f, inl (z, e, Err f, h, (refl, refl)))

bracket_reads : (place : Place) (d : ℕ) (x z : List ℕ) (cs : Commands) (r : Outcome) →
    next place d x ≡ a_bracket z → IsCommands bracketed (d - 1) cs z r → Leaves z r →
    length z < length x
    → ((w : List ℕ) → length w < length x → PartsRead place d w) → PartsRead place d x
bracket_reads place d x z cs (Ok []) e h l s rest =
    (script cs no_parts, Err open_bracket, (z, e, Ok [], h, (refl, refl)))
bracket_reads place d x z cs (Ok (c ∷ w)) e h l s rest =
    let k = rest w (omega (arith, joins_length z (c ∷ w) l)) in
    (script cs k.0, k.1, (z, e, Ok (c ∷ w), h, k.2))
bracket_reads place d x z cs (Err f) e h l s rest =
    (script cs no_parts, Err f, (z, e, Err f, h, (refl, refl)))

part_reads : (m : Next) (place : Place) (d : ℕ) (x : List ℕ) → next place d x ≡ m → Shorter m x →
    Within m d → ((z : List ℕ) → length z < length x → PartsRead place d z)
    → (0 < d → (z : List ℕ) → PartsRead within_index (d - 1) z) →
    (0 < d → (z : List ℕ) → CommandsRead bracketed (d - 1) z) → PartsRead place d x
part_reads end place d x e s w rest index bracket =
    (no_parts, Ok x, subst (λ m. EndsAs m x (Ok x)) (sym e) refl)
part_reads (fault f) place d x e s w rest index bracket =
    (no_parts, Err f, subst (λ m. EndsAs m x (Err f)) (sym e) refl)
part_reads (a_byte b z) place d x e s w rest index bracket = let k = rest z s in
    (byte b k.0, k.1, (z, e, k.2))
part_reads (a_name n z) place d x e s w rest index bracket = let k = rest z s in
    (variable n k.0, k.1, (z, e, k.2))
part_reads (an_index n z) place d x e s w rest index bracket =
    let k = index w z in index_reads place d x n z k.0 k.1 e k.2
    (parts_leave k.0 within_index (d - 1) z k.1 k.2) s rest
part_reads (an_element n i z) place d x e s w rest index bracket = let k = rest z s in
    (element n (bytes_then i no_parts) k.0, k.1, inr (i, z, e, refl, k.2))
part_reads (a_bracket z) place d x e s w rest index bracket =
    let k = bracket w z in bracket_reads place d x z k.0 k.1 e k.2
    (commands_leave k.0 bracketed (d - 1) z k.1 k.2) s rest

parts_exist : (d : ℕ) → (0 < d → (z : List ℕ) → PartsRead within_index (d - 1) z) →
    (0 < d → (z : List ℕ) → CommandsRead bracketed (d - 1) z) → (place : Place) (x : List ℕ) →
    PartsRead place d x
parts_exist d index bracket place =
    by_length (PartsRead place d) (λ x rest. part_reads (next place d x) place d x refl
    (piece_shorter place d x) (piece_within place d x) rest index bracket)

-- an outcome of reading the text x leaves a shorter text
abbrev Shrinks : List ℕ → Outcome → Type 0
Shrinks x (Ok z) = length z < length x
Shrinks x (Err f) = Unit {0}

leaves_shrinks : (x y : List ℕ) (o : Outcome) → length y < length x → Leaves y o → Shrinks x o
leaves_shrinks x y (Ok z) s h = omega (arith, joins_length y z h)
leaves_shrinks x y (Err f) s h = tt

shrinks_leaves : (x y : List ℕ) (o : Outcome) → Joins x y → Shrinks y o → Shrinks x o
shrinks_leaves x y (Ok z) h s = omega (arith, joins_length x y h, s)
shrinks_leaves x y (Err f) h s = tt

stops_shrinks : (m : Next) (x : List ℕ) (o : Outcome) → IsPiece m → EndsAs m x o → Shrinks x o
stops_shrinks end x o p h = absurd p
stops_shrinks (fault f) x o p h = subst (Shrinks x) (sym h) tt
stops_shrinks (a_byte b z) x o p h = absurd h
stops_shrinks (a_name n z) x o p h = absurd h
stops_shrinks (an_index n z) x o p h = absurd h
stops_shrinks (an_element n i z) x o p h = absurd h
stops_shrinks (a_bracket z) x o p h = absurd h

then_shrinks : (x y : List ℕ) (r o : Outcome) (T : Type 0) (M : List ℕ → Type 0) →
    length y < length x → Leaves y r → Then r T M o → ((w : List ℕ) → M w → Leaves w o) →
    Shrinks x o
then_shrinks x y r o T M s h k more = leaves_shrinks x y o s (then_leaves y r o T M h k more)

bare_shrinks : (ps : Parts) (context : Context) (d : ℕ) (x : List ℕ) (o : Outcome) →
    ends_word context x ≡ false → IsParts (in_word context) d ps x o → Shrinks x o
bare_shrinks no_parts context d x o b h =
    stops_shrinks (next (in_word context) d x) x o (bare_is_piece context d x b) h
bare_shrinks (byte c ps) context d x o b h =
    let s : length h.0 < length x = subst (λ m. Shorter m x) h.1
    (piece_shorter (in_word context) d x) in
    leaves_shrinks x h.0 o s (parts_leave ps (in_word context) d h.0 o h.2)
bare_shrinks (variable n ps) context d x o b h =
    let s : length h.0 < length x = subst (λ m. Shorter m x) h.1
    (piece_shorter (in_word context) d x) in
    leaves_shrinks x h.0 o s (parts_leave ps (in_word context) d h.0 o h.2)
bare_shrinks (element n is ps) context d x o b (inl h) =
    let s : length h.0 < length x = subst (λ m. Shorter m x) h.1
    (piece_shorter (in_word context) d x) in
    then_shrinks x h.0 (index_closed h.2) o (ps ≡ no_parts)
    (λ w. IsParts (in_word context) d ps w o) s
    (index_leaves h.0 h.2 (parts_leave is within_index (d - 1) h.0 h.2 h.3)) h.4
    (λ w k. parts_leave ps (in_word context) d w o k)
bare_shrinks (element n is ps) context d x o b (inr h) =
    let s : length h.1 < length x = subst (λ m. Shorter m x) h.2
    (piece_shorter (in_word context) d x) in
    leaves_shrinks x h.1 o s (parts_leave ps (in_word context) d h.1 o h.4)
bare_shrinks (script cs ps) context d x o b h =
    let s : length h.0 < length x = subst (λ m. Shorter m x) h.1
    (piece_shorter (in_word context) d x) in
    then_shrinks x h.0 (bracket_closed h.2) o (ps ≡ no_parts)
    (λ w. IsParts (in_word context) d ps w o) s
    (bracket_leaves h.0 h.2 (commands_leave cs bracketed (d - 1) h.0 h.2 h.3)) h.4
    (λ w k. parts_leave ps (in_word context) d w o k)

-- a word without its prefix is read, and takes at least one byte
abbrev BodyRead : Context → ℕ → Kind → List ℕ → Type 0
BodyRead context d w x = (ps : Parts) × (r : Outcome)
    × IsWord context ps (λ place z s. IsParts place d ps z s) w x r × Shrinks x r

abbrev KindShorter : Kind → List ℕ → Type 0
KindShorter (in_braces z) x = length z < length x
KindShorter (in_quotes z) x = length z < length x
KindShorter bare x = Unit {0}

kind_if : (b : Bool) (m n : Kind) (x : List ℕ) → KindShorter m x → KindShorter n x →
    KindShorter (if b then m else n) x
kind_if true m n x h k = h
kind_if false m n x h k = k

kind_shorter : (x : List ℕ) → KindShorter (kind x) x
kind_shorter [] = tt
kind_shorter (c ∷ x) = kind_if (c == 123) (in_braces x) _ (c ∷ x) (omega arith)
    (kind_if (c == 34) (in_quotes x) bare (c ∷ x) (omega arith) tt)

braces_read : (context : Context) (x : List ℕ) → (ps : Parts) × (r : Outcome)
    × IsBraced context ps x r
braces_read context x = elim (pair_or_none x) [
  | inl p ↦ let v = each_value p.0 in (
    bytes_then v.0 no_parts,
    word_ended context after_brace p.1,
    inl (p.0, p.1, v.0, p.2, v.1, refl, refl),
  )
  | inr p ↦ (no_parts, Err open_brace, inr (p, refl, refl))
]

body_reads : (w : Kind) (context : Context) (d : ℕ) (x : List ℕ) → KindShorter w x →
    ends_word context x ≡ false → ((place : Place) (z : List ℕ) → PartsRead place d z) →
    BodyRead context d w x
body_reads (in_braces z) context d x s b parts =
    let k = braces_read context z in
    (k.0, k.1, k.2, leaves_shrinks x z k.1 s (braced_leaves context k.0 z k.1 k.2))
body_reads (in_quotes z) context d x s b parts =
    let k = parts within_quotes z in (
      k.0,
      quotes_closed context k.1,
      (k.1, k.2, refl),
      leaves_shrinks x z (quotes_closed context k.1) s
          (quotes_leaves context z k.1 (parts_leave k.0 within_quotes d z k.1 k.2)),
    )
body_reads bare context d x s b parts =
    let k = parts (in_word context) x in
    (k.0, k.1, k.2, bare_shrinks k.0 context d x k.1 b k.2)

prefix_if : (b e : Bool) (context : Context) (x z : List ℕ) → ends_word context x ≡ false →
    ends_word context z ≡ e → ends_word context
    (without_prefix context x (if b then Some z else None)) ≡ false
prefix_if true true context x z h k =
    subst (λ v. ends_word context (if v then x else z) ≡ false) (sym k) h
prefix_if true false context x z h k =
    subst (λ v. ends_word context (if v then x else z) ≡ false) (sym k) k
prefix_if false e context x z h k = h

unprefixed_begins : (context : Context) (x : List ℕ) → ends_word context x ≡ false →
    ends_word context (unprefixed context x) ≡ false
unprefixed_begins context [] h = h
unprefixed_begins context (a ∷ []) h = h
unprefixed_begins context (a ∷ b ∷ []) h = h
unprefixed_begins context (a ∷ b ∷ c ∷ z) h =
    prefix_if ((a == 123) && ((b == 42) && (c == 125))) (ends_word context z) context (a ∷ b ∷ c
    ∷ z) z h refl

-- words are read, and take at least one byte where the command does not end at once
abbrev WordsRead : Context → ℕ → List ℕ → Type 0
WordsRead context d x = (ws : Words) × (o : Outcome) × IsWords context d ws x o
    × (ends_command context x ≡ false → Shrinks x o)

abbrev WordsFrom : Context → ℕ → List ℕ → Type 0
WordsFrom context d x = ends_word context x ≡ ends_command context x → WordsRead context d x

word_reads : (r : Outcome) (context : Context) (d : ℕ) (x : List ℕ) (ps : Parts) →
    ends_command context x ≡ false
    → IsWord context ps (λ place z s. IsParts place d ps z s) (kind (unprefixed context x))
    (unprefixed context x) r → Shrinks x r
    → ((z : List ℕ) → length z < length x → WordsFrom context d z) → WordsRead context d x
word_reads (Ok z) context d x ps b h s rest =
    let next_word = skip_white context false z in
    let k = rest next_word (omega (arith, joins_length z next_word (white_joins context false z)))
    (white_begins context false z) in
    let on : Joins z next_word = white_joins context false z in (
      word (expands context x) ps k.0,
      k.1,
      (b, refl, Ok z, h, k.2),
      λ _. leaves_shrinks x z k.1 s (leaves_trans z next_word k.1 on
          (words_leave k.0 context d next_word k.1 k.2)),
    )
word_reads (Err f) context d x ps b h s rest =
    (word (expands context x) ps no_words, Err f, (b, refl, Err f, h, (refl, refl)), λ _. tt)

words_read_if : (b : Bool) (context : Context) (d : ℕ) (x : List ℕ) → ends_command context x ≡ b →
    ((place : Place) (z : List ℕ) → PartsRead place d z)
    → ((z : List ℕ) → length z < length x → WordsFrom context d z) → WordsFrom context d x
words_read_if true context d x b parts rest begins = (no_words, Ok x, (b, refl), λ h. absurd (cc))
words_read_if false context d x b parts rest begins =
    let body = unprefixed context x in
    let k = body_reads (kind body) context d body (kind_shorter body)
    (unprefixed_begins context x (begins ∙ b)) parts in
    word_reads k.1 context d x k.0 b k.2 (shrinks_leaves x body k.1 (unprefixed_joins context x)
    k.3) rest

words_exist : (d : ℕ) → ((place : Place) (z : List ℕ) → PartsRead place d z) →
    (context : Context) (x : List ℕ) → WordsFrom context d x
words_exist d parts context = by_length (WordsFrom context d)
    (λ x rest. words_read_if (ends_command context x) context d x refl parts rest)

command_reads : (r : Outcome) (context : Context) (d : ℕ) (x : List ℕ) (ws : Words) →
    ends_script context (skip_gap context between x) ≡ false
    → IsWords context d ws (skip_gap context between x) r → Shrinks x r →
    ((z : List ℕ) → length z < length x → CommandsRead context d z) → CommandsRead context d x
command_reads (Ok z) context d x ws b h s rest = let k = rest z s in
    (command ws k.0, k.1, (b, Ok z, h, k.2))
command_reads (Err f) context d x ws b h s rest =
    (command ws no_commands, Err f, (b, Err f, h, (refl, refl)))

commands_read_if : (b : Bool) (context : Context) (d : ℕ) (x : List ℕ) →
    ends_script context (skip_gap context between x) ≡ b →
    ((context : Context) (z : List ℕ) → WordsFrom context d z)
    → ((z : List ℕ) → length z < length x → CommandsRead context d z) → CommandsRead context d x
commands_read_if true context d x b words rest =
    (no_commands, Ok (skip_gap context between x), (b, refl))
commands_read_if false context d x b words rest =
    let start = skip_gap context between x in
    let no_end = gap_begins context between x ∙ b in
    let goes_on = command_goes_on context start no_end in
    let k = words context start (no_end ∙ sym goes_on) in
    command_reads k.1 context d x k.0 b k.2 (shrinks_leaves x start k.1
    (gap_joins context between x) (k.3 goes_on)) rest

commands_exist : (d : ℕ) → ((context : Context) (z : List ℕ) → WordsFrom context d z) →
    (context : Context) (x : List ℕ) → CommandsRead context d x
commands_exist d words context = by_length (CommandsRead context d)
    (λ x rest. commands_read_if (ends_script context (skip_gap context between x)) context d x refl
    words rest)

abbrev AllRead : ℕ → Type 0
AllRead d = ((place : Place) (x : List ℕ) → PartsRead place d x)
    × ((context : Context) (x : List ℕ) → WordsFrom context d x)
    × ((context : Context) (x : List ℕ) → CommandsRead context d x)

all_read : (d : ℕ) → ((place : Place) (x : List ℕ) → PartsRead place d x) → AllRead d
all_read d parts = let words = words_exist d parts in (parts, words, commands_exist d words)

pub at_depth : (d : ℕ) → AllRead d
at_depth zero = all_read zero (parts_exist zero (λ h z. absurd (omega arith))
    (λ h z. absurd (omega arith)))
at_depth (suc d) =
    let below = at_depth d in
    let less : d ≡ suc d - 1 = omega arith in
    all_read (suc d) (parts_exist (suc d) (λ h z. subst (λ n. PartsRead within_index n z) less
    (below.0 within_index z)) (λ h z. subst (λ n. CommandsRead bracketed n z) less
    (below.2 bracketed z)))

commands_end_then : (r : Outcome) (cs : Commands) (context : Context) (d : ℕ) (z : List ℕ) →
    Then r (cs ≡ no_commands) (λ w. IsCommands context d cs w (Ok z)) (Ok z)
    → ((w : List ℕ) → IsCommands context d cs w (Ok z) → ends_script context z ≡ true) →
    ends_script context z ≡ true
commands_end_then (Ok w) cs context d z h more = more w h
commands_end_then (Err f) cs context d z h more = absurd (cc (h.1))

-- commands end where a script does
commands_end : (cs : Commands) (context : Context) (d : ℕ) (x z : List ℕ) →
    IsCommands context d cs x (Ok z) → ends_script context z ≡ true
commands_end no_commands context d x z h = let same : skip_gap context between x ≡ z = cc (h.1) in
    subst (λ v. ends_script context v ≡ true) same h.0
commands_end (command ws cs) context d x z h =
    commands_end_then h.1 cs context d z h.3 (λ w k. commands_end cs context d w z k)

words_end_then : (r : Outcome) (ws : Words) (context : Context) (d : ℕ) (z : List ℕ) →
    Then r (ws ≡ no_words) (λ w. IsWords context d ws (skip_white context false w) (Ok z)) (Ok z)
    → ((w : List ℕ) → IsWords context d ws (skip_white context false w) (Ok z) →
    ends_command context z ≡ true) → ends_command context z ≡ true
words_end_then (Ok w) ws context d z h more = more w h
words_end_then (Err f) ws context d z h more = absurd (cc (h.1))

words_end : (ws : Words) (context : Context) (d : ℕ) (x z : List ℕ) → IsWords context d ws x (Ok z)
    → ends_command context z ≡ true
words_end no_words context d x z h = let same : x ≡ z = cc (h.1) in
    subst (λ v. ends_command context v ≡ true) same h.0
words_end (word e ps ws) context d x z h =
    words_end_then h.2 ws context d z h.4 (λ w k. words_end ws context d
    (skip_white context false w) z k)

script_over : (z : List ℕ) → ends_script whole_script z ≡ true → z ≡ []
script_over [] h = refl
script_over (c ∷ z) h = absurd (cc)

argument_over : (z : List ℕ) → ends_command argument z ≡ true → z ≡ []
argument_over [] h = refl
argument_over (c ∷ z) h = absurd (cc)

-- commands, at least one, are split before the last of them
last_apart : (cs : Commands) (ws : Words) → (bs : Commands) × (vs : Words)
    × (command ws cs ≡ with_last bs vs)
last_apart no_commands ws = (no_commands, ws, refl)
last_apart (command vs cs) ws = let k = last_apart cs vs in
    (command ws k.0, k.1, ap (λ t. command ws t) k.2)

fault_apart : (cs : Commands) (x : List ℕ) (f : Fault) → IsCommands whole_script 100 cs x (Err f) →
    (bs : Commands) × IsScript bs (Some f) x
fault_apart no_commands x f h = absurd (cc (h.1))
fault_apart (command ws cs) x f h = let k = last_apart cs ws in
    (k.0, (k.1, subst (λ t. IsCommands whole_script 100 t x (Err f)) k.2 h))

script_from : (o : Outcome) (cs : Commands) (x : List ℕ) → IsCommands whole_script 100 cs x o →
    (bs : Commands) × (f : Option Fault) × IsScript bs f x
script_from (Ok z) cs x h = (
  cs,
  None,
  subst (λ v. IsCommands whole_script 100 cs x (Ok v))
      (script_over z (commands_end cs whole_script 100 x z h)) h,
)
script_from (Err f) cs x h = let k = fault_apart cs x f h in (k.0, Some f, k.1)

pub each_script : (x : List ℕ) → (cs : Commands) × (f : Option Fault) × IsScript cs f x
each_script x = let k = (at_depth 100).2 whole_script x in script_from k.1 k.0 x k.2

argument_from : (o : Outcome) (ws : Words) (x : List ℕ) →
    IsWords argument 100 ws (skip_white argument false x) o → (vs : Words) × (f : Option Fault)
    × IsArgument vs f x
argument_from (Ok z) ws x h = (
  ws,
  None,
  subst (λ v. IsWords argument 100 ws (skip_white argument false x) (Ok v))
      (argument_over z (words_end ws argument 100 (skip_white argument false x) z h)) h,
)
argument_from (Err f) ws x h = (no_words, Some f, (refl, ws, h))

pub each_argument : (x : List ℕ) → (ws : Words) × (f : Option Fault) × IsArgument ws f x
each_argument x =
    let start = skip_white argument false x in
    let k = (at_depth 100).1 argument start (white_begins argument false x) in
    argument_from k.1 k.0 x k.2
