-- One more step of a reader: what comes after it completes what was read before it.
use Rattle.std.proofs.Common.{◌≡◌, ℕ, ◌-◌, List, [], ◌∷◌, ◌++◌, length, ◌<◌, true, false, Result, Ok, Err, Vec, refl, sym, ap, subst, ◌∙◌, inl, inr}
use Rattle.std.specs.Borrow.{Bor}
use Rattle.std.specs.declared.rc.Rc.{Rc}
use Rattle.tclparse.specs.Fault.{Fault}
use Rattle.tclparse.specs.Tree.{Parts, no_parts, byte, variable, element, script, Words, no_words, word, Commands, no_commands, command, bytes_then, with_last}
use Rattle.tclparse.specs.Context.{Context, ends_command, ends_script}
use Rattle.tclparse.specs.Gap.{skip_white, skip_gap, between}
use Rattle.tclparse.specs.Piece.{Place, a_byte, a_name, an_index, an_element, a_bracket, next}
use Rattle.tclparse.specs.Grammar.{Outcome, Then, bracket_closed, index_closed, expands, unprefixed, IsParts, IsWords, IsCommands}
use Rattle.tclparse.specs.Seen.{fault_of}
use Rattle.tclparse.specs.Reads.{Read, IsBody, IsOneWord, IsBracket, IsIndex, ReadsElement, ReadsParts, ReadsBracket, ReadsBody, ReadsWord, ReadsWords}
use Rattle.tclparse.specs.Normal.{form_of, other}
use Rattle.tclparse.specs.View.{part_view, word_view, parts_then, words_then, commands_then}
use Rattle.tclparse.specs.declared.tree.Part.{Part}
use Rattle.tclparse.specs.declared.tree.Part.TheViews.{roll-Command}
use Rattle.tclparse.specs.declared.tree.Word.{Word}
use Rattle.tclparse.specs.declared.tree.Command.{Command}
use Rattle.tclparse.specs.declared.error.ReadError.{ReadError}
use Rattle.tclparse.specs.declared.error.ReadError.TheVariants as error
use Rattle.tclparse.proofs.Trees.{parts_push, words_push, commands_push, bytes_push, commands_last, view_of_command}

-- What was read of the text x, where y is still unread: whatever completes y completes x.
abbrev pub PartsSoFar : Place → ℕ → List ℕ → List ℕ → (Parts → Parts) → Type 0
PartsSoFar place d x y front = (t : Parts) (o : Outcome) → IsParts place d t y o →
    IsParts place d (front t) x o

abbrev pub WordsSoFar : Context → ℕ → List ℕ → List ℕ → (Words → Words) → Type 0
WordsSoFar context d x y front = (t : Words) (o : Outcome) → IsWords context d t y o →
    IsWords context d (front t) x o

abbrev pub CommandsSoFar : Context → ℕ → List ℕ → List ℕ → (Commands → Commands) → Type 0
CommandsSoFar context d x y front = (t : Commands) (o : Outcome) → IsCommands context d t y o →
    IsCommands context d (front t) x o

pub after_byte : {A : Type 0} (place : Place) (d : ℕ) (x y z : List ℕ) (b : ℕ) (ps : List (Part A))
    (bs cs : List ℕ)
    → PartsSoFar place d x y (λ t. parts_then ps (bytes_then bs t)) → a_byte b z ≡ next place d y →
    cs ≡ bs ++ b ∷ []
    → PartsSoFar place d x z (λ t. parts_then ps (bytes_then cs t))
after_byte place d x y z b ps bs cs so_far e is t o h =
    subst (λ p. IsParts place d (parts_then ps p) x o)
    (sym (ap (λ l. bytes_then l t) is ∙ bytes_push bs b t)) (so_far (byte b t) o (z, sym e, h))

-- a part that is pushed after the literal bytes before it were made a part: what it puts before the
-- parts after it
pushed_part : {A : Type 0} (p : Part A) (q t : Parts) (ps qs rs : List (Part A)) (bs cs : List ℕ)
    → ((u : Parts) → parts_then qs u ≡ parts_then ps (bytes_then bs u)) → part_view p t ≡ q → rs
    ≡ qs ++ p ∷ [] → cs ≡ []
    → parts_then rs (bytes_then cs t) ≡ parts_then ps (bytes_then bs q)
pushed_part p q t ps qs rs bs cs ended is pushed none =
    ap (λ l. parts_then rs (bytes_then l t)) none ∙ ap (λ l. parts_then l t) pushed
    ∙ parts_push qs p t ∙ ap (parts_then qs) is ∙ ended q

-- one more part, after the literal bytes before it were made a part
pub after_part : {A : Type 0} (place : Place) (d : ℕ) (x y z : List ℕ) (p : Part A) (front : Parts →
    Parts) (ps qs rs : List (Part A)) (bs cs : List ℕ)
    → PartsSoFar place d x y (λ t. parts_then ps (bytes_then bs t)) → PartsSoFar place d y z front →
    ((t : Parts) → part_view p t ≡ front t)
    → ((t : Parts) → parts_then qs t ≡ parts_then ps (bytes_then bs t)) → rs ≡ qs ++ p ∷ [] → cs
    ≡ []
    → PartsSoFar place d x z (λ t. parts_then rs (bytes_then cs t))
after_part place d x y z p front ps qs rs bs cs so_far one is ended pushed none t o h =
    subst (λ q. IsParts place d q x o)
    (sym (pushed_part p (front t) t ps qs rs bs cs ended (is t) pushed none))
    (so_far (front t) o (one t o h))

-- The part r.0, which is no literal, stands at the front of the text y and leaves r.1, less than y;
-- front is what it puts before the parts after it.
abbrev pub StandsAt : {A : Type 0} → Place → ℕ → List ℕ → Part A × Bor (List ℕ) → Type 0
StandsAt place d y r = (front : Parts → Parts) × PartsSoFar place d y r.1.now front
    × ((t : Parts) → part_view r.0 t ≡ front t) × (length r.1.now < length y)
    × (form_of r.0 ≡ other)

-- what each piece puts before the parts after it
pub name_part : (place : Place) (d : ℕ) (y z n : List ℕ) → a_name n z ≡ next place d y →
    PartsSoFar place d y z (variable n)
name_part place d y z n e t o h = (z, sym e, h)

pub script_part : (place : Place) (d : ℕ) (y w z : List ℕ) (cs : Commands) → a_bracket w
    ≡ next place d y → IsBracket (d - 1) cs w (Ok z) → PartsSoFar place d y z (script cs)
script_part place d y w z cs e inner t o h =
    let goes_on : Then (bracket_closed inner.0) (t ≡ no_parts) (λ v. IsParts place d t v o) o =
    subst (λ r. Then r (t ≡ no_parts) (λ v. IsParts place d t v o) o) (sym inner.2) h in
    (w, sym e, inner.0, inner.1, goes_on)

pub index_part : (place : Place) (d : ℕ) (y w z n : List ℕ) (is : Parts) → an_index n w
    ≡ next place d y → IsIndex (d - 1) is w (Ok z) → PartsSoFar place d y z (element n is)
index_part place d y w z n is e inner t o h =
    let goes_on : Then (index_closed inner.0) (t ≡ no_parts) (λ v. IsParts place d t v o) o =
    subst (λ r. Then r (t ≡ no_parts) (λ v. IsParts place d t v o) o) (sym inner.2) h in
    inl (w, sym e, inner.0, inner.1, goes_on)

pub element_part : (place : Place) (d : ℕ) (y z n i : List ℕ) → an_element n i z ≡ next place d y →
    PartsSoFar place d y z (element n (bytes_then i no_parts))
element_part place d y z n i e t o h = inr (i, z, sym e, refl, h)

-- the fault of a nested script is that of the parts it stands in
script_fault : {A : Type 0} (place : Place) (d : ℕ) (x y w : List ℕ) (f : Fault)
    (ps : List (Part A)) (bs : List ℕ)
    → PartsSoFar place d x y (λ t. parts_then ps (bytes_then bs t)) → a_bracket w ≡ next place d y →
    (cs : Commands) × IsBracket (d - 1) cs w (Err f)
    → (t : Parts) × IsParts place d t x (Err f)
script_fault place d x y w f ps bs so_far e found =
    let inner = found.1 in
    let stops : Then (bracket_closed inner.0) (no_parts ≡ no_parts)
    (λ v. IsParts place d no_parts v (Err f)) (Err f) =
    subst (λ r. Then r (no_parts ≡ no_parts) (λ v. IsParts place d no_parts v (Err f)) (Err f))
    (sym inner.2) (refl, refl) in (
      parts_then ps (bytes_then bs (script found.0 no_parts)),
      so_far (script found.0 no_parts) (Err f) (w, sym e, inner.0, inner.1, stops),
    )

-- the fault of an index is that of the parts it stands in
index_fault : {A : Type 0} (place : Place) (d : ℕ) (x y w n : List ℕ) (f : Fault)
    (ps : List (Part A)) (bs : List ℕ)
    → PartsSoFar place d x y (λ t. parts_then ps (bytes_then bs t)) → an_index n w ≡ next place d y
    → (is : Parts) × IsIndex (d - 1) is w (Err f)
    → (t : Parts) × IsParts place d t x (Err f)
index_fault place d x y w n f ps bs so_far e found =
    let inner = found.1 in
    let stops : Then (index_closed inner.0) (no_parts ≡ no_parts)
    (λ v. IsParts place d no_parts v (Err f)) (Err f) =
    subst (λ r. Then r (no_parts ≡ no_parts) (λ v. IsParts place d no_parts v (Err f)) (Err f))
    (sym inner.2) (refl, refl) in (
      parts_then ps (bytes_then bs (element n found.0 no_parts)),
      so_far (element n found.0 no_parts) (Err f) (inl (w, sym e, inner.0, inner.1, stops)),
    )

pub index_error : {A : Type 0} (place : Place) (d : ℕ) (x y w n : List ℕ) (e : ReadError)
    (ps : List (Part A)) (bs : List ℕ) (r : Read A (Part A))
    → PartsSoFar place d x y (λ t. parts_then ps (bytes_then bs t)) → an_index n w ≡ next place d y
    → ReadsElement {A = A} n (d - 1) w (Err e) → r ≡ Err e → ReadsParts place d x r
index_error place d x y w n (error.Memory refusal) ps bs r so_far at h is =
    subst (ReadsParts place d x) (sym is) tt
index_error place d x y w n (error.Fault f) ps bs r so_far at h is =
    subst (ReadsParts place d x) (sym is) (index_fault place d x y w n (fault_of f) ps bs
    so_far at h)

pub after_word : {A : Type 0} (context : Context) (d : ℕ) (x y z u : List ℕ) (w : Word A)
    (ws vs : List (Word A))
    → WordsSoFar context d x y (words_then ws) → ends_command context y ≡ false →
    ((t : Words) → IsOneWord context d (word_view w t) t y (Ok z)) → vs ≡ ws ++ w ∷ []
    → u ≡ skip_white context false z → WordsSoFar context d x u (words_then vs)
after_word context d x y z u w ws vs so_far begins read pushed skipped t o h =
    let rest : IsWords context d t (skip_white context false z) o =
    subst (λ v. IsWords context d t v o) skipped h in
    let one = read t in
    subst (λ v. IsWords context d v x o) (sym (ap (λ l. words_then l t) pushed ∙ words_push ws w t
    ∙ ap (words_then ws) one.1))
    (so_far (word (expands context y) one.0 t) o (begins, refl, Ok z, one.2, rest))

word_fault : {A : Type 0} (context : Context) (d : ℕ) (x y : List ℕ) (f : Fault)
    (ws : List (Word A))
    → WordsSoFar context d x y (words_then ws) → ends_command context y ≡ false → (ps : Parts)
    × IsBody context d ps (unprefixed context y) (Err f) → (t : Words)
    × IsWords context d t x (Err f)
word_fault context d x y f ws so_far begins found =
    let one = word (expands context y) found.0 no_words in
    (words_then ws one, so_far one (Err f) (begins, refl, Err f, found.1, (refl, refl)))

pub word_error : {A : Type 0} (context : Context) (d : ℕ) (x y : List ℕ) (e : ReadError)
    (ws : List (Word A)) (r : Read A (Word A))
    → WordsSoFar context d x y (words_then ws) → ends_command context y ≡ false →
    ReadsWord {A = A} context d y (Err e) → r ≡ Err e → ReadsWords context d x r
word_error context d x y (error.Memory refusal) ws r so_far begins h is =
    subst (ReadsWords context d x) (sym is) tt
word_error context d x y (error.Fault f) ws r so_far begins h is =
    subst (ReadsWords context d x) (sym is) (word_fault context d x y (fault_of f) ws so_far begins
    h)

pub words_end : {A : Type 0} (context : Context) (d : ℕ) (x y : List ℕ) (ws : List (Word A))
    → WordsSoFar context d x y (words_then ws) → ends_command context y ≡ true →
    IsWords context d (words_then ws no_words) x (Ok y)
words_end context d x y ws so_far ends = so_far no_words (Ok y) (ends, refl)

-- a word is what stands after its prefix
pub body_error : {A : Type 0} (context : Context) (d : ℕ) (x y : List ℕ) (e : ReadError)
    (r : Result (Word A × Bor (List ℕ)) ReadError)
    → y ≡ unprefixed context x → ReadsBody {A = A} context d y (Err e) → r ≡ Err e →
    ReadsWord context d x r
body_error context d x y (error.Memory refusal) r at h is =
    subst (ReadsWord context d x) (sym is) tt
body_error context d x y (error.Fault f) r at h is =
    subst (ReadsWord context d x) (sym is) (
      h.0,
      subst (λ v. IsBody context d h.0 v (Err (fault_of f))) at h.1,
    )

pub after_command : {A : Type 0} (context : Context) (d : ℕ) (x y s z : List ℕ) (n : ℕ)
    (ws : Rc (Vec (Word A) A) A) (cs bs : List (Command A))
    → CommandsSoFar context d x y (commands_then cs) → s ≡ skip_gap context between y →
    ends_script context s ≡ false → IsWords context d (words_then ws.value.items no_words) s
    (Ok z)
    → bs ≡ cs ++ roll-Command A (record { from_end = n; words = ws }) ∷ [] →
    CommandsSoFar context d x z (commands_then bs)
after_command {A} context d x y s z n ws cs bs so_far skipped begins is pushed t o h =
    let c = roll-Command A (record { from_end = n; words = ws }) in
    let inside = words_then ws.value.items no_words in
    let first : (ends_script context (skip_gap context between y) ≡ false)
    × IsWords context d inside (skip_gap context between y) (Ok z) =
    subst (λ v. (ends_script context v ≡ false) × IsWords context d inside v (Ok z)) skipped
    (begins, is) in
    subst (λ v. IsCommands context d v x o) (sym (ap (λ l. commands_then l t) pushed
    ∙ commands_push cs c t ∙ ap (λ l. commands_then cs (command l t)) (view_of_command n ws)))
    (so_far (command inside t) o (first.0, Ok z, first.1, h))

pub command_fault : {A : Type 0} (context : Context) (d : ℕ) (x y s : List ℕ) (f : Fault)
    (cs : List (Command A))
    → CommandsSoFar context d x y (commands_then cs) → s ≡ skip_gap context between y →
    ends_script context s ≡ false → (ws : Words) × IsWords context d ws s (Err f)
    → (ws : Words) × IsCommands context d (with_last (commands_then cs no_commands) ws) x (Err f)
command_fault context d x y s f cs so_far skipped begins found =
    let ws = found.0 in
    let first : (ends_script context (skip_gap context between y) ≡ false)
    × IsWords context d ws (skip_gap context between y) (Err f) =
    subst (λ v. (ends_script context v ≡ false) × IsWords context d ws v (Err f)) skipped (
      begins,
      found.1,
    ) in (
      ws,
      subst (λ v. IsCommands context d v x (Err f)) (sym (commands_last cs ws))
          (so_far (command ws no_commands) (Err f) (first.0, Err f, first.1, (refl, refl))),
    )

-- an error that is passed on
pub bracket_error : {A : Type 0} (place : Place) (d : ℕ) (x y w : List ℕ) (e : ReadError)
    (ps : List (Part A)) (bs : List ℕ) (r : Read A (Part A))
    → PartsSoFar place d x y (λ t. parts_then ps (bytes_then bs t)) → a_bracket w ≡ next place d y →
    ReadsBracket {A = A} (d - 1) w (Err e) → r ≡ Err e → ReadsParts place d x r
bracket_error place d x y w (error.Memory refusal) ps bs r so_far at h is =
    subst (ReadsParts place d x) (sym is) tt
bracket_error place d x y w (error.Fault f) ps bs r so_far at h is =
    subst (ReadsParts place d x) (sym is) (script_fault place d x y w (fault_of f) ps bs
    so_far at h)
