-- The words of a call of rx-explain: what is said of the story, and what is left for rx.
use Rattle.std.proofs.Common.{◌≡◌, ◌≢◌, ℕ, List, [], ◌∷◌, ◌++◌, Option, Some, None, refl, ap, sym, subst, ◌∙◌, inl, inr, flat_map, get_or, length, arith}
use Rattle.std.specs.Prelude.{IfNone, codes}
use Rattle.arguments.specs.Arguments.{AreScript, Call, Command, IsCall, IsOneCall, Limit, Name, Record, Replay, Setting, spelled, word_of}
use Rattle.teller.specs.declared.telling.Detail.{Detail}
use Rattle.teller.specs.declared.telling.Detail.TheVariants.{Brief, Whole}
use Rattle.explain.specs.Asked.{Asks, AsksOnly, IsFront, Spells}

-- no option of rx is spelled as one of the story
no_story_name : (name : Name) → word_of name ≢ codes "--story"
no_story_name Command = λ e. cc e
no_story_name Replay = λ e. omega (arith, ap (λ word. get_or word 2 0) e)
no_story_name Record = λ e. omega (arith, ap (λ word. get_or word 2 0) e)
no_story_name Limit = λ e. omega (arith, ap (λ word. get_or word 2 0) e)

no_brief_name : (name : Name) → word_of name ≢ codes "--brief"
no_brief_name Command = λ e. cc e
no_brief_name Replay = λ e. omega (arith, ap (λ word. get_or word 2 0) e)
no_brief_name Record = λ e. omega (arith, ap (λ word. get_or word 2 0) e)
no_brief_name Limit = λ e. omega (arith, ap (λ word. get_or word 2 0) e)

other_option : codes "--story" ≢ codes "--brief"
other_option = λ e. omega (arith, ap (λ word. get_or word 2 0) e)

-- a word that begins with a dash, and is neither `-` nor `-f`, begins no script
no_script : (word tail : List ℕ) (rest script : List (List ℕ)) → word ≡ codes "-" ++ tail →
    tail ≢ [] → word ≢ codes "-f" → AreScript (word ∷ rest) script → ⊥
no_script word tail rest script is some other (inl (flag, left, same)) = other flag
no_script word tail rest script is some other (inr (file, same)) = some (file tail is)

-- no words of rx begin with it, where it is no option
begins_no_call : (word tail : List ℕ) (words : List (List ℕ)) (settings : List Setting)
    (rest script : List (List ℕ)) → word ≡ codes "-" ++ tail → tail ≢ [] → word ≢ codes "-f" →
    ((name : Name) → word_of name ≢ word) → word ∷ words ≡ flat_map spelled settings ++ rest →
    AreScript rest script → ⊥
begins_no_call word tail words [] rest script is some other none spells are =
    no_script word tail words script is some other
    (subst (λ list. AreScript list script) (sym spells) are)
begins_no_call word tail words (setting ∷ settings) rest script is some other none spells are =
    let first : word ≡ word_of setting.name = cc spells in none setting.name (sym first)

no_story : (rest : List (List ℕ)) (call : Call) → IsCall (codes "--story" ∷ rest) call → ⊥
no_story rest call is =
    begins_no_call (codes "--story") (codes "-story") rest is.settings is.rest call.script refl
    (λ e. omega (arith, ap length e)) (λ e. omega (arith, ap length e)) no_story_name is.spells
    is.script

no_brief : (rest : List (List ℕ)) (call : Call) → IsCall (codes "--brief" ∷ rest) call → ⊥
no_brief rest call is =
    begins_no_call (codes "--brief") (codes "-brief") rest is.settings is.rest call.script refl
    (λ e. omega (arith, ap length e)) (λ e. omega (arith, ap length e)) no_brief_name is.spells
    is.script

-- what words begin with that ask for a story in this file, in so much detail, where these are left
-- for rx
pub data Front (words left : List (List ℕ)) (file : Option (List ℕ)) (detail : Detail) :
    Type 0 where
  Bare : file ≡ None → detail ≡ Whole → words ≡ left → Front words left file detail
  Briefly : file ≡ None → detail ≡ Brief → words ≡ codes "--brief" ∷ left →
      Front words left file detail
  Named : (name : List ℕ) → file ≡ Some name → detail ≡ Whole →
      words ≡ codes "--story" ∷ name ∷ left → Front words left file detail
  Both : (name : List ℕ) → file ≡ Some name → detail ≡ Brief →
      words ≡ codes "--story" ∷ name ∷ codes "--brief" ∷ left → Front words left file detail
  Turned : (name : List ℕ) → file ≡ Some name → detail ≡ Brief →
      words ≡ codes "--brief" ∷ codes "--story" ∷ name ∷ left → Front words left file detail

front_of : (words left : List (List ℕ)) (file : Option (List ℕ)) (detail : Detail) →
    Spells words file detail left → Front words left file detail
front_of words left None Whole (inl is) = Bare refl refl is
front_of words left None Whole (inr is) = Bare refl refl is
front_of words left None Brief (inl is) = Briefly refl refl is
front_of words left None Brief (inr is) = Briefly refl refl is
front_of words left (Some name) Whole (inl is) = Named name refl refl is
front_of words left (Some name) Whole (inr is) = Named name refl refl is
front_of words left (Some name) Brief (inl is) = Both name refl refl is
front_of words left (Some name) Brief (inr is) = Turned name refl refl is

-- where words begin so, each way to read them has this file and this detail, and leaves these words
-- to rx
module _ (words rest : List (List ℕ)) where
  abbrev Leaves : Option (List ℕ) → Detail → Option (List ℕ) → Detail → Call → Type 0
  Leaves file detail other more call =
      (other ≡ file) × (more ≡ detail) × IsCall rest call

  pub both_left : (name : List ℕ) → words ≡ codes "--story" ∷ name ∷ codes "--brief" ∷ rest →
      (other : Option (List ℕ)) (more : Detail) (left : List (List ℕ)) (call : Call) →
      Front words left other more → IsCall left call → Leaves (Some name) Brief other more call
  both_left name is other more left call (Bare file much e) calls =
      absurd (no_story (name ∷ codes "--brief" ∷ rest) call
      (subst (λ list. IsCall list call) (sym e ∙ is) calls))
  both_left name is other more left call (Briefly file much e) calls =
      let same : codes "--story" ≡ codes "--brief" = cc (sym is ∙ e) in absurd (other_option same)
  both_left name is other more left call (Named found file much e) calls =
      let same : left ≡ codes "--brief" ∷ rest = cc (sym is ∙ e) in
      absurd (no_brief rest call (subst (λ list. IsCall list call) same calls))
  both_left name is other more left call (Both found file much e) calls =
      let named : found ≡ name = cc (sym is ∙ e) in
      let same : left ≡ rest = cc (sym is ∙ e) in
      (file ∙ ap Some named, much, subst (λ list. IsCall list call) same calls)
  both_left name is other more left call (Turned found file much e) calls =
      let same : codes "--story" ≡ codes "--brief" = cc (sym is ∙ e) in absurd (other_option same)

  pub named_left : (name : List ℕ) → words ≡ codes "--story" ∷ name ∷ rest →
      ((after : List (List ℕ)) → rest ≢ codes "--brief" ∷ after) →
      (other : Option (List ℕ)) (more : Detail) (left : List (List ℕ)) (call : Call) →
      Front words left other more → IsCall left call → Leaves (Some name) Whole other more call
  named_left name is none other more left call (Bare file much e) calls =
      absurd (no_story (name ∷ rest) call (subst (λ list. IsCall list call) (sym e ∙ is) calls))
  named_left name is none other more left call (Briefly file much e) calls =
      let same : codes "--story" ≡ codes "--brief" = cc (sym is ∙ e) in absurd (other_option same)
  named_left name is none other more left call (Named found file much e) calls =
      let named : found ≡ name = cc (sym is ∙ e) in
      let same : left ≡ rest = cc (sym is ∙ e) in
      (file ∙ ap Some named, much, subst (λ list. IsCall list call) same calls)
  named_left name is none other more left call (Both found file much e) calls =
      let same : rest ≡ codes "--brief" ∷ left = cc (sym is ∙ e) in absurd (none left same)
  named_left name is none other more left call (Turned found file much e) calls =
      let same : codes "--story" ≡ codes "--brief" = cc (sym is ∙ e) in absurd (other_option same)

  pub turned_left : (name : List ℕ) → words ≡ codes "--brief" ∷ codes "--story" ∷ name ∷ rest →
      (other : Option (List ℕ)) (more : Detail) (left : List (List ℕ)) (call : Call) →
      Front words left other more → IsCall left call → Leaves (Some name) Brief other more call
  turned_left name is other more left call (Bare file much e) calls =
      absurd (no_brief (codes "--story" ∷ name ∷ rest) call
      (subst (λ list. IsCall list call) (sym e ∙ is) calls))
  turned_left name is other more left call (Briefly file much e) calls =
      let same : left ≡ codes "--story" ∷ name ∷ rest = cc (sym is ∙ e) in
      absurd (no_story (name ∷ rest) call (subst (λ list. IsCall list call) same calls))
  turned_left name is other more left call (Named found file much e) calls =
      let same : codes "--story" ≡ codes "--brief" = cc (sym e ∙ is) in absurd (other_option same)
  turned_left name is other more left call (Both found file much e) calls =
      let same : codes "--story" ≡ codes "--brief" = cc (sym e ∙ is) in absurd (other_option same)
  turned_left name is other more left call (Turned found file much e) calls =
      let named : found ≡ name = cc (sym is ∙ e) in
      let same : left ≡ rest = cc (sym is ∙ e) in
      (file ∙ ap Some named, much, subst (λ list. IsCall list call) same calls)

  pub brief_left : words ≡ codes "--brief" ∷ rest →
      ((name : List ℕ) (after : List (List ℕ)) → rest ≢ codes "--story" ∷ name ∷ after) →
      (other : Option (List ℕ)) (more : Detail) (left : List (List ℕ)) (call : Call) →
      Front words left other more → IsCall left call → Leaves None Brief other more call
  brief_left is none other more left call (Bare file much e) calls =
      absurd (no_brief rest call (subst (λ list. IsCall list call) (sym e ∙ is) calls))
  brief_left is none other more left call (Briefly file much e) calls =
      let same : left ≡ rest = cc (sym is ∙ e) in
      (file, much, subst (λ list. IsCall list call) same calls)
  brief_left is none other more left call (Named found file much e) calls =
      let same : codes "--story" ≡ codes "--brief" = cc (sym e ∙ is) in absurd (other_option same)
  brief_left is none other more left call (Both found file much e) calls =
      let same : codes "--story" ≡ codes "--brief" = cc (sym e ∙ is) in absurd (other_option same)
  brief_left is none other more left call (Turned found file much e) calls =
      let same : rest ≡ codes "--story" ∷ found ∷ left = cc (sym is ∙ e) in
      absurd (none found left same)

  pub bare_left : words ≡ rest →
      ((name : List ℕ) (after : List (List ℕ)) → words ≢ codes "--story" ∷ name ∷ after) →
      ((after : List (List ℕ)) → words ≢ codes "--brief" ∷ after) →
      (other : Option (List ℕ)) (more : Detail) (left : List (List ℕ)) (call : Call) →
      Front words left other more → IsCall left call → Leaves None Whole other more call
  bare_left is no_name no_word other more left call (Bare file much e) calls =
      (file, much, subst (λ list. IsCall list call) (sym e ∙ is) calls)
  bare_left is no_name no_word other more left call (Briefly file much e) calls = absurd (no_word left e)
  bare_left is no_name no_word other more left call (Named found file much e) calls =
      absurd (no_name found left e)
  bare_left is no_name no_word other more left call (Both found file much e) calls =
      absurd (no_name found (codes "--brief" ∷ left) e)
  bare_left is no_name no_word other more left call (Turned found file much e) calls =
      absurd (no_word (codes "--story" ∷ found ∷ left) e)

  -- so they say this of a story and nothing else
  pub says : (file : Option (List ℕ)) (detail : Detail) → Spells words file detail rest →
      ((other : Option (List ℕ)) (more : Detail) (left : List (List ℕ)) (call : Call) →
      Front words left other more → IsCall left call → Leaves file detail other more call) →
      IsFront words file detail rest
  says file detail spells leaves = record {
    spells = spells;
    only = λ other_file other_detail left call spelled calls.
        leaves other_file other_detail left call
        (front_of words left other_file other_detail spelled) calls;
  }

-- words that leave a call of rx ask for that call and for no other
pub asks_only : (words rest : List (List ℕ)) (file : Option (List ℕ)) (detail : Detail)
    (call : Call) → IsFront words file detail rest → IsOneCall rest call →
    AsksOnly words file detail call
asks_only words rest file detail call front (calls, one) = (
  record { rest = rest; spells = front.spells; calls = calls },
  λ other_file other_detail other asks.
      let (same, much, is) =
      front.only other_file other_detail asks.rest other asks.spells asks.calls in
      (same, much, one other is),
)

-- words that leave no call of rx ask for none, and nothing is read of them
pub asks_none : {X : Type 0} (words rest : List (List ℕ)) (file : Option (List ℕ))
    (detail : Detail) → IsFront words file detail rest → ((call : Call) → ¬ IsCall rest call) →
    (read : Option X) → IfNone read ((other : Option (List ℕ)) (much : Detail) (call : Call) →
    ¬ Asks words other much call)
asks_none words rest file detail front none None = λ other much call asks.
    let (same, more, is) = front.only other much asks.rest call asks.spells asks.calls in
    none call is
asks_none words rest file detail front none (Some read) = tt
