-- The options that words name.
use Rattle.std.proofs.Common.{◌≡◌, ◌≢◌, ◌-◌, List, [], ◌∷◌, ◌++◌, ℕ, Option, Some, None, IfNone, refl, sym, ap, subst, ◌∙◌, append_assoc, append-nil, flat_map, map, length, get_or, take, inl, inr, Vec, arith}
use Rattle.std.specs.Prelude.{◌↔◌, ◌==◌, IsTrue, Bool, true, false, codes}
use Rattle.std.specs.List.{filter}
use Rattle.std.specs.Option.{option_to_list}
use Rattle.std.proofs.lemmas.Bool.{eqb-true}
use Rattle.std.proofs.lemmas.Grind.{flat_map-append}
use Rattle.std.proofs.lemmas.List.{length-append, length-map, map-append, nil_from_length, take-map, take_at}
use Rattle.std.proofs.lemmas.List.Elements.{filter-append}
use Rattle.arguments.specs.declared.arguments.Name.{Name as ReadName}
use Rattle.arguments.specs.declared.arguments.Name.TheVariants as read
use Rattle.arguments.specs.Arguments.{AreScript, AreTicks, Call, Command, IsCall, IsFile, Limit, Name, Record, Replay, Setting, lines, name_of, same, spelled, texts, values, word_of}
use Rattle.arguments.specs.Options.{AreOnce, BeginWith}
use Rattle.arguments.proofs.Limits.{one_limit}

values-append : (name : Name) (xs ys : List Setting) → values name (xs ++ ys) ≡ values name xs ++ values name ys
values-append name xs ys =
    ap (map (λ setting. setting.value)) (filter-append (λ setting. same name setting.name) xs ys)
    ∙ map-append (λ setting. setting.value) (filter (λ setting. same name setting.name) xs)
    (filter (λ setting. same name setting.name) ys)

-- one more setting of an option is one more of its values
values_more : (name : Name) (settings : List Setting) (s : Setting) → same name s.name ≡ true →
    values name (settings ++ s ∷ []) ≡ values name settings ++ s.value ∷ []
values_more name settings s is = values-append name settings (s ∷ []) ∙ rw is

-- one more setting of an option adds no value to another option
values_stay : (name : Name) (settings : List Setting) (s : Setting) → same name s.name ≡ false →
    values name (settings ++ s ∷ []) ≡ values name settings
values_stay name settings s is =
    values-append name settings (s ∷ []) ∙ rw is (append-nil (values name settings))

lines-more : (texts : List (List ℕ)) (text : List ℕ) → lines (texts ++ text ∷ []) ≡ (lines texts ++ text) ++ codes "\n"
lines-more texts text =
    flat_map-append (λ text. text ++ codes "\n") texts (text ∷ [])
    ∙ ap (λ last. lines texts ++ last) (append-nil (text ++ codes "\n"))
    ∙ sym (append_assoc (lines texts) text (codes "\n"))

-- one more text of `-c` is one more line
pub one_line : (done : List Setting) (s : Setting) (text after : List ℕ) → s.name ≡ Command →
    text ≡ lines (values Command done) → after ≡ (text ++ s.value) ++ codes "\n" →
    after ≡ lines (values Command (done ++ s ∷ []))
one_line done s text after is put e =
    e ∙ ap (λ lines. (lines ++ s.value) ++ codes "\n") put
    ∙ sym (ap lines (values_more Command done s (ap (same Command) is))
    ∙ lines-more (values Command done) s.value)

-- an option other than `-c` adds no line
pub no_line : (done : List Setting) (s : Setting) (text : List ℕ) → same Command s.name ≡ false →
    text ≡ lines (values Command done) → text ≡ lines (values Command (done ++ s ∷ []))
no_line done s text other put = put ∙ ap lines (sym (values_stay Command done s other))

pub other_name : (name : ReadName) → name ≢ read.Command → same Command (name_of name) ≡ false
other_name read.Command other = absurd (other refl)
other_name read.Replay other = refl
other_name read.Record other = refl
other_name read.Limit other = refl

-- the options have different names
one_name : (a b : Name) → word_of a ≡ word_of b → a ≡ b
one_name Command Command e = refl
one_name Replay Replay e = refl
one_name Record Record e = refl
one_name Limit Limit e = refl
one_name Command Replay e = absurd (cc e)
one_name Command Record e = absurd (cc e)
one_name Command Limit e = absurd (cc e)
one_name Replay Command e = absurd (cc e)
one_name Replay Record e = absurd (omega (arith, ap (λ word. get_or word 4 0) e))
one_name Replay Limit e = absurd (cc e)
one_name Record Command e = absurd (cc e)
one_name Record Replay e = absurd (omega (arith, ap (λ word. get_or word 4 0) e))
one_name Record Limit e = absurd (cc e)
one_name Limit Command e = absurd (cc e)
one_name Limit Replay e = absurd (cc e)
one_name Limit Record e = absurd (cc e)

setting_is : (a b : Name) (x y : List ℕ) → a ≡ b → x ≡ y →
    ◌≡◌ {A = Setting} (record { name = a; value = x }) (record { name = b; value = y })
setting_is a b x y e f = cc

-- an option is determined by its words, whatever stands after it
first_setting : (s t : Setting) (x y : List (List ℕ)) → spelled s ++ x ≡ spelled t ++ y →
    (s ≡ t) × (x ≡ y)
first_setting s t x y e =
    let words : word_of s.name ≡ word_of t.name = cc e in
    let valued : s.value ≡ t.value = cc e in
    (setting_is s.name t.name s.value t.value (one_name s.name t.name words) valued, cc e)

-- words after which no option stands are read in one way
pub one_reading : (done settings : List Setting) (rest others : List (List ℕ)) →
    flat_map spelled settings ++ others ≡ flat_map spelled done ++ rest →
    ((s : Setting) (behind : List (List ℕ)) → others ≢ spelled s ++ behind) →
    ((s : Setting) (behind : List (List ℕ)) → rest ≢ spelled s ++ behind) →
    (settings ≡ done) × (others ≡ rest)
one_reading [] [] rest others e free none = (refl, e)
one_reading [] (s ∷ settings) rest others e free none =
    absurd (none s (flat_map spelled settings ++ others) (sym e
    ∙ append_assoc (spelled s) (flat_map spelled settings) others))
one_reading (d ∷ done) [] rest others e free none =
    absurd (free d (flat_map spelled done ++ rest)
    (e ∙ append_assoc (spelled d) (flat_map spelled done) rest))
one_reading (d ∷ done) (s ∷ settings) rest others e free none =
    let first = first_setting s d (flat_map spelled settings ++ others)
    (flat_map spelled done ++ rest)
    (sym (append_assoc (spelled s) (flat_map spelled settings) others) ∙ e
    ∙ append_assoc (spelled d) (flat_map spelled done) rest) in
    let more = one_reading done settings rest others first.1 free none in
    (cc (first.0, more.0), more.1)

-- words begin with only one list of options
pub one_beginning : (words : List (List ℕ)) (settings others : List Setting)
    (rest behind : List (List ℕ)) → BeginWith words settings rest → BeginWith words others behind →
    (others ≡ settings) × (behind ≡ rest)
one_beginning words settings others rest behind one other =
    one_reading settings others rest behind (sym other.spells ∙ one.spells) other.behind one.behind

-- what was read of the options is their beginning
pub begins_with : (done settings : List Setting) (d : Setting) (rest others : List (List ℕ)) →
    flat_map spelled settings ++ others ≡ flat_map spelled done ++ (spelled d ++ rest) →
    ((s : Setting) (behind : List (List ℕ)) → others ≢ spelled s ++ behind) →
    (behind : List Setting) × (settings ≡ done ++ d ∷ behind)
begins_with [] [] d rest others e free = absurd (free d rest e)
begins_with [] (s ∷ settings) d rest others e free =
    let first = first_setting s d (flat_map spelled settings ++ others) rest
    (sym (append_assoc (spelled s) (flat_map spelled settings) others) ∙ e) in
    (settings, ap (λ setting. setting ∷ settings) first.0)
begins_with (c ∷ done) [] d rest others e free =
    absurd (free c (flat_map spelled done ++ (spelled d ++ rest))
    (e ∙ append_assoc (spelled c) (flat_map spelled done) (spelled d ++ rest)))
begins_with (c ∷ done) (s ∷ settings) d rest others e free =
    let first = first_setting s c (flat_map spelled settings ++ others)
    (flat_map spelled done ++ (spelled d ++ rest))
    (sym (append_assoc (spelled s) (flat_map spelled settings) others) ∙ e
    ∙ append_assoc (spelled c) (flat_map spelled done) (spelled d ++ rest)) in
    let (behind, is) = begins_with done settings d rest others first.1 free in
    (behind, cc (first.0, is))

-- one more option, in the words
pub one_more : (settings : List Setting) (s : Setting) (words rest behind : List (List ℕ)) →
    words ≡ flat_map spelled settings ++ rest → rest ≡ spelled s ++ behind →
    words ≡ flat_map spelled (settings ++ s ∷ []) ++ behind
one_more settings s words rest behind e is =
    e ∙ ap (λ more. flat_map spelled settings ++ more) is ∙ sym (regroup settings)
  where
    regroup : (xs : List Setting) → flat_map spelled (xs ++ s ∷ []) ++ behind ≡ flat_map spelled xs
        ++ (spelled s ++ behind)
    regroup [] = append_assoc (spelled s) [] behind
    regroup (x ∷ xs) = append_assoc (spelled x) (flat_map spelled (xs ++ s ∷ [])) behind
        ∙ ap (λ more. spelled x ++ more) (regroup xs)
        ∙ sym (append_assoc (spelled x) (flat_map spelled xs) (spelled s ++ behind))

-- an empty list is not a list of one value
clash : (x : List ℕ) → [] ≡ x ∷ [] → ⊥
clash x e = cc e

-- each option stands there at most once, so the values are those of the options
one_value : (found : List (List ℕ)) (a b : Option (List ℕ)) → found ≡ option_to_list a →
    found ≡ option_to_list b → a ≡ b
one_value found None None e f = refl
one_value found None (Some y) e f = absurd (clash y (sym e ∙ f))
one_value found (Some x) None e f = absurd (clash x (sym f ∙ e))
one_value found (Some x) (Some y) e f = let same = sym e ∙ f in cc same

-- what holds in any case also holds if an option is None
pub none_of : {T P : Type 0} (found : Option T) → P → IfNone found P
none_of None holds = holds
none_of (Some x) holds = tt

-- no option is the flag before a file
no_flag : (name : Name) → word_of name ≢ codes "-f"
no_flag Command e = omega (arith, ap (λ word. get_or word 1 0) e)
no_flag Replay e = cc e
no_flag Record e = cc e
no_flag Limit e = cc e

-- no option is a file
no_file : (name : Name) → IsFile (word_of name) → ⊥
no_file Command is = let nothing = is (codes "c") refl in cc nothing
no_file Replay is = let nothing = is (codes "-replay") refl in cc nothing
no_file Record is = let nothing = is (codes "-record") refl in cc nothing
no_file Limit is = let nothing = is (codes "-limit") refl in cc nothing

-- a script begins with no option
no_option : (rest script : List (List ℕ)) → AreScript rest script →
    (s : Setting) (others : List (List ℕ)) → rest ≢ spelled s ++ others
no_option [] script is s others e = cc e
no_option (first ∷ behind) script (inl (flag, some, same)) s others e =
    let named : first ≡ word_of s.name = cc e in no_flag s.name (sym named ∙ flag)
no_option (first ∷ behind) script (inr (file, same)) s others e =
    let named : first ≡ word_of s.name = cc e in no_file s.name (rw named at file)

-- the options of a call are those with which its words begin
pub call_begins : (words : List (List ℕ)) (call : Call) (is : IsCall words call) →
    BeginWith words is.settings is.rest
call_begins words call is = record {
  spells = is.spells;
  behind = no_option is.rest call.script is.script;
}

-- what is read of words that are a call is what the call has
module _ (words : List (List ℕ)) (settings : List Setting) (rest : List (List ℕ))
    (replay made limit : Option (List ℕ)) (begin : BeginWith words settings rest)
    (once : AreOnce settings replay made limit) (call : Call) (is : IsCall words call) where
  same_settings : is.settings ≡ settings
  same_settings = (one_beginning words settings is.settings rest is.rest begin
      (call_begins words call is)).0

  pub same_rest : is.rest ≡ rest
  same_rest = (one_beginning words settings is.settings rest is.rest begin
      (call_begins words call is)).1

  pub same_texts : call.commands ≡ values Command settings
  same_texts = sym is.commands ∙ ap (values Command) same_settings

  pub same_limit : is.limit ≡ limit
  same_limit = one_value (values Limit settings) is.limit limit
      (sym (ap (values Limit) same_settings) ∙ is.limits) once.2

  pub same_replay : call.replay ≡ replay
  same_replay = one_value (values Replay settings) call.replay replay
      (sym (ap (values Replay) same_settings) ∙ is.replays) once.0

  pub same_made : call.made ≡ made
  same_made = one_value (values Record settings) call.made made
      (sym (ap (values Record) same_settings) ∙ is.makes) once.1

call_is : (a a' : List (List ℕ)) (b b' m m' : Option (List ℕ)) (c c' : ℕ) (d d' : List (List ℕ)) →
    a ≡ a' → b ≡ b' → m ≡ m' → c ≡ c' → d ≡ d' →
    ◌≡◌ {A = Call} (record { commands = a; replay = b; made = m; ticks = c; script = d })
    (record { commands = a'; replay = b'; made = m'; ticks = c'; script = d' })
call_is a a' b b' m m' c c' d d' e f g h i = cc

-- words are no other call than the one that was read
pub only_call : (words : List (List ℕ)) (settings : List Setting) (rest : List (List ℕ))
    (replay made limit : Option (List ℕ)) (ticks : ℕ) (script : List (List ℕ)) →
    BeginWith words settings rest → AreOnce settings replay made limit → AreTicks limit ticks →
    ((other : List (List ℕ)) → AreScript rest other → other ≡ script) →
    (other : Call) → IsCall words other → other
    ≡ record {
      commands = values Command settings;
      replay = replay;
      made = made;
      ticks = ticks;
      script = script;
    }
only_call words settings rest replay made limit ticks script begin once are only other is =
    let limited = same_limit words settings rest replay made limit begin once other is in
    let behind = same_rest words settings rest replay made limit begin once other is in
    let first = same_texts words settings rest replay made limit begin once other is in
    let second = same_replay words settings rest replay made limit begin once other is in
    let third = same_made words settings rest replay made limit begin once other is in
    let fourth = one_limit limit other.ticks ticks (rw limited at is.ticks) are in
    let fifth = only other.script (rw behind at is.script) in
    call_is other.commands (values Command settings) other.replay replay other.made made other.ticks
    ticks other.script script first second third fourth fifth

-- where no `-c` was found, there is no text of `-c`
pub no_texts : (b : Bool) (texts : List (List ℕ)) → b ≡ false → IsTrue b ↔ (texts ≢ []) → texts ≡ []
no_texts b [] e is = refl
no_texts b (x ∷ texts) e is = let some = is.1 (λ none. cc none) in absurd (cc (some, e))

-- the words in front of the rest
pub front_texts : {A : Type 0} (words rest : List (Vec ℕ A)) (settings : List Setting) →
    texts words ≡ flat_map spelled settings ++ texts rest →
    texts (take (length words - length rest) words) ≡ flat_map spelled settings
front_texts words rest settings e =
    let front = flat_map spelled settings in
    let many : length front ≡ length words - length rest = omega (
      arith,
      sym (length-map words (λ word. word.items)) ∙ ap length e ∙ length-append front (texts rest),
      length-map rest (λ word. word.items),
    ) in
    sym (take-map (λ word. word.items) (length words - length rest) words)
    ∙ ap (take (length words - length rest)) e
    ∙ take_at front (texts rest) (length words - length rest) many

-- where no further option follows, the lines of the options so far are those of all
pub all_lines : (options rest : List (List ℕ)) (done settings : List Setting) (text : List ℕ) →
    options ≡ flat_map spelled done ++ rest →
    ((s : Setting) (behind : List (List ℕ)) → rest ≢ spelled s ++ behind) →
    text ≡ lines (values Command done) → options ≡ flat_map spelled settings →
    text ≡ lines (values Command settings)
all_lines options rest done settings text e none put whole =
    let same = one_reading done settings rest []
    (append-nil (flat_map spelled settings) ∙ sym whole ∙ e) (λ s behind f. cc f) none in
    put ∙ ap (λ all. lines (values Command all)) (sym same.0)

-- whether there are no words, or some
pub no_words : {A : Type 0} (words : List (Vec ℕ A)) → (length words == 0) ≡ true → texts words ≡ []
no_words words e = ap texts (nil_from_length words (eqb-true (length words) 0 e))

pub some_words : {A : Type 0} (words : List (Vec ℕ A)) → (length words == 0) ≡ false → texts words ≢ []
some_words [] e none = cc e
some_words (word ∷ words) e none = cc none

-- the flag before a file, and nothing after it
no_script : (first : List ℕ) (behind script : List (List ℕ)) → first ≡ codes "-f" → behind ≡ [] →
    AreScript (first ∷ behind) script → ⊥
no_script first behind script flag none (inl (is, some, same)) = some none
no_script first behind script flag none (inr (file, same)) =
    let nothing = file (codes "f") flag in cc nothing

pub flag_alone : {A : Type 0} (words behind : List (Vec ℕ A)) (first : Vec ℕ A) → words ≡ first ∷ behind →
    (length behind == 0) ≡ true → first.items ≡ codes "-f" → (script : List (List ℕ)) →
    AreScript (texts words) script → ⊥
flag_alone words behind first e none flag script is =
    no_script first.items (texts behind) script flag (no_words behind none)
    (subst (λ all. AreScript (texts all) script) e is)

pub flag_before : {A : Type 0} (words behind : List (Vec ℕ A)) (first : Vec ℕ A) → words ≡ first ∷ behind →
    (length behind == 0) ≡ false → first.items ≡ codes "-f" → AreScript (texts words) (texts behind)
flag_before words behind first e some flag =
    subst (λ all. AreScript (texts all) (texts behind)) (sym e)
    (inl (flag, some_words behind some, refl))
