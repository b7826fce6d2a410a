-- What switch does with its patterns and bodies.
use Rattle.std.proofs.Common.{◌≡◌, ◌∙◌, ◌↔◌, ℕ, zero, suc, ◌-◌, ◌%◌, ◌≤◌, ◌<◌, ◌==◌, List, [], ◌∷◌, length, drop, take, get_or, Bool, true, false, IsTrue, Option, Some, None, refl, sym, ap, arith}
use Rattle.std.specs.Prelude.{codes, nat_lt, slice_get, if◌then◌else◌}
use Rattle.std.specs.Str.{bytes_eq}
use Rattle.std.proofs.Math.Seq.{take-length}
use Rattle.std.proofs.lemmas.Bool.Decides.{nat_tests}
use Rattle.acts.specs.Flaw as flaw
use Rattle.nesting.specs.Switch.{Exact, Glob, Mode, behind_flag, body_of, chosen, is_default, is_shared, left_over, on_arms, on_flags, on_words, runs_body, takes, tried, wrong_word, wrong_words}
use Rattle.state.specs.Arguments.{begins_with_dash}
use Rattle.state.specs.Prelude.{Course, raises, Reaches, here, Status}
use Rattle.state.specs.Listed.{with_list}
use Rattle.state.specs.Piece.{TestText}
use Rattle.state.specs.Reaches.{reads}
use Rattle.patterns.specs.Glob.{plain}
use Rattle.patterns.specs.Item.{Reading}
use Rattle.patterns.specs.Match.{Whole}

-- the last of an odd number of patterns and bodies, by its place
odd_over : (arms : List (List ℕ)) (i : ℕ) (last : List ℕ) → length arms ≡ suc i →
    Some last ≡ slice_get arms i → length arms % 2 ≡ 1 → Some last ≡ left_over arms
odd_over [] i last many is odd = absurd (omega arith)
odd_over (a ∷ []) zero last many is odd = is
odd_over (a ∷ []) (suc i) last many is odd = absurd (omega arith)
odd_over (a ∷ b ∷ []) i last many is odd = absurd (omega arith)
odd_over (a ∷ b ∷ c ∷ more) zero last many is odd = absurd (omega arith)
odd_over (a ∷ b ∷ c ∷ more) (suc zero) last many is odd = absurd (omega arith)
odd_over (a ∷ b ∷ c ∷ more) (suc (suc i)) last many is odd =
    odd_over (c ∷ more) i last (omega arith) is (omega arith)

module _ (last : List ℕ) where
  -- the last of an even number
  even_over : (arms : List (List ℕ)) (i : ℕ) → length arms ≡ suc i →
      Some last ≡ slice_get arms i → (length arms % 2 ≡ 1 → ⊥) →
      left_over arms ≡ (if is_shared last then Some last else None)
  even_over [] i many is even = absurd (omega arith)
  even_over (a ∷ []) i many is even = absurd (omega arith)
  even_over (a ∷ b ∷ []) zero many is even = absurd (omega arith)
  even_over (a ∷ b ∷ []) (suc zero) many is even = let same : b ≡ last = cc in rw same refl
  even_over (a ∷ b ∷ []) (suc (suc i)) many is even = absurd (omega arith)
  even_over (a ∷ b ∷ c ∷ more) zero many is even = absurd (omega arith)
  even_over (a ∷ b ∷ c ∷ more) (suc zero) many is even = absurd (omega arith)
  even_over (a ∷ b ∷ c ∷ more) (suc (suc i)) many is even =
      even_over (c ∷ more) i (omega arith) is (omega arith)

  -- the last of an odd number is left over
  pub odd_left : (arms : List (List ℕ)) → Some last ≡ slice_get arms (length arms - 1) →
      length arms % 2 ≡ 1 → Some last ≡ left_over arms
  odd_left [] is odd = absurd (omega arith)
  odd_left (a ∷ arms) is odd = odd_over (a ∷ arms) (length (a ∷ arms) - 1) last (omega arith) is odd

  -- the last of an even number is left over where it is a `-` that has no body to share
  pub even_left : (arms : List (List ℕ)) → Some last ≡ slice_get arms (length arms - 1) →
      (length arms % 2 ≡ 1 → ⊥) → left_over arms ≡ (if is_shared last then Some last else None)
  even_left [] is even = absurd (cc)
  even_left (a ∷ arms) is even =
      even_over (a ∷ arms) (length (a ∷ arms) - 1) (omega arith) is even

module _ (pattern text : List ℕ) (s : Status) (next : Bool → Course) (mode : Mode) where
  -- an exact pattern is compared
  pub exact_takes : (holds : Bool) → mode ≡ Exact → holds ≡ bytes_eq pattern text →
      takes mode pattern text s next ≡ next holds
  exact_takes holds is says = rw is (ap next (sym says))

  -- a glob that is not too long is matched against the text
  pub glob_takes : (p : Reading) (holds : Bool) → mode ≡ Glob → (1000000 < length pattern → ⊥) →
      p ≡ plain pattern → IsTrue holds ↔ Whole p.items text →
      Reaches (takes mode pattern text s next) (next holds)
  glob_takes p holds is short read says =
      let fits : nat_lt 1000000 (length pattern) ≡ false = grind (arith, nat_tests) in
      rw (is, fits) (reads {text = TestText (plain pattern).items text} holds (rw read at says) here)

  -- a longer one is an error
  pub long_glob : mode ≡ Glob → 1000000 < length pattern →
      takes mode pattern text s next ≡ raises flaw.PatternTooLong s
  long_glob is long =
      let over : nat_lt 1000000 (length pattern) ≡ true = grind (arith, nat_tests) in
      rw (is, over) refl

  -- a last default takes any text
  pub default_takes : (more : List (List ℕ)) → bytes_eq pattern (codes "default") ≡ true →
      (length more == 0) ≡ true →
      tried (is_default pattern more) mode pattern text s next ≡ next true
  default_takes more named last = rw (named, last) refl

module _ (mode : Mode) (text : List ℕ) (s : Status) (next : Option (List ℕ) → Course) where
  -- a pattern with its body, and those after it
  pub chosen_next : (arms : List (List ℕ)) (item pattern : List ℕ) → 2 ≤ length arms →
      item ≡ get_or arms 0 item → pattern ≡ item → chosen mode text arms s next
      ≡ tried (is_default pattern (take (length arms - 2) (drop 2 arms))) mode pattern text s
      (λ it_does. if it_does then next (body_of (take (length arms - 1) (drop 1 arms)))
      else chosen mode text (take (length arms - 2) (drop 2 arms)) s next)
  chosen_next [] item pattern two is same = absurd (omega arith)
  chosen_next (a ∷ []) item pattern two is same = absurd (omega arith)
  chosen_next (a ∷ b ∷ more) item pattern two is same =
      let first : a ≡ pattern = sym (same ∙ is) in
      let n : length (a ∷ b ∷ more) - 2 ≡ length more = omega arith in
      let m : length (a ∷ b ∷ more) - 1 ≡ length (b ∷ more) = omega arith in
      let rest : take (length (a ∷ b ∷ more) - 2) more ≡ more = rw n (take-length more) in
      let bodies : take (length (a ∷ b ∷ more) - 1) (b ∷ more) ≡ b ∷ more =
      rw m (take-length (b ∷ more)) in
      ap (λ p. chosen mode text (p ∷ b ∷ more) s next) first
      ∙ ap (λ ws. tried (is_default pattern ws) mode pattern text s
      (λ it_does. if it_does then next (body_of (b ∷ more)) else chosen mode text ws s next))
      (sym rest)
      ∙ ap (λ bs. tried (is_default pattern (take (length (a ∷ b ∷ more) - 2) more)) mode pattern
      text s (λ it_does. if it_does then next (body_of bs)
      else chosen mode text (take (length (a ∷ b ∷ more) - 2) more) s next))
      (sym bodies)

  -- after the last pattern none is left
  pub chosen_over : (arms : List (List ℕ)) → length arms < 2 →
      chosen mode text arms s next ≡ next None
  chosen_over [] few = refl
  chosen_over (a ∷ []) few = refl
  chosen_over (a ∷ b ∷ more) few = absurd (omega arith)

-- the one branch or the other, where it is known which
pub one_of : (test : Bool) (one other known : Course) → test ≡ true → known ≡ one →
    (if test then one else other) ≡ known
one_of test one other known is same = rw is (sym same)

pub other_of : (test : Bool) (one other : Course) → test ≡ false →
    (if test then one else other) ≡ other
other_of test one other is = rw is refl

module _ (levels : ℕ) (mode : Mode) (text : List ℕ) (arms : List (List ℕ)) (s : Status) where
  -- a word is left over
  pub arms_left : (word : List ℕ) → left_over arms ≡ Some word →
      on_arms levels mode text arms s ≡ wrong_word word s
  arms_left word is = rw is refl

  -- the patterns are tried
  pub arms_tried : left_over arms ≡ None →
      on_arms levels mode text arms s ≡ chosen mode text arms s (runs_body levels s)
  arms_tried is = rw is refl

-- too few words, one list after the text, or patterns and bodies
pub words_few : (levels : ℕ) (mode : Mode) (words : List (List ℕ)) (s : Status) →
    length words < 2 → on_words levels mode words s ≡ wrong_words s
words_few levels mode [] s few = refl
words_few levels mode (a ∷ []) s few = refl
words_few levels mode (a ∷ b ∷ more) s few = absurd (omega arith)

pub words_list : (levels : ℕ) (mode : Mode) (words : List (List ℕ)) (s : Status)
    (item other text list : List ℕ) → length words ≡ 2 → item ≡ get_or words 0 item →
    other ≡ get_or words 1 other → text ≡ item → list ≡ other →
    on_words levels mode words s
    ≡ with_list list s (λ arms. on_arms levels mode text arms s)
words_list levels mode [] s item other text list two is also same alike = absurd (omega arith)
words_list levels mode (a ∷ []) s item other text list two is also same alike = absurd (omega arith)
words_list levels mode (a ∷ b ∷ []) s item other text list two is also same alike =
    ap (λ t. with_list b s (λ arms. on_arms levels mode t arms s)) (sym (same ∙ is))
    ∙ ap (λ l. with_list l s (λ arms. on_arms levels mode text arms s)) (sym (alike ∙ also))
words_list levels mode (a ∷ b ∷ c ∷ more) s item other text list two is also same alike =
    absurd (omega arith)

pub words_arms : (levels : ℕ) (mode : Mode) (words : List (List ℕ)) (s : Status)
    (item text : List ℕ) → 3 ≤ length words → item ≡ get_or words 0 item → text ≡ item →
    on_words levels mode words s
    ≡ on_arms levels mode text (take (length words - 1) (drop 1 words)) s
words_arms levels mode [] s item text three is same = absurd (omega arith)
words_arms levels mode (a ∷ []) s item text three is same = absurd (omega arith)
words_arms levels mode (a ∷ b ∷ []) s item text three is same = absurd (omega arith)
words_arms levels mode (a ∷ b ∷ c ∷ more) s item text three is same =
    let n : length (a ∷ b ∷ c ∷ more) - 1 ≡ length (b ∷ c ∷ more) = omega arith in
    let rest : take (length (a ∷ b ∷ c ∷ more) - 1) (b ∷ c ∷ more) ≡ b ∷ c ∷ more =
    rw n (take-length (b ∷ c ∷ more)) in
    ap (λ t. on_arms levels mode t (b ∷ c ∷ more) s) (sym (same ∙ is))
    ∙ ap (λ ws. on_arms levels mode text ws s) (sym rest)

-- no word after the flags, or a wrong one
pub behind_none : (levels : ℕ) (mode : Mode) (words : List (List ℕ)) (s : Status) →
    length words ≡ 0 → behind_flag levels mode words s ≡ wrong_words s
behind_none levels mode [] s none = refl
behind_none levels mode (w ∷ ws) s none = absurd (omega arith)

pub behind_wrong : (levels : ℕ) (mode : Mode) (words : List (List ℕ)) (s : Status)
    (item word : List ℕ) → 1 ≤ length words → item ≡ get_or words 0 item → word ≡ item →
    bytes_eq word (codes "--") ≡ false → begins_with_dash word ≡ true →
    behind_flag levels mode words s ≡ wrong_word word s
behind_wrong levels mode [] s item word some is same plain dash = absurd (omega arith)
behind_wrong levels mode (w ∷ ws) s item word some is same plain dash =
    let first : w ≡ word = sym (same ∙ is) in
    rw first (rw (plain, dash) refl)

pub flags_none : (levels : ℕ) (words : List (List ℕ)) (s : Status) → length words ≡ 0 →
    on_flags levels words s ≡ wrong_words s
flags_none levels [] s none = refl
flags_none levels (w ∷ ws) s none = absurd (omega arith)
