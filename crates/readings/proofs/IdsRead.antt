-- A text lists open ids, or it does not, and it never lists two different lists of them.
use Rattle.std.proofs.Common.{◌≡◌, ◌≢◌, ◌⊎◌, inl, inr, ℕ, ◌<◌, ◌≤◌, ◌^◌, ◌&&◌, Bool, true, false, List, [], ◌∷◌, drop, Option, Some, None, if◌then◌else◌, refl, sym, ap, subst, ◌∙◌, arith}
use Rattle.std.proofs.lemmas.Fmt.{decimal_is_IsNumeral}
use Rattle.std.proofs.lemmas.Slice.Eq.{bytes_eq-Decides}
use Rattle.std.specs.List.{list_all}
use Rattle.std.specs.Str.{bytes_eq}
use Rattle.std.specs.Str.Parse.{digits_value}
use Rattle.acts.specs.Id.{id_text}
use Rattle.acts.specs.declared.id.Id.{Id}
use Rattle.tcltext.specs.Elements.{IsList, HasFlaw}
use Rattle.tcltext.specs.Flaw as flaws
use Rattle.patterns.proofs.Sought.{up_to}
use Rattle.patterns.proofs.Decided.{Decided}
use Rattle.tcltext.proofs.Total.{list_or_flaw}
use Rattle.tcltext.proofs.Unique.{one_list, no_list_with_flaw}
use Rattle.choices.specs.Lines.{Line, id_of}
use Rattle.readings.specs.Reads.{AreSmall, AreSpelled, IsIds, HasIds, MissesIds, NotIds, NotOpen, Flaw, first_shut, is_open_in}
use Rattle.readings.proofs.IdLists.{texts_of, none_shut}

-- the number that a text spells, if it spells an id
abbrev number_in : List ℕ → ℕ
number_in text = digits_value 10 (drop 3 text)

number_back : (n : ℕ) → n < 2 ^ 64 → number_in (id_text n) ≡ n
number_back n small = (decimal_is_IsNumeral n small).1

same_number : (n m : ℕ) → n < 2 ^ 64 → m < 2 ^ 64 → id_text n ≡ id_text m → n ≡ m
same_number n m small_n small_m same =
    sym (number_back n small_n) ∙ ap number_in same ∙ number_back m small_m

-- a text spells an id, or none
abbrev Spells : List ℕ → Type 0
Spells text = (n : ℕ) × (n < 2 ^ 64) × (text ≡ id_text n)

spells_id : (text : List ℕ) → Decided (Spells text)
spells_id text = by (up_to (2 ^ 64) (number_in text)) (bytes_eq text (id_text (number_in text))) refl
  where
    by : (2 ^ 64 ≤ number_in text) ⊎ (number_in text < 2 ^ 64) → (b : Bool) →
        bytes_eq text (id_text (number_in text)) ≡ b → Decided (Spells text)
    by (inl large) b is = inr (λ s.
        let back : number_in text ≡ s.0 = ap number_in s.2 ∙ number_back s.0 s.1 in
        let below : s.0 < 2 ^ 64 = s.1 in
        absurd (omega arith))
    by (inr small) true is =
        inl (number_in text, small, (bytes_eq-Decides text (id_text (number_in text))).0 is)
    by (inr small) false is = inr (λ s.
        let back : number_in text ≡ s.0 = ap number_in s.2 ∙ number_back s.0 s.1 in
        let same : text ≡ id_text (number_in text) = s.2 ∙ ap id_text (sym back) in
        let never : bytes_eq text (id_text (number_in text)) ≡ true =
        (bytes_eq-Decides text (id_text (number_in text))).1 same in
        absurd (cc))

-- words spell ids, or do not
record AreIds (ids : List Id) (words : List (List ℕ)) : Type 0 where
  texts : texts_of ids ≡ words
  small : AreSmall ids

first_spelled : (w : List ℕ) (ws : List (List ℕ)) (ids : List Id) → AreIds ids (w ∷ ws) → Spells w
first_spelled w ws [] is = let never : texts_of [] ≡ w ∷ ws = is.texts in absurd (cc)
first_spelled w ws (i ∷ ids) is =
    let all : texts_of (i ∷ ids) ≡ w ∷ ws = is.texts in
    let head : w ≡ id_text i.0 = cc in (i.0, is.small.0, head)

others_spelled : (w : List ℕ) (ws : List (List ℕ)) (ids : List Id) → AreIds ids (w ∷ ws) →
    (js : List Id) × AreIds js ws
others_spelled w ws [] is = let never : texts_of [] ≡ w ∷ ws = is.texts in absurd (cc)
others_spelled w ws (i ∷ ids) is =
    let all : texts_of (i ∷ ids) ≡ w ∷ ws = is.texts in
    let tail : texts_of ids ≡ ws = cc in (ids, record { texts = tail; small = is.small.1 })

spells_more : (w : List ℕ) (ws : List (List ℕ)) → Decided (Spells w) →
    Decided ((ids : List Id) × AreIds ids ws) → Decided ((ids : List Id) × AreIds ids (w ∷ ws))
spells_more w ws (inl s) (inl more) = inl (
  id_of s.0 ∷ more.0,
  record {
    texts = λ k. sym s.2 k ∷ more.1.texts k;
    small = (s.1, more.1.small);
  },
)
spells_more w ws (inr not) more = inr (λ is. not (first_spelled w ws is.0 is.1))
spells_more w ws (inl s) (inr none) = inr (λ is. none (others_spelled w ws is.0 is.1))

spells_ids : (words : List (List ℕ)) → Decided ((ids : List Id) × AreIds ids words)
spells_ids [] = inl ([], record { texts = refl; small = tt })
spells_ids (w ∷ ws) = spells_more w ws (spells_id w) (spells_ids ws)

-- ids that spell at least one word are at least one
some_ids : (w : List ℕ) (ws : List (List ℕ)) (ids : List Id) → texts_of ids ≡ w ∷ ws → ids ≢ []
some_ids w ws [] same = absurd (cc)
some_ids w ws (i ∷ ids) same = λ none. absurd (cc)

no_words : (ids : List Id) → AreSpelled ids [] → ⊥
no_words [] is = is.some refl
no_words (i ∷ ids) is = let never : texts_of (i ∷ ids) ≡ [] = is.texts in absurd (cc)

spelled_by : (w : List ℕ) (ws : List (List ℕ)) → Decided ((ids : List Id) × AreIds ids (w ∷ ws)) →
    Decided ((ids : List Id) × AreSpelled ids (w ∷ ws))
spelled_by w ws (inl is) = inl (
  is.0,
  record {
    texts = is.1.texts;
    small = is.1.small;
    some = some_ids w ws is.0 is.1.texts;
  },
)
spelled_by w ws (inr none) = inr (λ is. none (
  is.0,
  record {
    texts = is.1.texts;
    small = is.1.small;
  },
))

spelled : (words : List (List ℕ)) → Decided ((ids : List Id) × AreSpelled ids words)
spelled [] = inr (λ is. no_words is.0 is.1)
spelled (w ∷ ws) = spelled_by w ws (spells_ids (w ∷ ws))

-- a text lists ids, or does not
listed_by : (text : List ℕ) (words : List (List ℕ)) → IsList words text →
    Decided ((ids : List Id) × AreSpelled ids words) → Decided ((ids : List Id) × IsIds ids text)
listed_by text words list (inl is) =
    inl (is.0, record { words = words; list = list; spelled = is.1 })
listed_by text words list (inr none) = inr (λ is. none (
  is.0,
  subst (AreSpelled is.0) (one_list text is.1.words words is.1.list list) is.1.spelled,
))

list_of_ids : (text : List ℕ) →
    ((v : List (List ℕ)) × IsList v text) ⊎ ((f : flaws.Flaw) × HasFlaw f text) →
    Decided ((ids : List Id) × IsIds ids text)
list_of_ids text (inl l) = listed_by text l.0 l.1 (spelled l.0)
list_of_ids text (inr f) = inr (λ is. no_list_with_flaw text is.1.words f.0 is.1.list f.1)

-- a text lists open ids, or it does not
abbrev pub Lists : List Line → List ℕ → Type 0
Lists lines text =
    ((ids : List Id) × HasIds lines text ids) ⊎ ((flaw : Flaw) × MissesIds lines text flaw)

lists_by : (lines : List Line) (text : List ℕ) → Decided ((ids : List Id) × IsIds ids text) →
    Lists lines text
lists_by lines text (inr none) = inr (
  NotIds text,
  inr (record {
    no_ids = λ ids is. none (ids, is);
    flaw_is = refl;
  }),
)
lists_by lines text (inl is) = by (first_shut lines is.0) refl
  where
    by : (o : Option Id) → first_shut lines is.0 ≡ o → Lists lines text
    by None shut = inl (
      is.0,
      record {
        is_ids = is.1;
        are_open = none_shut lines is.0 shut;
      },
    )
    by (Some i) shut = inr (
      NotOpen i,
      inl (record {
        ids = is.0;
        is_ids = is.1;
        first = i;
        is_first = shut;
        flaw_is = refl;
      }),
    )

pub lists : (lines : List Line) (text : List ℕ) → Lists lines text
lists lines text = lists_by lines text (list_of_ids text (list_or_flaw text))

-- no two lists of ids have the same texts
same_ids : (ids js : List Id) → AreSmall ids → AreSmall js → texts_of ids ≡ texts_of js → ids ≡ js
same_ids [] [] si sj same = refl
same_ids [] (j ∷ js) si sj same = absurd (cc)
same_ids (i ∷ ids) [] si sj same = absurd (cc)
same_ids (i ∷ ids) (j ∷ js) si sj same =
    let head : id_text i.0 ≡ id_text j.0 = cc in
    let tail : texts_of ids ≡ texts_of js = cc in
    let number = same_number i.0 j.0 si.0 sj.0 head in
    let rest = same_ids ids js si.1 sj.1 tail in
    λ k. id_of (number k) ∷ rest k

one_ids : (text : List ℕ) (ids js : List Id) → IsIds ids text → IsIds js text → ids ≡ js
one_ids text ids js a b =
    same_ids ids js a.spelled.small b.spelled.small
    (a.spelled.texts ∙ one_list text a.words b.words a.list b.list ∙ sym b.spelled.texts)

pub one_list_of_ids : (lines : List Line) (text : List ℕ) (ids js : List Id) →
    HasIds lines text ids → HasIds lines text js → ids ≡ js
one_list_of_ids lines text ids js a b = one_ids text ids js a.is_ids b.is_ids

same_first : (i j : Id) → Some i ≡ Some j → i ≡ j
same_first i j same = cc

-- a text that lists no open ids has no two flaws
pub one_miss : (lines : List Line) (text : List ℕ) (f g : Flaw) → MissesIds lines text f →
    MissesIds lines text g → f ≡ g
one_miss lines text f g (inl a) (inl b) =
    let same = one_ids text a.ids b.ids a.is_ids b.is_ids in
    let first = same_first a.first b.first
    (sym a.is_first ∙ ap (first_shut lines) same ∙ b.is_first) in
    a.flaw_is ∙ ap NotOpen first ∙ sym b.flaw_is
one_miss lines text f g (inl a) (inr b) = absurd (b.no_ids a.ids a.is_ids)
one_miss lines text f g (inr a) (inl b) = absurd (a.no_ids b.ids b.is_ids)
one_miss lines text f g (inr a) (inr b) = a.flaw_is ∙ sym b.flaw_is

-- a text that lists open ids has no flaw
open_by : (lines : List Line) (i : Id) (is : List Id) (b : Bool) → is_open_in lines i ≡ b →
    (is_open_in lines i && list_all (is_open_in lines) is) ≡ true →
    (list_all (is_open_in lines) is ≡ true → first_shut lines is ≡ None) →
    (if is_open_in lines i then first_shut lines is else Some i) ≡ None
open_by lines i is true at each rest =
    let others : list_all (is_open_in lines) is ≡ true = rw at at each in
    rw at (rest others)
open_by lines i is false at each rest =
    let never : false ≡ true = rw at at each in absurd (cc)

all_open : (lines : List Line) (ids : List Id) → list_all (is_open_in lines) ids ≡ true →
    first_shut lines ids ≡ None
all_open lines [] each = refl
all_open lines (i ∷ is) each =
    open_by lines i is (is_open_in lines i) refl each (λ rest. all_open lines is rest)

pub not_missed : (lines : List Line) (text : List ℕ) (ids : List Id) (f : Flaw) →
    HasIds lines text ids → MissesIds lines text f → ⊥
not_missed lines text ids f has (inl b) =
    let same = one_ids text ids b.ids has.is_ids b.is_ids in
    let never : None ≡ Some b.first =
    sym (all_open lines ids has.are_open) ∙ ap (first_shut lines) same ∙ b.is_first in
    absurd (cc)
not_missed lines text ids f has (inr b) = b.no_ids ids has.is_ids
