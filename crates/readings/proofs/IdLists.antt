-- Which texts are lists of ids.
use Rattle.std.proofs.Common.{◌≡◌, ◌≢◌, ℕ, suc, ◌==◌, ◌+◌, ◌<◌, ◌≤◌, ◌^◌, ◌&&◌, Bool, true, false, List, [], ◌∷◌, ◌++◌, map, length, drop, get_or, Option, Some, None, Result, Ok, Err, is_some, if◌then◌else◌, refl, sym, ap, subst, ◌∙◌, append_assoc, append-nil, add-one, rules}
use Rattle.std.proofs.Math.ListN.{drop_of_length-le}
use Rattle.std.proofs.Math.Seq.{drop-cons}
use Rattle.std.proofs.lemmas.Bool.Decides.{nat_tests}
use Rattle.std.specs.List.{list_all}
use Rattle.std.specs.Prelude.{IfOk, OnOk, IfSome, MatchOption, Vec}
use Rattle.acts.specs.Id.{id_text}
use Rattle.acts.specs.declared.id.Id.{Id}
use Rattle.tcltext.specs.Flaw.{Flaw}
use Rattle.tcltext.specs.Elements.{IsList, HasFlaw}
use Rattle.tcltext.specs.Seen.{texts}
use Rattle.tcltext.proofs.Unique.{one_list, no_list_with_flaw}
use Rattle.choices.specs.Lines.{Line}
use Rattle.readings.specs.Reads.{AreSmall, AreSpelled, IsIds, first_shut, is_open_in}

-- the texts of ids
abbrev pub texts_of : List Id → List (List ℕ)
texts_of ids = map (λ i. id_text i.0) ids

-- a text with a flaw is no list of ids
pub flaw_no_ids : (o : Option Flaw) (text : List ℕ) → IfSome o (λ flaw. HasFlaw flaw text) →
    is_some o ≡ true → (ids : List Id) → IsIds ids text → ⊥
flaw_no_ids None text h some ids is = absurd (cc)
flaw_no_ids (Some flaw) text h some ids is = no_list_with_flaw text is.words flaw is.list h

-- what a list of words spells is what its text lists
pub listed : {A : Type 0} (text : List ℕ) (words : List (List ℕ)) (r : Option (Vec Id A)) →
    IsList words text →
    MatchOption r ((ids : List Id) → ¬ AreSpelled ids words) (λ ids. AreSpelled ids.items words) →
    MatchOption r ((ids : List Id) → ¬ IsIds ids text) (λ ids. IsIds ids.items text)
listed text words None list none = λ ids is.
    none ids (subst (AreSpelled ids) (one_list text is.words words is.list list) is.spelled)
listed text words (Some ids) list spelled = record {
  words = words;
  list = list;
  spelled = spelled;
}

pub listed_by : {A E : Type 0} (text : List ℕ) (words : List (List ℕ))
    (r : Result (Option (Vec Id A)) E) → IsList words text →
    IfOk r (λ o. MatchOption o ((ids : List Id) → ¬ AreSpelled ids words)
    (λ ids. AreSpelled ids.items words)) →
    IfOk r (λ o. MatchOption o ((ids : List Id) → ¬ IsIds ids text)
    (λ ids. IsIds ids.items text))
listed_by text words (Ok o) list is = listed text words o list is
listed_by text words (Err e) list is = tt

no_texts : (ids : List Id) → texts_of ids ≡ [] → ids ≡ []
no_texts [] is = refl
no_texts (i ∷ ids) is = absurd (cc)

-- no words spell no ids
pub none_spelled : {A : Type 0} (words : List (Vec ℕ A)) → true ≡ (length words == 0) →
    (ids : List Id) → AreSpelled ids (texts words) → ⊥
none_spelled [] none ids is = is.some (no_texts ids is.texts)
none_spelled (w ∷ words) none ids is = absurd (search (rules, nat_tests))

split_at : {X : Type 0} (xs : List X) (i : ℕ) (x : X) → i < length xs → x ≡ get_or xs i x →
    drop i xs ≡ x ∷ drop (i + 1) xs
split_at xs i x below is = drop-cons xs i x below ∙ ap (λ y. y ∷ drop (suc i) xs) (sym is)
    ∙ ap (λ n. x ∷ drop n xs) (sym (add-one i))

-- each of the words spells an id
spelled_at : (ids : List Id) (front back : List (List ℕ)) (t : List ℕ) → AreSmall ids →
    texts_of ids ≡ front ++ t ∷ back → (n : ℕ) × (n < 2 ^ 64) × (t ≡ id_text n)
spelled_at [] [] back t small is = absurd (cc)
spelled_at [] (u ∷ front) back t small is = absurd (cc)
spelled_at (i ∷ ids) [] back t small is = let head : t ≡ id_text i.0 = cc in (i.0, small.0, head)
spelled_at (i ∷ ids) (u ∷ front) back t small is =
    let tail : texts_of ids ≡ front ++ t ∷ back = cc in
    spelled_at ids front back t small.1 tail

-- where one of the words spells no id, the words spell no ids
pub not_spelled : {A : Type 0} (words : List (Vec ℕ A)) (i : ℕ) (w : Vec ℕ A) (text : List ℕ)
    (front : List (List ℕ)) → i < length words → w ≡ get_or words i w → text ≡ w.items →
    front ++ texts (drop i words) ≡ texts words →
    ((n : ℕ) → n < 2 ^ 64 → text ≢ id_text n) → (ids : List Id) →
    AreSpelled ids (texts words) → ⊥
not_spelled words i w text front below at is so_far none ids spelled =
    let split : drop i words ≡ w ∷ drop (i + 1) words = split_at words i w below at in
    let same : texts_of ids ≡ front ++ w.items ∷ texts (drop (i + 1) words) =
    spelled.texts ∙ sym so_far ∙ ap (λ ws. front ++ texts ws) split in
    let s = spelled_at ids front (texts (drop (i + 1) words)) w.items spelled.small same in
    none s.0 s.1 (is ∙ s.2)

texts_more : (ids : List Id) (i : Id) → texts_of (ids ++ i ∷ []) ≡ texts_of ids ++ id_text i.0 ∷ []
texts_more [] i = refl
texts_more (j ∷ ids) i = ap (λ ts. id_text j.0 ∷ ts) (texts_more ids i)

small_more : (ids : List Id) (i : Id) → AreSmall ids → i.0 < 2 ^ 64 → AreSmall (ids ++ i ∷ [])
small_more [] i small lt = (lt, tt)
small_more (j ∷ ids) i small lt = (small.0, small_more ids i small.1 lt)

-- ids with small numbers, and one more of them
pub still_small : (ids new : List Id) (i : Id) → AreSmall ids → new ≡ ids ++ i ∷ [] →
    i.0 < 2 ^ 64 → AreSmall new
still_small ids new i small is lt = rw is (small_more ids i small lt)

-- one more word is read
pub word_more : {A : Type 0} (words : List (Vec ℕ A)) (i : ℕ) (w : Vec ℕ A) (text : List ℕ)
    (ids new : List Id) (id : Id) → i < length words → w ≡ get_or words i w → text ≡ w.items →
    texts_of ids ++ texts (drop i words) ≡ texts words → new ≡ ids ++ id ∷ [] →
    text ≡ id_text id.0 → texts_of new ++ texts (drop (i + 1) words) ≡ texts words
word_more words i w text ids new id below at is so_far made spelled =
    let split : drop i words ≡ w ∷ drop (i + 1) words = split_at words i w below at in
    let rest = texts (drop (i + 1) words) in
    ap (λ js. texts_of js ++ rest) made ∙ ap (λ ts. ts ++ rest) (texts_more ids id)
    ∙ append_assoc (texts_of ids) (id_text id.0 ∷ []) rest
    ∙ ap (λ t. texts_of ids ++ t ∷ rest) (sym spelled ∙ is)
    ∙ ap (λ ws. texts_of ids ++ texts ws) (sym split) ∙ so_far

-- where there is at least one word, ids whose texts are all the words are spelled by them
pub spelled_all : {A : Type 0} (words : List (Vec ℕ A)) (ids : List Id) →
    false ≡ (length words == 0) → texts_of ids ≡ texts words → AreSmall ids →
    AreSpelled ids (texts words)
spelled_all [] ids some same small = absurd (cc)
spelled_all (w ∷ words) ids some same small = record {
  texts = same;
  small = small;
  some = by ids same;
}
  where
    by : (ids : List Id) → texts_of ids ≡ texts (w ∷ words) → ids ≢ []
    by [] same = λ e. absurd (cc)
    by (i ∷ is) same = λ e. absurd (cc)

-- where no word is left, the ids read so far are those of all words
pub all_spelled : {A : Type 0} (words : List (Vec ℕ A)) (ids : List Id) (i : ℕ) →
    false ≡ (length words == 0) → length words ≤ i →
    texts_of ids ++ texts (drop i words) ≡ texts words → AreSmall ids →
    AreSpelled ids (texts words)
all_spelled words ids i some le so_far small = spelled_all words ids some
    (sym (append-nil (texts_of ids))
    ∙ ap (λ ws. texts_of ids ++ texts ws) (sym (drop_of_length-le words le)) ∙ so_far) small

-- a text that is no list lists no ids
pub no_list : {A E : Type 0} (text : List ℕ) (o : Option Flaw) (r : Result (Option (Vec Id A)) E) →
    IfOk r (λ l. l ≡ None) → OnOk r (is_some o ≡ true) → IfSome o (λ flaw. HasFlaw flaw text) →
    IfOk r (λ l. MatchOption l ((ids : List Id) → ¬ IsIds ids text)
    (λ ids. IsIds ids.items text))
no_list text o (Ok l) none some h = rw none (λ ids is. flaw_no_ids o text h some ids is)
no_list text o (Err e) none some h = tt

-- where `first_shut` finds no id, all ids are open
all_by : (lines : List Line) (i : Id) (is : List Id) (b : Bool) → is_open_in lines i ≡ b →
    (if b then first_shut lines is else Some i) ≡ None →
    (first_shut lines is ≡ None → list_all (is_open_in lines) is ≡ true) →
    (is_open_in lines i && list_all (is_open_in lines) is) ≡ true
all_by lines i is true at none rest = (λ k. at k && rest none k)
all_by lines i is false at none rest = absurd (cc)

pub none_shut : (lines : List Line) (ids : List Id) → first_shut lines ids ≡ None →
    list_all (is_open_in lines) ids ≡ true
none_shut lines [] none = refl
none_shut lines (i ∷ is) none =
    all_by lines i is (is_open_in lines i) refl none (none_shut lines is)
