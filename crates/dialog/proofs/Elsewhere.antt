-- What words say does not depend on the table but by the ids that they name.
use Rattle.std.proofs.Common.{◌≡◌, inl, inr, ℕ, ◌&&◌, Bool, true, false, List, [], ◌∷◌, ◌++◌, Option, None, Some, Ok, Err, IsTrue, refl, sym, subst, ◌∙◌}
use Rattle.std.proofs.lemmas.List.Folds.{list_all-append}
use Rattle.std.specs.List.{list_all}
use Rattle.acts.specs.declared.id.Id.{Id}
use Rattle.choices.specs.Branches.{Branches, branches}
use Rattle.dialog.specs.KeptBranches.{SaysAlways}
use Rattle.choices.specs.Lines.{Line}
use Rattle.readings.specs.Parts.{Part, Ids, Seconds, Stays, TellsPlaces, Folds, Awaits, Lacks, Regex, Bad, parts}
use Rattle.readings.specs.Reads.{Outcome, Reads, first_shut, IsRead, beside, branch_at, in_front, named_at, named_or, no_flags, place, is_open_in}
use Rattle.choices.specs.declared.branch.Flags.{Flags}
use Rattle.readings.proofs.IdLists.{none_shut}

-- all of these ids are open
abbrev AreOpen : List Line → List Id → Type 0
AreOpen lines ids = IsTrue (list_all (is_open_in lines) ids)

both_true : (a b : Bool) → IsTrue (a && b) → IsTrue a × IsTrue b
both_true true b both = (refl, both)
both_true false b both = absurd (cc)

-- of two lists of open ids each has open ids
halves : (lines : List Line) (a b : List Id) → AreOpen lines (a ++ b) →
    AreOpen lines a × AreOpen lines b
halves lines a b all = both_true (list_all (is_open_in lines) a) (list_all (is_open_in lines) b)
    (subst (λ (t : Bool). IsTrue t) (list_all-append (is_open_in lines) a b) all)

-- what is said after a part, where the part and what is after it say branches
rest_of : (front : Branches) (rest : Outcome) (b : Branches) → Ok b ≡ in_front front rest →
    (r : Branches) × (rest ≡ Ok r) × (b ≡ beside front r)
rest_of front (Ok r) b same = let is : b ≡ beside front r = cc in (r, refl, is)
rest_of front (Err flaw) b same = let never : Ok b ≡ Err flaw = same in absurd (cc)

-- the ids after a part are open, where those of the part and after it are
later_open : (lines : List Line) (front : Branches) (b r : Branches) → b ≡ beside front r →
    AreOpen lines b.named → AreOpen lines front.named × AreOpen lines r.named
later_open lines front b r is all =
    halves lines front.named r.named (subst (λ (c : Branches). AreOpen lines c.named) is all)

-- parts that say branches at one place say them wherever the ids that they name are open
elsewhere : (lines more : List Line) (current : Option Id) (standing : Bool)
    (ids : Option (List Id)) (flags : Flags) (ps : List Part) (out : Outcome) (b : Branches) →
    out ≡ Ok b → Reads (place lines current standing) ids flags ps out → AreOpen more b.named →
    Reads (place more current standing) ids flags ps out
elsewhere lines more current standing ids flags [] out b is reads all = reads
elsewhere lines more current standing ids flags (Ids list ∷ ps) out b is (inl x) all =
    let front = branches x.0 [] None in
    let rest = rest_of front x.1 b (sym is ∙ x.4) in
    let open_ids = later_open more front b rest.0 rest.2 all in
    inl (
      x.0,
      x.1,
      record { is_ids = x.2.is_ids; are_open = open_ids.0 },
      elsewhere lines more current standing (Some x.0) flags ps x.1 rest.0 rest.1 x.3 open_ids.1,
      x.4,
    )
elsewhere lines more current standing ids flags (Ids list ∷ ps) out b is (inr x) all =
    let never : Ok b ≡ Err x.0 = sym is ∙ x.2 in absurd (cc)
elsewhere lines more current standing ids flags (Seconds text ∷ ps) out b is (inl x) all =
    let front = branches [] [] (Some x.0) in
    let rest = rest_of front x.1 b (sym is ∙ x.4) in
    let open_ids = later_open more front b rest.0 rest.2 all in
    inl (
      x.0,
      x.1,
      x.2,
      elsewhere lines more current standing ids flags ps x.1 rest.0 rest.1 x.3 open_ids.1,
      x.4,
    )
elsewhere lines more current standing ids flags (Seconds text ∷ ps) out b is (inr x) all = inr x
elsewhere lines more current standing ids flags (Stays ∷ ps) out b is reads all =
    elsewhere lines more current standing ids (record flags { stays = true }) ps out b is reads all
elsewhere lines more current standing ids flags (TellsPlaces ∷ ps) out b is reads all =
    elsewhere lines more current standing ids (record flags { tells_places = true }) ps out b is
    reads all
elsewhere lines more current standing ids flags (Folds ∷ ps) out b is reads all =
    elsewhere lines more current standing ids (record flags { folds = true }) ps out b is reads all
elsewhere lines more current standing ids flags (Awaits wanted body ∷ ps) out b is (inl x) all =
    let front = branch_at current ids flags wanted body in
    let rest = rest_of front x.0 b (sym is ∙ x.3) in
    let open_ids = later_open more front b rest.0 rest.2 all in
    inl (
      x.0,
      x.1,
      elsewhere lines more current standing ids no_flags ps x.0 rest.0 rest.1 x.2 open_ids.1,
      x.3,
    )
elsewhere lines more current standing ids flags (Awaits wanted body ∷ ps) out b is (inr x) all =
    inr x
elsewhere lines more current standing ids flags (Lacks ∷ ps) out b is reads all = reads
elsewhere lines more current standing ids flags (Regex ∷ ps) out b is reads all = reads
elsewhere lines more current standing ids flags (Bad word ∷ ps) out b is reads all = reads

-- where the id in force is named, nothing else is
named_before : (lines : List Line) (current : Option Id) (names : List Id) (s b : Branches) →
    s.named ≡ names → Ok b ≡ named_or names current s → AreOpen lines b.named →
    AreOpen lines s.named
named_before lines current [] s b is same all =
    subst (λ (ids : List Id). AreOpen lines ids) (sym is) refl
named_before lines current (i ∷ ids) s b is same all =
    let whole : b ≡ s = cc in subst (λ (c : Branches). AreOpen lines c.named) whole all

-- words that say branches say them wherever the ids that they name are open
pub says_always : (lines : List Line) (current : Option Id) (standing : Bool)
    (words : List (List ℕ)) (b : Branches) → IsRead (place lines current standing) words (Ok b) →
    SaysAlways words current standing b
says_always lines current standing words b read more all = by read.said read.reads read.named
  where
    by : (said : Outcome) →
        Reads (place lines current standing) None no_flags (parts standing words) said →
        Ok b ≡ named_at current said → IsRead (place more current standing) words (Ok b)
    by (Ok s) reads named = record {
      said = Ok s;
      reads = elsewhere lines more current standing None no_flags (parts standing words) (Ok s) s
          refl reads (named_before more current s.named s b refl named all);
      named = named;
    }
    by (Err flaw) reads named = let never : Ok b ≡ Err flaw = named in absurd (cc)

-- words that are kept with branches say them again where none of the ids is closed
pub said_again : (lines : List Line) (c d : Option Id) (s t : Bool) (v w : List (List ℕ))
    (b : Branches) → SaysAlways v c s b → v ≡ w → c ≡ d → s ≡ t →
    first_shut lines b.named ≡ None → IsRead (place lines d t) w (Ok b)
said_again lines c d s t v w b always same_words same_current same_standing none =
    subst (λ (u : List (List ℕ)). IsRead (place lines d t) u (Ok b)) same_words
    (subst (λ (i : Option Id). IsRead (place lines i t) v (Ok b)) same_current
    (subst (λ (k : Bool). IsRead (place lines c k) v (Ok b)) same_standing
    (always lines (none_shut lines b.named none))))
