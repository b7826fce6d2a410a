-- Words have one outcome: there is always one, and never a second one.
use Rattle.std.proofs.Common.{◌≡◌, inl, inr, ℕ, ℤ, Bool, true, false, List, [], ◌∷◌, Option, Some, None, Err, codes, refl, sym, ap, subst, ◌∙◌}
use Rattle.acts.specs.declared.id.Id.{Id}
use Rattle.tcltext.specs.Numbers.{is_number}
use Rattle.tcltext.proofs.Numerals.{one_value}
use Rattle.patterns.proofs.Decided.{Decided}
use Rattle.tcltext.proofs.Within.{number_is_numeral}
use Rattle.choices.specs.Branches.{branches}
use Rattle.readings.specs.Parts.{Part, Ids, Seconds, Stays, TellsPlaces, Folds, Awaits, Lacks, Regex, Bad, Wanted, parts}
use Rattle.readings.specs.Reads.{Place, Outcome, Flaw, NoPattern, RegexNotHere, BadFlag, IsSeconds, Reads, IsRead, at_end, branch_at, branch_flaw, ids_for, in_front, named_at, no_flags}
use Rattle.choices.specs.declared.branch.Flags.{Flags}
use Rattle.readings.proofs.IdsRead.{Lists, lists, one_list_of_ids, one_miss, not_missed}

-- a text is a number of seconds, or none
abbrev Counts : List ℕ → Type 0
Counts text = (n : ℤ) × IsSeconds text n

counts : (text : List ℕ) → Decided (Counts text)
counts text = by (is_number text) refl
  where
    by : (b : Bool) → is_number text ≡ b → Decided (Counts text)
    by true is = let n = (number_is_numeral text).0 is in inl (n.0, (n.1, n.2))
    by false is = inr (λ n.
        let holds = (number_is_numeral text).1 (n.0, n.1.0, n.1.1) in
        let never : false ≡ true = sym is ∙ holds in absurd (cc))

-- parts have an outcome
abbrev Comes : Place → Option (List Id) → Flags → List Part → Type 0
Comes at ids flags ps = (out : Outcome) × Reads at ids flags ps out

ids_come : (at : Place) (ids : Option (List Id)) (flags : Flags) (list : List ℕ) (ps : List Part) →
    Lists at.lines list → ((named : List Id) → Comes at (Some named) flags ps) →
    Comes at ids flags (Ids list ∷ ps)
ids_come at ids flags list ps (inl has) rest =
    let more = rest has.0 in
    (in_front (branches has.0 [] None) more.0, inl (has.0, more.0, has.1, more.1, refl))
ids_come at ids flags list ps (inr miss) rest = (Err miss.0, inr (miss.0, miss.1, refl))

seconds_come : (at : Place) (ids : Option (List Id)) (flags : Flags) (text : List ℕ)
    (ps : List Part) → Decided (Counts text) → Comes at ids flags ps →
    Comes at ids flags (Seconds text ∷ ps)
seconds_come at ids flags text ps (inl n) more =
    (in_front (branches [] [] (Some n.0)) more.0, inl (n.0, more.0, n.1, more.1, refl))
seconds_come at ids flags text ps (inr none) more =
    (Err (BadFlag (codes "-timeout")), inr ((λ n is. none (n, is)), refl))

branch_comes : (at : Place) (ids : Option (List Id)) (flags : Flags) (wanted : Wanted)
    (body : List ℕ) (ps : List Part) (o : Option Flaw) →
    branch_flaw (ids_for at.current ids) wanted ≡ o → Comes at ids no_flags ps →
    Comes at ids flags (Awaits wanted body ∷ ps)
branch_comes at ids flags wanted body ps None is more =
    (in_front (branch_at at.current ids flags wanted body) more.0, inl (more.0, is, more.1, refl))
branch_comes at ids flags wanted body ps (Some flaw) is more =
    (Err flaw, inr (flaw, is, refl))

comes : (at : Place) (ids : Option (List Id)) (flags : Flags) (ps : List Part) →
    Comes at ids flags ps
comes at ids flags [] = (at_end flags, refl)
comes at ids flags (Ids list ∷ ps) =
    ids_come at ids flags list ps (lists at.lines list)
    (λ named. comes at (Some named) flags ps)
comes at ids flags (Seconds text ∷ ps) =
    seconds_come at ids flags text ps (counts text) (comes at ids flags ps)
comes at ids flags (Stays ∷ ps) = comes at ids (record flags { stays = true }) ps
comes at ids flags (TellsPlaces ∷ ps) = comes at ids (record flags { tells_places = true }) ps
comes at ids flags (Folds ∷ ps) = comes at ids (record flags { folds = true }) ps
comes at ids flags (Awaits wanted body ∷ ps) =
    branch_comes at ids flags wanted body ps (branch_flaw (ids_for at.current ids) wanted) refl
    (comes at ids no_flags ps)
comes at ids flags (Lacks ∷ ps) = (Err NoPattern, refl)
comes at ids flags (Regex ∷ ps) = (Err RegexNotHere, refl)
comes at ids flags (Bad word ∷ ps) = (Err (BadFlag word), refl)

-- words have an outcome
pub has_reading : (at : Place) (words : List (List ℕ)) → (out : Outcome) × IsRead at words out
has_reading at words =
    let all = comes at None no_flags (parts at.standing words) in
    (named_at at.current all.0, record { said = all.0; reads = all.1; named = refl })

no_flaw : (o : Option Flaw) (flaw : Flaw) → o ≡ None → o ≡ Some flaw → ⊥
no_flaw o flaw none some = let never : None ≡ Some flaw = sym none ∙ some in absurd (cc)

same_flaw : (f g : Flaw) → Some f ≡ Some g → f ≡ g
same_flaw f g same = cc

-- parts have no second outcome
one_outcome : (at : Place) (ids : Option (List Id)) (flags : Flags) (ps : List Part)
    (a b : Outcome) → Reads at ids flags ps a → Reads at ids flags ps b → a ≡ b
one_outcome at ids flags [] a b x y = x ∙ sym y
one_outcome at ids flags (Ids list ∷ ps) a b (inl x) (inl y) =
    let same = one_list_of_ids at.lines list x.0 y.0 x.2 y.2 in
    let rest = one_outcome at (Some x.0) flags ps x.1 y.1 x.3
    (subst (λ is. Reads at (Some is) flags ps y.1) (sym same) y.3) in
    x.4 ∙ (λ k. in_front (branches (same k) [] None) (rest k)) ∙ sym y.4
one_outcome at ids flags (Ids list ∷ ps) a b (inl x) (inr y) =
    absurd (not_missed at.lines list x.0 y.0 x.2 y.1)
one_outcome at ids flags (Ids list ∷ ps) a b (inr x) (inl y) =
    absurd (not_missed at.lines list y.0 x.0 y.2 x.1)
one_outcome at ids flags (Ids list ∷ ps) a b (inr x) (inr y) =
    x.2 ∙ ap (λ f. Err f) (one_miss at.lines list x.0 y.0 x.1 y.1) ∙ sym y.2
one_outcome at ids flags (Seconds text ∷ ps) a b (inl x) (inl y) =
    let same = one_value text x.0 y.0 x.2.0 y.2.0 in
    let rest = one_outcome at ids flags ps x.1 y.1 x.3 y.3 in
    x.4 ∙ (λ k. in_front (branches [] [] (Some (same k))) (rest k)) ∙ sym y.4
one_outcome at ids flags (Seconds text ∷ ps) a b (inl x) (inr y) = absurd (y.0 x.0 x.2)
one_outcome at ids flags (Seconds text ∷ ps) a b (inr x) (inl y) = absurd (x.0 y.0 y.2)
one_outcome at ids flags (Seconds text ∷ ps) a b (inr x) (inr y) = x.1 ∙ sym y.1
one_outcome at ids flags (Stays ∷ ps) a b x y =
    one_outcome at ids (record flags { stays = true }) ps a b x y
one_outcome at ids flags (TellsPlaces ∷ ps) a b x y =
    one_outcome at ids (record flags { tells_places = true }) ps a b x y
one_outcome at ids flags (Folds ∷ ps) a b x y =
    one_outcome at ids (record flags { folds = true }) ps a b x y
one_outcome at ids flags (Awaits wanted body ∷ ps) a b (inl x) (inl y) =
    let rest = one_outcome at ids no_flags ps x.0 y.0 x.2 y.2 in
    x.3 ∙ ap (in_front (branch_at at.current ids flags wanted body)) rest ∙ sym y.3
one_outcome at ids flags (Awaits wanted body ∷ ps) a b (inl x) (inr y) =
    absurd (no_flaw (branch_flaw (ids_for at.current ids) wanted) y.0 x.1 y.1)
one_outcome at ids flags (Awaits wanted body ∷ ps) a b (inr x) (inl y) =
    absurd (no_flaw (branch_flaw (ids_for at.current ids) wanted) x.0 y.1 x.1)
one_outcome at ids flags (Awaits wanted body ∷ ps) a b (inr x) (inr y) =
    x.2 ∙ ap (λ f. Err f) (same_flaw x.0 y.0 (sym x.1 ∙ y.1)) ∙ sym y.2
one_outcome at ids flags (Lacks ∷ ps) a b x y = x ∙ sym y
one_outcome at ids flags (Regex ∷ ps) a b x y = x ∙ sym y
one_outcome at ids flags (Bad word ∷ ps) a b x y = x ∙ sym y

-- words have no second outcome
pub one_reading : (at : Place) (words : List (List ℕ)) (a b : Outcome) → IsRead at words a →
    IsRead at words b → a ≡ b
one_reading at words a b x y =
    let same = one_outcome at None no_flags (parts at.standing words) x.said y.said x.reads
    y.reads in
    x.named ∙ ap (named_at at.current) same ∙ sym y.named
