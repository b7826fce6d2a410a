-- How reading goes on from part to part.
use Rattle.std.proofs.Common.{◌≡◌, ◌≢◌, ℕ, List, [], ◌∷◌, ◌++◌, ℤ, Option, Some, None, Result, Ok, Err, refl, sym, ap, ◌∙◌, append_assoc, append-nil, subst, arith}
use mathlib.Core.Logic.{inl, inr}
use Rattle.std.proofs.lemmas.Result.{err_from_is_err_and}
use Rattle.std.specs.Prelude.{IfOk, IfErr, IfSome, IsErrAnd, length}
use Rattle.acts.specs.declared.id.Id.{Id}
use Rattle.choices.specs.Branches.{Branches, branches}
use Rattle.readings.specs.Drafts.{Draft, blank, with_ids, with_seconds, with_flag, with_branch, GoesOn, Fails}
use Rattle.readings.specs.Parts.{Part, Wanted, Ids, Seconds, Awaits, Sign, Alone, alone_part, expected_by, sign, AList, ANumber, ABody, parts, parts_from}
use Rattle.readings.specs.Reads.{Place, Outcome, Flaw, HasIds, MissesIds, IsSeconds, later, beside, branch_at, branch_flaw, ids_for, in_front, at_end, named_at, named_or, IsRead}
use Rattle.readings.specs.Signs.{part_of}
use Rattle.readings.specs.declared.sign.Mark as marks
use Rattle.readings.specs.declared.sign.Mark.TheVariants as mark

later_behind : (x y z : Option ℤ) → later x (later y z) ≡ later (later x y) z
later_behind x y None = refl
later_behind x y (Some n) = refl

later_none : (x : Option ℤ) → later None x ≡ x
later_none None = refl
later_none (Some n) = refl

-- to put branches in front twice is to put them in front together
in_front_twice : (a b : Branches) (o : Outcome) →
    in_front a (in_front b o) ≡ in_front (beside a b) o
in_front_twice a b (Ok r) =
    let n = append_assoc a.named b.named r.named in
    let p = append_assoc a.pairs b.pairs r.pairs in
    let t = later_behind a.timeout b.timeout r.timeout in
    λ k. Ok (branches (sym n k) (sym p k) (t k))
in_front_twice a b (Err f) = refl

-- no branches in front leave the outcome as it is
pub none_in_front : (o : Outcome) → in_front (branches [] [] None) o ≡ o
none_in_front (Ok r) = ap (λ t. Ok (branches r.named r.pairs t)) (later_none r.timeout)
none_in_front (Err f) = refl

-- reading goes on from where it is, with no part read
pub goes_here : (at : Place) (d : Draft) (ps : List Part) → GoesOn at d ps d ps
goes_here at d ps = λ out reads. (out, reads, refl)

-- reading goes on to a place, and from there to another one
pub goes_further : (at : Place) (d e f : Draft) (ps qs rs : List Part) → GoesOn at d ps e qs →
    GoesOn at e qs f rs → GoesOn at d ps f rs
goes_further at d e f ps qs rs first second = λ out reads.
    let b = second out reads in
    let a = first b.0 b.1 in
    (a.0, a.1, a.2 ∙ b.2)

-- reading goes on after a list of ids
pub ids_go : (at : Place) (d : Draft) (list : List ℕ) (ids : List Id) (ps : List Part) →
    HasIds at.lines list ids → GoesOn at d (Ids list ∷ ps) (with_ids ids d) ps
ids_go at d list ids ps has = λ out reads.
    let b = branches ids [] None in
    (in_front b out, inl (ids, out, has, reads, refl), in_front_twice d.said b out)

pub ids_fail : (at : Place) (d : Draft) (list : List ℕ) (ps : List Part) (flaw : Flaw) →
    MissesIds at.lines list flaw → Fails at d (Ids list ∷ ps) flaw
ids_fail at d list ps flaw misses = inr (flaw, misses, refl)

-- reading goes on after seconds
pub seconds_go : (at : Place) (d : Draft) (text : List ℕ) (n : ℤ) (ps : List Part) →
    IsSeconds text n → GoesOn at d (Seconds text ∷ ps) (with_seconds n d) ps
seconds_go at d text n ps is = λ out reads.
    let b = branches [] [] (Some n) in
    (in_front b out, inl (n, out, is, reads, refl), in_front_twice d.said b out)

-- reading goes on after a flag
pub flag_goes : (at : Place) (d : Draft) (m : marks.Mark) (ps : List Part) →
    GoesOn at d (part_of m ∷ ps) (with_flag m d) ps
flag_goes at d mark.Stays ps = λ out reads. (out, reads, refl)
flag_goes at d mark.TellsPlaces ps = λ out reads. (out, reads, refl)
flag_goes at d mark.Folds ps = λ out reads. (out, reads, refl)

-- reading goes on after a branch
pub branch_goes : (at : Place) (d : Draft) (w : Wanted) (body : List ℕ) (ps : List Part) →
    branch_flaw (ids_for at.current d.ids) w ≡ None →
    GoesOn at d (Awaits w body ∷ ps) (with_branch at.current w body d) ps
branch_goes at d w body ps none = λ out reads.
    let b = branch_at at.current d.ids d.flags w body in
    (in_front b out, inl (out, none, reads, refl), in_front_twice d.said b out)

pub branch_fails : (at : Place) (d : Draft) (w : Wanted) (body : List ℕ) (ps : List Part)
    (flaw : Flaw) → branch_flaw (ids_for at.current d.ids) w ≡ Some flaw →
    Fails at d (Awaits w body ∷ ps) flaw
branch_fails at d w body ps flaw is = inr (flaw, is, refl)

-- words whose parts give an error give that error
pub read_fails : (at : Place) (words : List (List ℕ)) (d : Draft) (ps : List Part) (flaw : Flaw) →
    GoesOn at blank (parts at.standing words) d ps → Fails at d ps flaw →
    IsRead at words (Err flaw)
read_fails at words d ps flaw goes fails =
    let first = goes (Err flaw) fails in
    let same : first.0 ≡ Err flaw = sym (none_in_front first.0) ∙ first.2 in
    record { said = first.0; reads = first.1; named = ap (named_at at.current) (sym same) }

-- words that are read to their end
pub read_ends : (at : Place) (words : List (List ℕ)) (d : Draft) (out : Outcome) →
    GoesOn at blank (parts at.standing words) d [] →
    named_at at.current (in_front d.said (at_end d.flags)) ≡ out → IsRead at words out
read_ends at words d out goes is =
    let first = goes (at_end d.flags) refl in
    let same : first.0 ≡ in_front d.said (at_end d.flags) =
    sym (none_in_front first.0) ∙ first.2 in
    record {
      said = first.0;
      reads = first.1;
      named = sym is ∙ ap (named_at at.current) (sym same);
    }

-- branches after which nothing is said
pub nothing_behind : (b : Branches) → in_front b (Ok (branches [] [] None)) ≡ Ok b
nothing_behind b = λ k. Ok (branches (append-nil b.named k) (append-nil b.pairs k) b.timeout)

-- branches that name an id stay as they are, whatever id is in force
pub named_already : (ids : List Id) (current : Option Id) (b : Branches) → ids ≢ [] →
    named_or ids current b ≡ Ok b
named_already [] current b some = absurd (some refl)
named_already (i ∷ is) current b some = refl

-- reading a list of ids goes on with the words after it
pub ids_read : (at : Place) (d new : Draft) (rest : List (List ℕ)) (list text : List ℕ)
    (behind : List (List ℕ)) (ids : List Id) → rest ≡ list ∷ behind → text ≡ list →
    HasIds at.lines text ids → new ≡ with_ids ids d →
    GoesOn at d (parts_from at.standing AList rest) new (parts at.standing behind)
ids_read at d new rest list text behind ids is same has made =
    rw (is, made) (ids_go at d list ids (parts at.standing behind)
    (subst (λ t. HasIds at.lines t ids) same has))

-- reading seconds goes on with the words after them
pub seconds_read : (at : Place) (d new : Draft) (rest : List (List ℕ)) (number text : List ℕ)
    (behind : List (List ℕ)) (n : ℤ) → rest ≡ number ∷ behind → text ≡ number →
    IsSeconds text n → new ≡ with_seconds n d →
    GoesOn at d (parts_from at.standing ANumber rest) new (parts at.standing behind)
seconds_read at d new rest number text behind n is same seconds made =
    rw (is, made) (seconds_go at d number n (parts at.standing behind)
    (subst (λ t. IsSeconds t n) same seconds))

-- reading a body goes on with the words after it
pub body_read : (at : Place) (d new : Draft) (w : Wanted) (rest : List (List ℕ)) (body text : List ℕ)
    (behind : List (List ℕ)) → rest ≡ body ∷ behind → text ≡ body →
    branch_flaw (ids_for at.current d.ids) w ≡ None → new ≡ with_branch at.current w text d →
    GoesOn at d (parts_from at.standing (ABody w) rest) new (parts at.standing behind)
body_read at d new w rest body text behind is same none made =
    rw (is, made, same) (branch_goes at d w body (parts at.standing behind) none)

-- reading goes one part further
pub part_read : (at : Place) (d e f : Draft) (words rest ws behind : List (List ℕ)) →
    GoesOn at d (parts at.standing words) e (parts at.standing rest) → rest ≡ ws →
    GoesOn at e (parts at.standing ws) f (parts at.standing behind) →
    GoesOn at d (parts at.standing words) f (parts at.standing behind)
part_read at d e f words rest ws behind first is second =
    goes_further at d e f (parts at.standing words) (parts at.standing rest)
    (parts at.standing behind) first (rw is second)

-- where a property holds, what follows from it holds too
pub ok_then : {X E : Type 0} {P Q : X → Type 0} (r : Result X E) → ((x : X) → P x → Q x) →
    IfOk r P → IfOk r Q
ok_then (Ok x) f holds = f x holds
ok_then (Err e) f holds = tt

pub err_then : {X E : Type 0} {P Q : E → Type 0} (r : Result X E) → ((e : E) → P e → Q e) →
    IfErr r P → IfErr r Q
err_then (Ok x) f holds = tt
err_then (Err e) f holds = f e holds

pub some_then : {X : Type 0} {P Q : X → Type 0} (o : Option X) → ((x : X) → P x → Q x) →
    IfSome o P → IfSome o Q
some_then None f holds = tt
some_then (Some x) f holds = f x holds

-- an error that is passed on
pub passed_on : {T E : Type 0} (Q : E → Type 0) (r : Result T E) (e : E) →
    IsErrAnd r (λ x. x ≡ e) → Q e → IfErr r Q
passed_on {T} {E} Q r e is holds =
    let q = err_from_is_err_and r is in
    subst (λ r. IfErr r Q) (sym q.1) (subst Q (sym q.2) holds)

-- reading goes on with the same words by another name
pub at_words : (at : Place) (d e : Draft) (words rest ws : List (List ℕ)) →
    GoesOn at d (parts at.standing words) e (parts at.standing rest) → rest ≡ ws →
    GoesOn at d (parts at.standing words) e (parts at.standing ws)
at_words at d e words rest ws goes is =
    subst (λ vs. GoesOn at d (parts at.standing words) e (parts at.standing vs)) is goes

-- where no words are left, no parts are left
pub at_last : (at : Place) (d e : Draft) (words rest : List (List ℕ)) →
    GoesOn at d (parts at.standing words) e (parts at.standing rest) → length rest ≡ 0 →
    GoesOn at d (parts at.standing words) e []
at_last at d e words [] goes none = goes
at_last at d e words (w ∷ ws) goes none = absurd (omega arith)

-- a branch without a body at the end of the words, which has an empty one
pub no_body_read : (at : Place) (d new : Draft) (w : Wanted) (rest : List (List ℕ)) →
    length rest ≡ 0 → branch_flaw (ids_for at.current d.ids) w ≡ None →
    new ≡ with_branch at.current w [] d →
    GoesOn at d (parts_from at.standing (ABody w) rest) new (parts at.standing rest)
no_body_read at d new w [] none fine made = rw made (branch_goes at d w [] [] fine)
no_body_read at d new w (v ∷ vs) none fine made = absurd (omega arith)

-- reading a flag of the next branch goes on with the words after it
pub flag_read : (at : Place) (d new : Draft) (w : List ℕ) (rest : List (List ℕ)) (m : marks.Mark) →
    Alone (part_of m) ≡ sign at.standing w → new ≡ with_flag m d →
    GoesOn at d (parts at.standing (w ∷ rest)) new (parts at.standing rest)
flag_read at d new w rest m is made =
    subst (λ (s : Sign). GoesOn at d (alone_part s ++ parts_from at.standing (expected_by s) rest)
    new (parts at.standing rest)) is (rw made (flag_goes at d m (parts at.standing rest)))
