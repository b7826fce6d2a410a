-- What the variables that foreach sets lead to.
use Rattle.std.proofs.Common.{◌≡◌, ◌∙◌, ℕ, ◌+◌, ◌<◌, List, [], ◌∷◌, ◌++◌, length, drop, get_or, map, Option, Some, None, refl, ap}
use Rattle.state.specs.Prelude.{Fault, Course, Status, FitsState}
use Rattle.nesting.specs.Foreach.{assigned, assigns, dealt, first_of, row}
use Rattle.nesting.specs.Looping.{Assigned, pair_of}
use Rattle.nesting.specs.declared.pair.Pair as coded
use Rattle.state.proofs.Lists.{split_at}
use Rattle.state.specs.Variables.{writes}
use Rattle.state.specs.declared.state.State.{State}
use Rattle.tclparse.specs.Variable.{named}

-- a variable that is named is written
pub assigned_named : (word name : List ℕ) (index : Option (List ℕ)) (value : List ℕ) (s : Status)
    (next : Status → Course) → named word ≡ Some (name, index) →
    assigned word value s next ≡ writes name index value s next
assigned_named word name index value s next is = rw is refl

-- the variable at a place takes its element, and those after it take theirs
pub next_dealt : (names : List (List ℕ)) (i : ℕ) (name word value : List ℕ)
    (elements left : List (List ℕ)) → i < length names → name ≡ get_or names i name →
    word ≡ name → value ≡ first_of elements → left ≡ drop 1 elements →
    dealt (drop i names) elements ≡ (word, value) ∷ dealt (drop (i + 1) names) left
next_dealt names i name word value elements left lt is same first behind =
    ap (λ ns. dealt ns elements) (split_at names i name lt is) ∙ rw (same, first, behind) refl

pub next_row : {A : Type 0} (pairs : List (coded.Pair A)) (i : ℕ) (pair : coded.Pair A) →
    i < length pairs → pair ≡ get_or pairs i pair →
    row (map (λ p. pair_of p) (drop i pairs))
    ≡ dealt pair.names.items pair.elements.items ++ row (map (λ p. pair_of p) (drop (i + 1) pairs))
next_row pairs i pair lt is =
    ap (λ ps. row (map (λ p. pair_of p) ps)) (split_at pairs i pair lt is)

-- some variables are set, and then the others
assigns_append : (first rest : List (List ℕ × List ℕ)) (s : Status) (next : Status → Course) →
    assigns (first ++ rest) s next ≡ assigns first s (λ t. assigns rest t next)
assigns_append [] rest s next = refl
assigns_append (a ∷ first) rest s next = simp (assigns_append first rest)

-- for some state of the definition that the code's state fits, the rest of all that is to be set
-- is still to be set
pub record Leaves {A : Type 0} (state : State A) (s : Status) (all rest : List (List ℕ × List ℕ)) :
    Type 0 where
  pub status : Status
  pub fits : FitsState state status
  pub same : (next : Status → Course) → assigns all s next ≡ assigns rest status next

-- an equal rest may stand for it
pub leaves_as : {A : Type 0} (state : State A) (s : Status)
    (all rest other : List (List ℕ × List ℕ)) → rest ≡ other → Leaves state s all rest →
    Leaves state s all other
leaves_as state s all rest other is l = rw is at l

module _ {A : Type 0} (old new : State A) (s : Status) (all first rest : List (List ℕ × List ℕ))
    (told : Option (Fault A)) (l : Leaves old s all (first ++ rest)) where
  -- some more variables are set
  pub leaves_more : told ≡ None → Assigned told new (assigns first l.status) → Leaves new s all rest
  leaves_more none set =
      let done = rw none at set in
      record {
        status = done.status;
        fits = done.fits;
        same = λ next. l.same next ∙ assigns_append first rest l.status next
            ∙ done.same (λ t. assigns rest t next);
      }

  -- a variable can't be set, and with that error all of it ends
  pub leaves_fault : (fault : Fault A) → told ≡ Some fault →
      Assigned told new (assigns first l.status) → Assigned (Some fault) new (assigns all s)
  leaves_fault fault some set =
      let done = rw some at set in
      record {
        status = done.status;
        fits = done.fits;
        same = λ next. l.same next ∙ assigns_append first rest l.status next
            ∙ done.same (λ t. assigns rest t next);
      }

-- where no variable is left to be set, all are set
pub all_set : {A : Type 0} (state : State A) (s : Status) (all rest : List (List ℕ × List ℕ)) →
    rest ≡ [] → Leaves state s all rest → Assigned None state (assigns all s)
all_set state s all rest none l = record {
  status = l.status;
  fits = l.fits;
  same = λ next. l.same next ∙ ap (λ r. assigns r l.status next) none;
}
