-- Operands and marks that lie on others.
use Rattle.std.proofs.Common.{◌≡◌, ◌∙◌, ℕ, List, [], ◌∷◌, ◌++◌, Bool, true, false, Option, None, Some, length, append_assoc, refl, sym, ap}
use Rattle.steps.specs.Moves.{lowest}
use Rattle.steps.specs.Operand.{Outer, Prefixed, Row, Right, Holds, Argument, Test, Chosen, Condition, Turning, Resulting, waiting}
use Rattle.steps.specs.Places.{marked}
use Rattle.steps.specs.Word.{Around, Open, Word, Plain, Expands, Operand, Listed, Switched, Last, around, before_of, operands_of, with_bytes}
use Rattle.steps.proofs.Leads.Operands.{lowest_below}

-- these, of which the lowest are those
pub record LiesOn {X : Type 0} (all below : List X) : Type 0 where
  pub above : List X
  pub is : all ≡ above ++ below

pub those : {X : Type 0} (above below : List X) → LiesOn (above ++ below) below
those above below = record { above = above; is = refl }

pub one_above : {X : Type 0} (x : X) (all below : List X) → LiesOn all below → LiesOn (x ∷ all) below
one_above x all below lies =
    record { above = x ∷ lies.above; is = ap (λ xs. x ∷ xs) lies.is }

more_above : {X : Type 0} (top all below : List X) → LiesOn all below → LiesOn (top ++ all) below
more_above top all below lies = record {
  above = top ++ lies.above;
  is = ap (λ xs. top ++ xs) lies.is ∙ sym (append_assoc top lies.above below);
}

pub lies_on : {X : Type 0} (all some below : List X) → LiesOn all some → LiesOn some below →
    LiesOn all below
lies_on all some below lies more = record {
  above = lies.above ++ more.above;
  is = lies.is ∙ ap (λ xs. lies.above ++ xs) more.is
      ∙ sym (append_assoc lies.above more.above below);
}

pub waiting_above : (outer : List Outer) (below : List (List ℕ)) → LiesOn (waiting outer below) below
waiting_above [] below = those [] below
waiting_above (Prefixed operator ∷ outer) below = waiting_above outer below
waiting_above (Row links ∷ outer) below = waiting_above outer below
waiting_above (Right operator left links ∷ outer) below =
    one_above left (waiting outer below) below (waiting_above outer below)
waiting_above (Holds links ∷ outer) below = waiting_above outer below
waiting_above (Argument g before rest ∷ outer) below =
    more_above before (waiting outer below) below (waiting_above outer below)
waiting_above (Test this other ∷ outer) below = waiting_above outer below
waiting_above (Chosen ∷ outer) below = waiting_above outer below
waiting_above (Condition body more otherwise ∷ outer) below = those [] below
waiting_above (Turning loop ∷ outer) below = those [] below
waiting_above (Resulting ∷ outer) below = those [] below

before_above : (word : Word) (below : List (List ℕ)) → LiesOn (before_of word below) below
before_above (Plain braced counted before rest) below = those before below
before_above (Expands braced before rest) below = those before below
before_above (Operand outer) below = waiting_above outer below
before_above (Listed variables body) below = those [] below
before_above (Switched options after) below = those [] below
before_above (Last before) below = those [] below

bytes_above : (so_far : Option (List ℕ)) (all below : List (List ℕ)) → LiesOn all below →
    LiesOn (with_bytes so_far all) below
bytes_above None all below lies = lies
bytes_above (Some bytes) all below lies = one_above bytes all below lies

around_above : (os : List Around) (all below : List (List ℕ)) → LiesOn all below →
    LiesOn (around os all) below
around_above [] all below lies = lies
around_above (o ∷ os) all below lies =
    bytes_above o.so_far (around os all) below (around_above os all below lies)

pub word_above : (word : Open) (below : List (List ℕ)) → LiesOn (operands_of word below) below
word_above o below =
    bytes_above o.so_far (around o.outer (before_of o.word below)) below
    (around_above o.outer (before_of o.word below) below (before_above o.word below))

pub lowest_of : {X : Type 0} (all below : List X) → LiesOn all below →
    lowest (length below) all ≡ below
lowest_of all below lies =
    ap (lowest (length below)) lies.is ∙ lowest_below lies.above below

pub mark_above : (counted : Bool) (mark : ℕ) (marks : List ℕ) → LiesOn (marked counted mark marks) marks
mark_above false mark marks = those [] marks
mark_above true mark marks = those (mark ∷ []) marks
