-- The elements of a foreach that are left.
use Rattle.std.proofs.Common.{◌≡◌, ◌∙◌, ℕ, ◌<◌, ◌≤◌, List, [], ◌∷◌, ◌++◌, true, false, length, Option, Some, option_to_list, sym, ap, arith, if◌then◌else◌}
use Rattle.std.specs.Prelude.{nat_le, reverse}
use Rattle.std.proofs.lemmas.Bool.{le-leb, lt-leb}
use Rattle.std.proofs.lemmas.List.{length-reverse}
use Rattle.state.specs.Prelude.{Status}
use Rattle.steps.specs.Foreach.{looking, taking}
use Rattle.steps.specs.Moves.{jumping, on_top, with_operands}
use Rattle.steps.specs.Spot.{Spot, Did, Went}

-- no operand is above the mark
pub none_above : (items : List (List ℕ)) (mark : ℕ) → length items ≤ mark →
    nat_le (length (reverse items)) mark ≡ true
none_above items mark le =
    le-leb (length (reverse items)) mark (omega (arith, le, length-reverse items))

-- some are
pub some_above : (items : List (List ℕ)) (mark : ℕ) → mark < length items →
    nat_le (length (reverse items)) mark ≡ false
some_above items mark lt =
    lt-leb (length (reverse items)) mark (omega (arith, lt, length-reverse items))

-- a mark that was taken off was put back
pub put_back : (old off put : List ℕ) (taken : Option ℕ) (mark : ℕ) →
    old ≡ off ++ option_to_list taken → taken ≡ Some mark → put ≡ off ++ mark ∷ [] → put ≡ old
put_back old off put taken mark is some again =
    again ∙ sym (is ∙ ap (λ o. off ++ option_to_list o) some)

module _ (spot : Spot) (mark : ℕ) (marks : List ℕ) (is : spot.marks ≡ mark ∷ marks) where
  -- no element is left: the place is next
  pub looks_over : (place : ℕ) (s : Status) → nat_le (length spot.operands) mark ≡ true →
      jumping place spot s ≡ looking place spot s
  looks_over place s none =
      sym (ap (λ ms. on_top ms (λ m others.
      if nat_le (length spot.operands) m then jumping place spot s else Went spot s)) is
      ∙ ap (λ b. if b then jumping place spot s else Went spot s) none)

  -- some are: the run goes on
  pub looks_on : (place : ℕ) (s : Status) → nat_le (length spot.operands) mark ≡ false →
      Went spot s ≡ looking place spot s
  looks_on place s some =
      sym (ap (λ ms. on_top ms (λ m others.
      if nat_le (length spot.operands) m then jumping place spot s else Went spot s)) is
      ∙ ap (λ b. if b then jumping place spot s else Went spot s) some)

  module _ (next : List ℕ → Spot → Did) where
    takes_so : taking spot next ≡ (if nat_le (length spot.operands) mark then next [] spot
        else on_top spot.operands (λ value below. next value (with_operands below spot)))
    takes_so =
        ap (λ ms. on_top ms (λ m others.
        if nat_le (length spot.operands) m then next [] spot
        else on_top spot.operands (λ value below. next value (with_operands below spot)))) is

    -- no element is left: it is the empty text
    pub takes_none : nat_le (length spot.operands) mark ≡ true → next [] spot ≡ taking spot next
    takes_none none =
        sym (takes_so ∙ ap (λ b. if b then next [] spot
        else on_top spot.operands (λ value below. next value (with_operands below spot))) none)

    -- the next element is the operand on top
    pub takes_one : (operands : List (List ℕ)) → nat_le (length spot.operands) mark ≡ false →
        spot.operands ≡ operands →
        on_top operands (λ value below. next value (with_operands below spot)) ≡ taking spot next
    takes_one operands some are =
        sym (takes_so ∙ ap (λ b. if b then next [] spot
        else on_top spot.operands (λ value below. next value (with_operands below spot))) some
        ∙ ap (λ os. on_top os (λ value below. next value (with_operands below spot))) are)
