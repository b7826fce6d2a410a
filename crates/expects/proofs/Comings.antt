-- That the course of a turn or a command has come to the result at hand, step by step.
use Rattle.std.proofs.Common.{◌≡◌, ◌∙◌, ℕ, List, Result, Ok, Err, IfOk, refl, sym, ap}
use Rattle.state.specs.Prelude.{NoMemory, Ends, Course, Outcome, Leaves, Error, TurnTree, Reaches, Status, FitsState, outcome_of}
use Rattle.plan.specs.Plan.{goes}
use Rattle.state.proofs.Reaches.{same_reaches, then_reaches}
use Rattle.state.specs.Budget.{again_of}
use Rattle.state.specs.Piece.{Turn}
use Rattle.state.specs.declared.outcome.Leave.{Leave}
use Rattle.state.specs.declared.state.State.{State}
use Rattle.expects.specs.View.{Comes, course_of_begun, course_of_opening, course_of_talk, course_of_turned}
use Rattle.expects.specs.declared.turn.Begun.TheVariants as begun
use Rattle.expects.specs.declared.turn.Opening.{Opening}
use Rattle.expects.specs.declared.turn.Talk.TheVariants as talk
use Rattle.expects.specs.declared.turn.Turned.{Turned}

-- where a property of a value holds, what follows from it holds too
pub on_ok : {X E : Type 0} (r : Result X E) {P Q : X → Type 0} → ((x : X) → P x → Q x) →
    IfOk r P → IfOk r Q
on_ok (Ok x) each holds = each x holds
on_ok (Err e) each holds = holds

-- a turn of expect in the place of this course
abbrev pub begins : TurnTree → ℕ → Status → Course
begins turn levels s = goes (Turn turn levels) s

pub begins_as : (a b : TurnTree) (l m : ℕ) (s : Status) → a ≡ b → l ≡ m →
    begins a l s ≡ begins b m s
begins_as a b l m s is same = rw (is, same) refl

module _ {A X : Type 0} (course_of : X → Status → Course) (state : State A) where
  -- the result is at hand in a state that fits
  pub comes_as : (x : X) (s : Status) (course : Course) → FitsState state s →
      course ≡ course_of x s → Comes course_of x state course
  comes_as x s course fits is = record {
    status = s;
    fits = fits;
    reaches = same_reaches is;
  }

  -- the same, once some texts are read
  pub comes_reading : (x : X) (s : Status) (course : Course) → FitsState state s →
      Reaches course (course_of x s) → Comes course_of x state course
  comes_reading x s course fits first = record {
    status = s;
    fits = fits;
    reaches = first;
  }

  -- the same of a course that leads to another one
  pub comes_after : (x : X) (c d : Course) → Reaches c d → Comes course_of x state d →
      Comes course_of x state c
  comes_after x c d first comes = record {
    status = comes.status;
    fits = comes.fits;
    reaches = then_reaches first comes.reaches;
  }

  pub after_ok : (r : Result X NoMemory) (c d : Course) → Reaches c d →
      IfOk r (λ x. Comes course_of x state d) → IfOk r (λ x. Comes course_of x state c)
  after_ok (Ok x) c d first comes = comes_after x c d first comes
  after_ok (Err refusal) c d first comes = tt

  -- the same of an equal course
  pub comes_from : (x : X) (c d : Course) → c ≡ d → Comes course_of x state d →
      Comes course_of x state c
  comes_from x c d is comes = comes_after x c d (same_reaches is) comes

  pub from_ok : (r : Result X NoMemory) (c d : Course) → c ≡ d →
      IfOk r (λ x. Comes course_of x state d) → IfOk r (λ x. Comes course_of x state c)
  from_ok r c d is comes = after_ok r c d (same_reaches is) comes

-- the result of a turn is what follows the answer
pub talk_comes : {A : Type 0} (state : State A) (turned : Turned A) (course : Course) →
    Comes course_of_turned turned state course →
    Comes course_of_talk (talk.Turned turned) state course
talk_comes state turned course comes = record {
  status = comes.status;
  fits = comes.fits;
  reaches = comes.reaches;
}

-- a command has come as far as its opening
pub opening_comes : {A : Type 0} (levels : ℕ) (opening : Opening A) (state : State A)
    (course : Course) → Comes course_of_opening opening state course →
    Comes (course_of_begun levels) (begun.Opens opening) state course
opening_comes levels opening state course comes = record {
  status = comes.status;
  fits = comes.fits;
  reaches = comes.reaches;
}

-- the command is over with that outcome
pub over_is : {A : Type 0} (r : Result (List ℕ) (Leave A)) (o : Outcome) (s : Status)
    (course : Course) → outcome_of r ≡ o → course ≡ (let end : Course = Ends (s, o) in end) →
    course ≡ (let end : Course = Ends (s, outcome_of r) in end)
over_is r o s course is ends =
    ends ∙ ap (λ (x : Outcome). let c : Course = Ends (s, x) in c) (sym is)

-- an error is not exp_continue
pub plain_error : (o : Outcome) (text : List ℕ) → o ≡ Leaves Error text → again_of o ≡ 0
plain_error o text is = rw is refl
