-- An instruction after which the run goes on, or something begins.
use Rattle.std.proofs.Common.{◌≡◌, true, false, refl, subst, sym}
use Rattle.std.specs.Prelude.{not}
use Rattle.steps.specs.contracts.progress.Progress.{the_type}
use Rattle.steps.specs.View.{IsCall, IsOpen, is_call}
use Rattle.steps.specs.declared.progress.Progress.{Progress}
use Rattle.steps.specs.declared.progress.Progress.TheVariants as went
use denote.Enum.Bare.{sameb}

-- what is not another answer than this one is this one
pub goes_on : (progress : Progress) → not (sameb the_type progress went.GoesOn) ≡ false →
    progress ≡ went.GoesOn
goes_on went.GoesOn is = refl
goes_on went.Begins is = absurd cc
goes_on went.Says is = absurd cc
goes_on went.Runs is = absurd cc
goes_on went.Evaluates is = absurd cc
goes_on went.Over is = absurd cc
goes_on went.Stuck is = absurd cc

-- and what is not another answer than that a command begins is that
pub begins : (progress : Progress) → not (sameb the_type progress went.Begins) ≡ false →
    progress ≡ went.Begins
begins went.GoesOn is = absurd cc
begins went.Begins is = refl
begins went.Says is = absurd cc
begins went.Runs is = absurd cc
begins went.Evaluates is = absurd cc
begins went.Over is = absurd cc
begins went.Stuck is = absurd cc

-- where a command begins, something does
pub begun_call : (progress : Progress) → progress ≡ went.Begins → IsCall progress
begun_call progress is = subst IsCall (sym is) tt

-- where something begins the code is not over
pub call_open : (progress : Progress) → IsCall progress → IsOpen progress
call_open went.GoesOn is = absurd is
call_open went.Begins is = tt
call_open went.Says is = tt
call_open went.Runs is = tt
call_open went.Evaluates is = tt
call_open went.Over is = absurd is
call_open went.Stuck is = absurd is

-- whether something begins
pub begun : (progress : Progress) → is_call progress ≡ true → IsCall progress
begun went.GoesOn is = absurd cc
begun went.Begins is = tt
begun went.Says is = tt
begun went.Runs is = tt
begun went.Evaluates is = tt
begun went.Over is = absurd cc
begun went.Stuck is = absurd cc

pub not_begun : (progress : Progress) → is_call progress ≡ false → IsCall progress → ⊥
not_begun went.GoesOn is call = call
not_begun went.Begins is call = absurd cc
not_begun went.Says is call = absurd cc
not_begun went.Runs is call = absurd cc
not_begun went.Evaluates is call = absurd cc
not_begun went.Over is call = call
not_begun went.Stuck is call = call
