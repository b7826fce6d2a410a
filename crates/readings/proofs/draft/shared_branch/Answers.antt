use Rattle.std.proofs.Common.{◌≡◌, Result, Ok, Err, subst}
use Rattle.std.proofs.lemmas.Bool.{false_from_ne_true}
use Rattle.readings.specs.Drafts.{wanted_of}
use Rattle.readings.specs.Reads.{is_too_long}
use Rattle.readings.proofs.draft.shared_branch.Goals as goal

abbrev IsOk : {X E : Type 0} → Result X E → Type 0
IsOk (Ok x) = Unit {0}
IsOk (Err e) = ⊥

no_error : {X E : Type 0} (x : X) (e : E) → Ok x ≡ Err e → ⊥
no_error x e is = subst IsOk is tt

pub returns-clause-short : goal.returns-clause-short
returns-clause-short g c =
    false_from_ne_true (is_too_long (wanted_of c.args.wanted))
    (λ long. no_error _ _ (c.in_ok-awaited.ensures.too_long.1 long))
