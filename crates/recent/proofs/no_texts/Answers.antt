use Rattle.std.proofs.Common.{ℕ, ◌≡◌, ◌++◌, ◌∷◌, [], List, Bool, true, false, Option, None, Result, IfSome, if◌then◌else◌, subst, sym}
use Rattle.std.proofs.lemmas.List.Elements.{All-push}
use Rattle.std.specs.Result.{is_ok}
use Rattle.recent.specs.Recent.{AreRead, IsRead}
use Rattle.recent.specs.declared.Read.{Read}
use Rattle.recent.proofs.no_texts.Goals as goal

-- one more place without a text
pushed : {A T E : Type 0} (Reads : List ℕ → Result T E → Type 0) (b : Bool)
    (ps : List (Option (Read A T))) → AreRead Reads ps →
    AreRead Reads (if b then ps ++ None ∷ [] else ps)
pushed {A} {T} Reads true ps all =
    All-push (λ (p : Option (Read A T)). IfSome p (IsRead Reads)) ps None all tt
pushed Reads false ps all = all

pub loop-preserved : goal.loop-preserved
loop-preserved g c =
    subst (λ ps. AreRead g.T.Shared.reads ps) (sym c.push.ensures.items)
    (pushed g.T.Shared.reads (is_ok c.push.result) _ c.loop.invariant)
