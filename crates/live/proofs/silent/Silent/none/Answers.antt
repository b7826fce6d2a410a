use Rattle.std.proofs.Common.{◌≡◌, ◌<◌, ◌∙◌, Option, Some, None, sym, subst}
use Rattle.std.proofs.lemmas.List.{get_or-replicate, length-replicate}
use Rattle.std.proofs.lemmas.Option.{get_or_from_slice_get, slice_get_within}
use lib.ListN.{replicate}
use Rattle.live.proofs.silent.Silent.none.Goals as goal
use Rattle.live.specs.Silent.{IsSilent, place}
use Rattle.acts.specs.declared.id.Id.{Id}

pub returns : goal.returns
returns c = λ id silent.
    let nobody : Option Id = None in
    let below : place id < 64 =
    subst (λ n. place id < n) (length-replicate 64 nobody)
    (slice_get_within (replicate 64 nobody) (place id) (Some id) silent) in
    let is : nobody ≡ Some id =
    sym (get_or-replicate 64 (place id) nobody nobody below)
    ∙ get_or_from_slice_get (replicate 64 nobody) (place id) (Some id) nobody silent in
    cc is
