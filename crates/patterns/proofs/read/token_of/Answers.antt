use Rattle.std.proofs.Common.{ℕ, List, Bool, false, ap, ◌∙◌, slice_index_or}
use Rattle.patterns.specs.Item.{one_of}
use Rattle.patterns.specs.Glob.{ranges, is_in_ranges}
use Rattle.patterns.specs.Runs.{marked}
use Rattle.patterns.proofs.Sets.{all_bytes-filter}
use Rattle.patterns.proofs.read.token_of.Goals as goal

pub returns-in_ok-new-in-Set : goal.returns-in_ok-new-in-Set
returns-in_ok-new-in-Set g c =
    let table : List Bool = c.read_set.result in
    let text : List ℕ = c.in-Set.text.now in
    rw c.in-Set.is
    (ap (λ (t : List Bool). one_of (marked t)) c.in_ok-new-in-Set.ensures.ok
    ∙ ap one_of (all_bytes-filter (λ (b : ℕ). slice_index_or table b false)
    (is_in_ranges (ranges text)) c.read_set.ensures))
