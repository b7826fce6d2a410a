use Rattle.std.proofs.Common.{◌∙◌, ◌||◌, sym, ap, Bool, false, slice_index_or}
use Rattle.std.proofs.Math.Bool.{or_assoc}
use Rattle.patterns.specs.Glob.{ranges, is_in_ranges, is_within}
use Rattle.patterns.proofs.set.read_set.Goals as goal

pub loop-one-init : goal.loop-one-init
loop-one-init c = λ b below. ap (λ (t : Bool). t || is_in_ranges (ranges c.args.text.now) b)
    (c.no_bytes-table.ensures b)

pub loop-one-preserved : goal.loop-one-preserved
loop-one-preserved c = λ b below.
    let rest = is_in_ranges (ranges c.in-Some.behind.now) b in
    let within = is_within b (c.in-Some.one, c.in-Some.other) in
    ap (λ (t : Bool). t || rest) (c.mark.ensures b below)
    ∙ or_assoc (slice_index_or c.loop-one.table b false) within rest
    ∙ ap (λ rs. slice_index_or c.loop-one.table b false || is_in_ranges rs b)
    (sym c.in-Some.ensures.range)
    ∙ c.loop-one.invariant b below
