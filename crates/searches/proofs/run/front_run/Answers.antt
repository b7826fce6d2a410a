use Rattle.std.proofs.Common.{refl}
use Rattle.std.proofs.lemmas.List.{take_rest}
use Rattle.searches.proofs.Scans.{scan_goes, scan_ends}
use Rattle.searches.proofs.run.front_run.Goals as goal

pub loop-more-preserved : goal.loop-more-preserved
loop-more-preserved c =
    scan_goes c.args.text.now _ c.loop-more.end c.loop-more.size c.in-Some.more _ _
    c.loop-more.invariant (take_rest c.args.text.now c.loop-more.end) refl refl c.in-Some.ensures

pub returns : goal.returns
returns c =
    scan_ends c.args.text.now c.split_at.result.0.now c.split_at.result.1.now c.loop-more.end
    c.loop-more.size c.loop-more.invariant c.split_at.ensures.front c.split_at.ensures.back
