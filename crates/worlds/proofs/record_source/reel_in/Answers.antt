use Rattle.std.proofs.Common.{◌≡◌, IfSome, subst}
use Rattle.replays.specs.Reel.{reeled_in}
use Rattle.worlds.specs.RecordSource.{IsReelOf}
use Rattle.worlds.proofs.record_source.reel_in.Goals as goal

pub returns-in-Ok : goal.returns-in-Ok
returns-in-Ok g c =
    let same : c.in-Ok.path.now ≡ c.args.name.now = search (c.in-Ok.ensures.cases) in
    subst (λ name. IfSome c.reel_at.result (λ reel. IsReelOf g.F.File.Reader.left
    (g.F.Folder.opens c.args.files.now) name (reeled_in reel))) same c.reel_at.ensures
