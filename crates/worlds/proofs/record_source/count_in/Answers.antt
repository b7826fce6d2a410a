use Rattle.worlds.proofs.RecordFiles.{counted}
use Rattle.worlds.proofs.record_source.count_in.Goals as goal

pub returns-in-Ok : goal.returns-in-Ok
returns-in-Ok g c =
    counted g.F.File.Reader.left (g.F.Folder.opens c.args.files.now) c.args.path.now
    c.in_ok-entries.entries.source c.count.new.self.source c.in-Ok.count
    c.in_ok-entries.ensures.opens c.in-Ok.ensures.gives
