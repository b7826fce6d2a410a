use Rattle.records.specs.Reading.{place_of, unused}
use Rattle.replays.specs.Reel.{reeled_in}
use Rattle.worlds.proofs.RecordFiles.{reel_of}
use Rattle.worlds.proofs.record_source.reel_at.Goals as goal

pub returns-in-Ok-true : goal.returns-in-Ok-true
returns-in-Ok-true g c =
    let again = c.in_ok-entries.entries in
    reel_of g.F.File.Reader.left (g.F.Folder.opens c.args.files.now) c.args.path.now
    c.in_ok-count.count again.source (unused again.ahead) (place_of c.begin.new.self)
    (reeled_in c.new.result) c.in_ok-count.ensures c.in_ok-entries.ensures.opens
    c.in_ok-entries.ensures.fresh.0 (c.in-Ok-true.ensures.header c.in-Ok-true.field-0-test)
    c.new.ensures
