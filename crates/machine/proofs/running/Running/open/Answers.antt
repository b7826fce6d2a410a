use Rattle.machine.specs.declared.running.Running.{Running}
use Rattle.machine.proofs.Below.{opened}
use Rattle.machine.proofs.running.Running.open.Goals as goal

pub returns : goal.returns
returns g c =
    let old = c.args.self.now in
    let new : Running g.row.A.Denot =
    record {
      frames = c.replace-frames.new.dest;
      code = c.replace-code.new.dest;
      parts = c.push.new.self;
      parsed = old.parsed;
    } in
    opened old new c.args.run c.args.frames c.replace-frames.result c.replace-code.result
    c.replace-frames.ensures.value c.replace-code.ensures.value c.in_ok-push.ensures.items
    c.replace-frames.ensures.after c.replace-code.ensures.after
