use Rattle.machine.proofs.Stacks.{popped}
use Rattle.machine.proofs.frame.Frame.pop.Goals as goal

pub returns : goal.returns
returns g c =
    let frames = c.args.frames.now in
    popped c.pop.result frames.items c.pop.new.self.items frames.len frames.ok.0
    c.pop.ensures.items c.pop.ensures.variant
