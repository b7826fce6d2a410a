use Rattle.pure.proofs.lindex.at.Goals as goal

pub returns-in-Some : goal.returns-in-Some
returns-in-Some g c = c.at_number.ensures c.args.index.now c.in-Some.ensures.place
