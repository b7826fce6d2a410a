use Rattle.std.proofs.Common.{subst}
use Rattle.std.specs.Prelude.{option_map}
use Rattle.worlds.proofs.WordChains.{ends}
use Rattle.worlds.proofs.input.read_words.Goals as goal

pub returns-in-None : goal.returns-in-None
returns-in-None g c =
    ends (g.R.ArgumentList.gives c.args.rt.now) c.loop-place.place c.loop-place.words.items
    c.loop-place.invariant
    (subst (λ word. g.R.ArgumentList.gives c.args.rt.now c.loop-place.place
    (option_map (λ one. one.items) word)) c.in-None.is c.in_ok-word.ensures)
