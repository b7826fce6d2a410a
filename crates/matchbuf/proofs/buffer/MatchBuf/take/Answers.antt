use Rattle.std.proofs.Common.{drop, sym, ap, ◌∙◌}
use Rattle.matchbuf.specs.Held.{Held, held}
use Rattle.matchbuf.proofs.Parts.{drop-between}
use Rattle.matchbuf.proofs.Windows.{fits_consumed}
use Rattle.matchbuf.proofs.buffer.MatchBuf.take.Goals as goal

pub returns-clause-value : goal.returns-clause-value
returns-clause-value g c =
    let b = c.self.inside in
    ap (λ bytes. held bytes b.size) (sym (drop-between c.args.n b.begin b.end b.ring.items))
    ∙ ap (λ (h : Held). held (drop c.args.n h.bytes) h.max) c.self.view_is

pub returns-clause-fits : goal.returns-clause-fits
returns-clause-fits g c = λ j fits. rw (returns-clause-value g c)
    (fits_consumed j c.args.self.now c.args.n c.requires fits)
