use Rattle.std.proofs.Common.{◌∙◌}
use Rattle.nesting.proofs.Assigning.{assigned_named}
use Rattle.nesting.proofs.pair.set.Goals as goal

pub returns-in-Ok-2-clause-assigns : goal.returns-in-Ok-2-clause-assigns
returns-in-Ok-2-clause-assigns g c = λ s fits.
    let found = c.in-Ok.ensures.name in
    let kept = rw c.in-Ok-2.is at (c.in_ok-store.ensures.stores s fits) in
    record {
      status = record s { scopes = c.store.new.state.scopes };
      fits = kept.fits;
      same = λ next. assigned_named c.args.word.now _ _ c.args.value s next found ∙ kept.same next;
    }
