use Rattle.std.proofs.Common.{refl}
use Rattle.matchbuf.proofs.Windows.{arrivals_join, consumptions_take, sizes_keep, windows_end, visible_at_end, gone_for_good, short_journals, windows_hold}
use Rattle.matchbuf.proofs.laws.window_laws.Goals as goal

pub returns : goal.returns
returns c = record {
  arrivals = arrivals_join;
  consumptions = consumptions_take;
  sizes = sizes_keep;
  end = windows_end;
  visible = visible_at_end;
  gone = gone_for_good;
  short_journals = short_journals;
  hold = windows_hold;
  rows = (refl, refl, refl, refl, refl, refl, refl, refl);
}
