use Rattle.std.proofs.Common.{◌≡◌, ◌++◌, sym, subst}
use Rattle.std.specs.Prelude.{OnOk, codes}
use Rattle.acts.specs.Deed.{deed_of}
use Rattle.teller.specs.Told.{about, sized}
use Rattle.teller.proofs.told.push_act.Goals as goal

pub returns-in-Err : goal.returns-in-Err
returns-in-Err g c =
    subst (λ act. OnOk c.push_written-in-Err.result (c.push_written-in-Err.new.out.items
    ≡ c.args.out.now.items ++ about (deed_of act))) (sym c.in-Err.is)
    (subst (λ bytes. OnOk c.push_written-in-Err.result (c.push_written-in-Err.new.out.items
    ≡ c.args.out.now.items ++ (codes "prints to standard error " ++ sized bytes)))
    c.deref-in-Err.ensures.value c.push_written-in-Err.ensures)
