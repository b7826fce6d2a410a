use Rattle.std.proofs.Common.{◌≡◌, ◌∷◌, codes, subst}
use Rattle.expects.proofs.report.tell_match.Goals as goal
use Rattle.expects.specs.Parts.{Writes}
use Rattle.expects.specs.Told.{buffer_told, match_told, sets_all}

pub returns : goal.returns
returns g c =
    let is : (codes "0,string", c.in_ok-matched.matched)
    ∷ buffer_told c.args.id c.in_ok-buffer.buffer
    ≡ match_told c.args.found c.args.id c.args.buffer.items =
    cc (c.in_ok-matched.ensures, c.deref.ensures.value, c.in_ok-buffer.ensures) in
    subst (λ es. Writes (sets_all es c.args.scopes.now) c.set_all.result c.set_all.new.scopes) is
    c.set_all.ensures
