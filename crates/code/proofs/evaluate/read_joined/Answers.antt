use Rattle.std.proofs.Common.{◌≡◌, rules, subst}
use Rattle.code.proofs.Fronts.{alone}
use Rattle.pure.specs.Concat.{concatenated}
use Rattle.code.proofs.evaluate.read_joined.Goals as goal

pub returns : goal.returns
returns g c =
    let args = c.args.args.now in
    let joined = c.in_ok-joined.joined in
    let only = alone args c.in-len1.len_at_least c.in-len1.len_below in
    let all : joined ≡ concatenated args = search rules in
    (only.0, only.1, subst (λ texts. joined ≡ concatenated texts) only.1 all)
