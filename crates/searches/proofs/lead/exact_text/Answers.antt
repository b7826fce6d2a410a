use Rattle.std.proofs.Common.{◌≡◌, ◌∙◌, Bool, ap, length, subst, arith}
use Rattle.patterns.specs.Glob.{exact}
use Rattle.patterns.specs.Item.{Reading}
use Rattle.patterns.specs.Passed.{Needs}
use Rattle.searches.specs.Lead.{sought_by}
use Rattle.searches.proofs.Leads.{needs_all}
use Rattle.searches.proofs.lead.exact_text.Goals as goal

pub returns-then-as_slice-text : goal.returns-then-as_slice-text
returns-then-as_slice-text g c =
    let text = c.args.text.now in
    let needed = c.needs-needed.result.now in
    let long : length needed ≡ length text =
    omega (arith, ap length c.as_slice.ensures, c.if-as_slice-text.true) in
    let needs = subst (λ (p : Reading). Needs p needed)
    (c.requires ∙ ap (λ (folds : Bool). sought_by folds (exact text)) c.if-not-folds.true)
    c.needs-needed.ensures in
    c.in_ok-share.ensures ∙ needs_all text needed needs long
