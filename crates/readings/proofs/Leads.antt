-- What is sought first of the pattern of a branch.
use Rattle.std.proofs.Common.{◌≡◌, Bool, List, ℕ, Some, refl, sym, ◌∙◌, ap, subst}
use Rattle.patterns.specs.Item.{Reading}
use Rattle.choices.specs.Branches.{Awaited, Sought, FullBuffer, Eof, Timeout, Default}
use Rattle.choices.specs.Leads.{Leads}
use Rattle.searches.specs.Lead.{IsLead, pattern_by, sought_by}
use Rattle.searches.specs.declared.lead.Lead.{Lead}
use Rattle.searches.specs.declared.style.Style.{Style}
use Rattle.searches.specs.declared.style.Style.TheVariants as style
use Rattle.readings.specs.Parts.{Seeks}
use Rattle.readings.specs.Reads.{awaited_by}
use Rattle.readings.specs.Signs.{style_of}

sought_in : Reading → Awaited → Reading
sought_in p (Sought q) = q
sought_in p FullBuffer = p
sought_in p Eof = p
sought_in p Timeout = p
sought_in p Default = p

-- the pattern of a branch that seeks a text
pub pattern_of : (folds : Bool) (style : Style) (text : List ℕ) (p : Reading) →
    Sought p ≡ awaited_by folds (Seeks (style_of style) text) →
    p ≡ sought_by folds (pattern_by style text)
unfolding sought_in
pattern_of folds style.Glob text p is = ap (sought_in p) is
pattern_of folds style.Exact text p is = ap (sought_in p) is

-- what is sought first of the one pattern that a branch seeks
pub led : {A : Type 0} (awaited : Awaited) (q : Reading) (lead : Lead A) → awaited ≡ Sought q →
    IsLead q lead → Leads awaited (Some lead)
unfolding sought_in
led awaited q lead is leads = λ p other.
    let same : q ≡ p = ap (sought_in q) (sym is ∙ other) in
    subst (λ (x : Reading). IsLead x lead) same leads
