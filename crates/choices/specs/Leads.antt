-- What is sought first of what a branch waits for.
use Rattle.std.specs.Prelude.{◌≡◌, Option, Some, None}
use Rattle.patterns.specs.Item.{Reading}
use Rattle.choices.specs.Branches.{Awaited, Sought}
use Rattle.searches.specs.Lead.{IsLead}
use Rattle.searches.specs.declared.lead.Lead.{Lead}

-- what is sought first of what a branch waits for, where it is known (this project's own rule)
abbrev pub Leads : {A : Type 0} → Awaited → Option (Lead A) → Type 0
Leads awaited None = Unit {0}
Leads awaited (Some lead) = (p : Reading) → awaited ≡ Sought p → IsLead p lead
