use Rattle.std.proofs.Common.{◌≡◌, ◌∙◌, ◌++◌, ◌∷◌, [], ap, subst, sym}
use Rattle.choices.specs.Lines.{fresh_line, listing, number_after, row_of_line}
use Rattle.choices.specs.Views.{line_by, kind_of}
use Rattle.choices.proofs.Changes.{fits_opened}
use Rattle.choices.proofs.Rising.{IsSound, next_given, sound_opened}
use Rattle.choices.proofs.table.Table.open.Given.{Over}
use Rattle.choices.proofs.table.Table.open.Goals as goal

-- the line that is opened
opened : (g : Over) (c : goal.After-self-1 g) → c.in_ok-entry.entry
    ≡ fresh_line c.in-Some.id (kind_of c.args.kind) c.args.max c.args.drops_nulls
opened g c =
    c.in_ok-entry.ensures
    ∙ ap (λ h. line_by c.in-Some.id (kind_of c.args.kind) h c.args.drops_nulls) c.in_ok-buffer.ensures

-- the lines, with the one that is opened
lines : (g : Over) (c : goal.After-self-1 g) → c.push_entry.new.entries.items
    ≡ c.args.self.now.lines ++ fresh_line c.in-Some.id (kind_of c.args.kind) c.args.max c.args.drops_nulls ∷ []
lines g c =
    c.in_ok-push_entry.ensures.items
    ∙ ap (λ ls. ls ++ c.in_ok-entry.entry ∷ []) (ap (λ t. t.lines) c.self.view_is)
    ∙ ap (λ l. c.args.self.now.lines ++ l ∷ []) (opened g c)

-- the rows, with that of the line that is opened
rows : (g : Over) (c : goal.After-self-1 g) → c.push_entry.new.rows.items
    ≡ c.self.inside.rows.items ++ row_of_line (fresh_line c.in-Some.id (kind_of c.args.kind)
    c.args.max c.args.drops_nulls) ∷ []
rows g c =
    c.in_ok-push_entry.ensures.rows
    ∙ ap (λ l. c.self.inside.rows.items ++ row_of_line l ∷ []) (opened g c)

pub returns-clause-fits : goal.returns-clause-fits
returns-clause-fits g c =
    fits_opened c.in-Some.id (kind_of c.args.kind) c.args.max c.args.drops_nulls
    c.args.self.now.lines c.push_entry.new.entries.items (lines g c)

pub returns-clause-listing : goal.returns-clause-listing
returns-clause-listing g c =
    let next = c.number_after-self-inside.ensures
    ∙ ap (λ t. number_after t.next) c.self.view_is in
    λ j. listing (lines g c j) (next j)

pub invariant_of-self-2 : goal.invariant_of-self-2
invariant_of-self-2 g c =
    let l = fresh_line c.in-Some.id (kind_of c.args.kind) c.args.max c.args.drops_nulls in
    let old = c.self.inside.rows.items in
    let given = next_given c.args.self.now c.in-Some.id c.in-Some.ensures in
    let sound : IsSound c.args.self.now.lines old c.args.self.now.next =
    subst (λ t. IsSound t.lines old t.next) c.self.view_is c.self.invariant in
    let next = c.number_after-self-inside.ensures
    ∙ ap (λ t. number_after t.next) c.self.view_is in
    subst (λ o. IsSound c.push_entry.new.entries.items c.push_entry.new.rows.items o) (sym next)
    (subst (λ ls. IsSound ls c.push_entry.new.rows.items (number_after c.args.self.now.next))
    (sym (lines g c))
    (subst (λ rs. IsSound (c.args.self.now.lines ++ l ∷ []) rs (number_after c.args.self.now.next))
    (sym (rows g c))
    (sound_opened c.args.self.now.lines l old c.args.self.now.next given.room given.is sound)))
