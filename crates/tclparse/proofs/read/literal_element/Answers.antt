use Rattle.std.proofs.Common.{rules, ◌≡◌, ap, ◌∙◌}
use Rattle.tclparse.specs.Tree.{no_parts, element, bytes_then}
use Rattle.tclparse.specs.View.{parts_then}
use Rattle.tclparse.proofs.Trees.{view_Element}
use Rattle.tclparse.proofs.read.literal_element.Goals as goal

pub returns-clause-part : goal.returns-clause-part
returns-clause-part g c = λ t.
    let name = c.in_ok-name.name in
    let inside = parts_then c.in_ok-index.index.value.items no_parts in
    let index : inside ≡ bytes_then c.args.index.now no_parts =
    c.in_ok-index.ensures.parts no_parts ∙ ap (λ l. bytes_then l no_parts) (search rules) in
    view_Element name c.in_ok-index.index t ∙ ap (λ n. element n inside t) (search rules)
    ∙ ap (λ i. element c.args.name.now i t) index
