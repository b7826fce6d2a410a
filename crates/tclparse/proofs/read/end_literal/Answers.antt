use Rattle.std.proofs.Common.{rules, ◌≡◌, [], ◌∷◌, ◌++◌, ap, ◌∙◌}
use Rattle.tclparse.specs.Tree.{bytes_then}
use Rattle.tclparse.specs.View.{parts_then}
use Rattle.tclparse.specs.declared.tree.Part.{Literal}
use Rattle.tclparse.proofs.Trees.{parts_push, view_Literal}
use Rattle.tclparse.proofs.read.end_literal.Goals as goal

pub returns-in_ok-push-clause-parts : goal.returns-in_ok-push-clause-parts
returns-in_ok-push-clause-parts g c = λ t.
    let parts = c.args.parts.now.items in
    let value = c.in_ok-value.value in
    let pushed : c.push.new.self.items ≡ parts ++ Literal value ∷ [] = search rules in
    let bytes : value ≡ c.args.literal.now.items = search rules in
    ap (λ l. parts_then l t) pushed ∙ parts_push parts (Literal value) t
    ∙ ap (parts_then parts) (view_Literal _ value t ∙ ap (λ v. bytes_then v t) bytes)
