use Rattle.std.proofs.Common.{◌≡◌, ◌∙◌, true, take, drop, ap, rules}
use Rattle.tcltext.specs.White.{ends_element}
use Rattle.tcltext.proofs.Taken.{bare_taken}
use Rattle.tcltext.proofs.list.taken.bare.Goals as goal

pub returns-then-ends_element-clause-element : goal.returns-then-ends_element-clause-element
returns-then-ends_element-clause-element c =
    let text = c.args.text.now in
    let white : ends_element c.split_at.result.1.now ≡ true = search rules in
    bare_taken text c.split_at.result.0.now c.split_at.result.1.now c.requires
    (c.split_at.ensures.front ∙ ap (λ n. take n text) c.plain_len.ensures.place)
    (c.split_at.ensures.back ∙ ap (λ n. drop n text) c.plain_len.ensures.place) white
