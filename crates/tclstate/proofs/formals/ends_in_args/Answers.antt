use Rattle.std.proofs.Common.{◌≡◌, ◌-◌, length, sym, ap, ◌∙◌, arith}
use Rattle.std.specs.Str.{bytes_eq}
use Rattle.tclstate.specs.Formals.{args, takes_rest}
use Rattle.tclstate.proofs.Reading.{last_decides}
use Rattle.tclstate.proofs.formals.ends_in_args.Goals as goal

pub returns-in-len1-up : goal.returns-in-len1-up
returns-in-len1-up g c =
    let last : takes_rest c.args.formals.now ≡ bytes_eq c.last-item.result.name args =
    last_decides c.args.formals.now (length c.args.formals.now - 1) _ c.last-item.result
    (omega (arith, c.in-len1-up.len_at_least)) (sym c.last-item.is) in
    c.eq.ensures ∙ (λ i. bytes_eq ((c.as_slice.ensures ∙ ap (λ f. f.name) c.last.view_is) i)
    (c.as_slice-in-len1-up.ensures i)) ∙ sym last
