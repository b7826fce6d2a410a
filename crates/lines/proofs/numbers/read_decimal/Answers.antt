use Rattle.std.proofs.Common.{[], length, decimal, append-nil, sym, ap, ◌∙◌, arith}
use Rattle.lines.proofs.Cuts.{some_left}
use Rattle.lines.proofs.Numerals.{same_number}
use Rattle.lines.proofs.numbers.read_decimal.Goals as goal

pub returns-in_err-number-clause-none : goal.returns-in_err-number-clause-none
returns-in_err-number-clause-none c = rw c.from_residual.ensures (λ n below e.
    c.in_err-number.ensures.none n [] below tt (e ∙ sym (append-nil (decimal n))))

pub returns-else-is_empty-clause-none : goal.returns-else-is_empty-clause-none
returns-else-is_empty-clause-none c = λ n below e.
    let (small, cut, ends) = c.in_ok-number.ensures.spelled in
    let rest = c.in_ok-number.rest.now in
    let none = (same_number c.in_ok-number.number n rest [] small below ends tt
    (sym cut ∙ e ∙ sym (append-nil (decimal n)))).1 in
    let some = some_left rest (sym c.is_empty.ensures ∙ c.if-is_empty.false) in
    absurd (omega (arith, some, ap length none))
