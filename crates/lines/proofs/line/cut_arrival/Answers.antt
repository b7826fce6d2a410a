use Rattle.std.proofs.Common.{◌++◌, ◌∷◌, codes, drop, length, take, refl, sym, ap, ◌∙◌, take-append-drop, arith}
use Rattle.std.proofs.lemmas.List.{append_assoc, length-take-le}
use Rattle.acts.specs.Id.{id_text}
use Rattle.hex.specs.Hex.{encode_lower}
use Rattle.lines.proofs.Arrivals.{arrival_cut, arrival_joined, bytes_end, spelled}
use Rattle.lines.proofs.Cuts.{no_prefix, prefix_split}
use Rattle.lines.proofs.line.cut_arrival.Goals as goal

pub returns-in_err-id : goal.returns-in_err-id
returns-in_err-id c = rw c.from_residual.ensures (λ n bytes rest below small e.
    c.in_err-id.ensures.none n (32 ∷ (encode_lower bytes ++ 10 ∷ rest)) below refl
    (e ∙ append_assoc (id_text n) (32 ∷ encode_lower bytes) (10 ∷ rest)))

pub returns-in_err-behind : goal.returns-in_err-behind
returns-in_err-behind c = rw c.from_residual-in_err-behind.ensures (λ n bytes rest below small e.
    let (id, cut, ends) = c.in_ok-id.ensures.spelled in
    let behind = (arrival_cut c.args.text.now c.in_ok-id.after_id.now c.in_ok-id.id.0 n bytes rest id
    below ends cut e).1 in
    no_prefix c.in_ok-id.after_id.now (codes " ") (encode_lower bytes ++ 10 ∷ rest)
    c.in_err-behind.ensures.cases behind)

pub returns-in_err-rest : goal.returns-in_err-rest
returns-in_err-rest c = rw c.from_residual-in_err-rest.ensures (λ n bytes rest below small e.
    let (id, cut, ends) = c.in_ok-id.ensures.spelled in
    let (test, is, room) = c.in_ok-behind.ensures.cases in
    let blank = (arrival_cut c.args.text.now c.in_ok-id.after_id.now c.in_ok-id.id.0 n bytes rest id
    below ends cut e).1 in
    let (count, end) = bytes_end c.in_ok-behind.behind.now c.count_digits.result bytes rest small
    c.count_digits.ensures.lower c.count_digits.ensures.other (is ∙ ap (drop 1) blank) in
    no_prefix c.split_at.result.1.now (codes "\n") rest c.in_err-rest.ensures.cases
    (c.split_at.ensures.back ∙ end))

pub returns-then-digits-eq0 : goal.returns-then-digits-eq0
returns-then-digits-eq0 c =
    let (id, cut, ends) = c.in_ok-id.ensures.spelled in
    let (blank, is, room) = c.in_ok-behind.ensures.cases in
    let behind = c.in_ok-behind.behind.now in
    let count = c.count_digits.result in
    let (test, end, more) = c.in_ok-rest.ensures.cases in
    let front = c.split_at.ensures.front in
    let long = ap length front in
    let (bytes, small, spells) = spelled (take count behind) c.count_digits.ensures.lower
    (omega (arith, c.if-digits-eq0.true, long)) in (
      id,
      bytes,
      small,
      front ∙ spells,
      arrival_joined c.args.text.now behind (take count behind) c.split_at.result.1.now
          c.in_ok-rest.rest.now bytes c.in_ok-id.id.0
          (cut ∙ ap (λ rest. id_text c.in_ok-id.id.0 ++ rest)
          (prefix_split c.in_ok-id.after_id.now (codes " ") behind blank is))
          (sym (take-append-drop count behind)
          ∙ ap (λ l. take count behind ++ l) (sym c.split_at.ensures.back))
          (prefix_split c.split_at.result.1.now (codes "\n") c.in_ok-rest.rest.now test end) spells,
    )

pub returns-else-digits-eq0 : goal.returns-else-digits-eq0
returns-else-digits-eq0 c = λ n bytes rest below small e.
    let (id, cut, ends) = c.in_ok-id.ensures.spelled in
    let (test, is, room) = c.in_ok-behind.ensures.cases in
    let behind = c.in_ok-behind.behind.now in
    let blank = (arrival_cut c.args.text.now c.in_ok-id.after_id.now c.in_ok-id.id.0 n bytes rest id
    below ends cut e).1 in
    let (count, end) = bytes_end behind c.count_digits.result bytes rest small
    c.count_digits.ensures.lower c.count_digits.ensures.other (is ∙ ap (drop 1) blank) in
    let long = length-take-le c.count_digits.result behind c.count_digits.ensures.within in
    absurd (c.if-digits-eq0.false (omega (arith, long, count)))
