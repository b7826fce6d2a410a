use Rattle.std.proofs.Common.{◌++◌, ◌∷◌, [], Some, None, refl, sym, ap, ◌∙◌}
use Rattle.std.proofs.lemmas.List.{append_assoc}
use Rattle.records.proofs.passing.pass_entry.Goals as goal

pub returns-in_default : goal.returns-in_default
returns-in_default c =
    let (reply, line, is, cut) = rw c.in-Some-pass_first.is at c.pass_first.ensures in (
      record { rows = None; reply = reply },
      line ++ 10 ∷ [],
      (line, is, refl),
      refl,
      cut ∙ sym (append_assoc line (10 ∷ []) c.in-Some-pass_first.rest.now),
    )

pub returns : goal.returns
returns c =
    let rest = c.in-Some-pass_first-2.rest.now in
    let (rows, wait, told, cut) = rw c.in-Some.is at c.pass_wait.ensures in
    let (reply, line, is, behind) = rw c.in-Some-pass_first-2.is at c.pass_first-2.ensures in
    let answer = line ++ 10 ∷ [] in (
      record { rows = Some rows; reply = reply },
      wait ++ 10 ∷ answer,
      (wait, answer, told, (line, is, refl), refl),
      refl,
      cut ∙ ap (λ text. wait ++ 10 ∷ text) (behind ∙ sym (append_assoc line (10 ∷ []) rest))
          ∙ sym (append_assoc wait (10 ∷ answer) rest),
    )
