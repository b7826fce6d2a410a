use Rattle.std.proofs.Common.{◌++◌, ◌∷◌, [], refl, sym, ap, ◌∙◌}
use Rattle.std.proofs.lemmas.List.{append_assoc}
use Rattle.records.proofs.entries.read_entry.Goals as goal

pub returns-in_default : goal.returns-in_default
returns-in_default g c =
    let (line, is, cut) = rw c.in-Some-2.is at c.in_ok-answer.ensures in (
      line ++ 10 ∷ [],
      (line, is, refl),
      cut
          ∙ sym (append_assoc line (10 ∷ []) c.in-Some-2.rest.now),
    )

pub returns : goal.returns
returns g c =
    let rest = c.in-Some-3.rest.now in
    let (wait, told, cut) = rw c.in-Some.is at c.in_ok-rows.ensures in
    let (line, is, behind) = rw c.in-Some-3.is at c.in_ok-answer-2.ensures in
    let answer = line ++ 10 ∷ [] in (
      wait ++ 10 ∷ answer,
      (wait, answer, told, (line, is, refl), refl),
      cut ∙ ap (λ text. wait ++ 10 ∷ text) (behind ∙ sym (append_assoc line (10 ∷ []) rest))
          ∙ sym (append_assoc wait (10 ∷ answer) rest),
    )
