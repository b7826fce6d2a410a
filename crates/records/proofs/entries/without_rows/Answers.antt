use Rattle.std.proofs.Common.{◌≡◌, ◌∷◌, [], ◌++◌, List, length, map, refl, sym, ap, ◌∙◌, append_assoc, append-nil, arith}
use Rattle.std.specs.Vec.Iter.{into_iter_items}
use Rattle.std.proofs.lemmas.List.{map_push}
use Rattle.acts.specs.Deed.{reply_of}
use Rattle.records.specs.Entry.{note_of, plain_note}
use Rattle.records.proofs.entries.without_rows.Goals as goal

nothing_left : {X : Type 0} (l : List X) → length l ≡ 0 → l ≡ []
nothing_left [] h = refl
nothing_left (x ∷ xs) h = absurd (omega arith)

pub loop-answer-preserved : goal.loop-answer-preserved
loop-answer-preserved g c =
    let at = c.loop-answer in
    let x = c.in-Some.answer in
    let (whole, plain, count) = at.invariant in
    let steps : into_iter_items at.answer-iterator ≡ x ∷ into_iter_items c.next.new.self =
    c.in-Some.ensures.steps.0 in (
      append_assoc at.yielded (x ∷ []) _ ∙ rw (← steps) whole,
      ap (map note_of) c.in_ok-push.ensures.items ∙ map_push note_of at.entries.items _
          ∙ ap (λ front. front ++ plain_note (reply_of x) ∷ []) plain
          ∙ sym (map_push plain_note (map reply_of at.yielded) (reply_of x))
          ∙ ap (map plain_note) (sym (map_push reply_of at.yielded x)),
      let gone = c.in-Some.ensures.steps.1 in
          let short = ap length steps in
          omega (arith, count, gone, short),
    )

pub returns : goal.returns
returns g c =
    let at = c.loop-answer in
    let (whole, plain, count) = at.invariant in
    let none = c.in-None.ensures.steps in
    let empty : into_iter_items at.answer-iterator ≡ [] = nothing_left _ (sym count ∙ none.0) in
    let all = sym (append-nil at.yielded) ∙ rw empty at whole
    ∙ c.into_iter-answer-iterator.ensures.into_iter_gives.0 in
    plain ∙ ap (λ xs. map plain_note (map reply_of xs)) all
