-- The code of foreach.
use Rattle.std.proofs.Common.{◌≡◌, ◌∙◌, ℕ, suc, ◌+◌, ◌<◌, true, List, [], ◌∷◌, ◌++◌, length, drop, get_or, sym, ap, subst, arith, add-one, drop-cons}
use Rattle.std.specs.Prelude.{slice_set}
use Rattle.code.specs.Blocks.{AssignsBlock, Block, BodyBlock, DealBlock, ForeachBlock, NextBlock, OwnBlock, PartsBlock}
use Rattle.code.specs.Code.{AreNames, AssignsAt, At, BodyAt, DealAt, NextAt, all_set, deals, foreach_loop, foreach_words, next_turn, sets, with_names}
use Rattle.code.specs.declared.instruction.Instruction.{Instruction}
use Rattle.code.specs.declared.instruction.Instruction.TheVariants as i
use Rattle.code.proofs.Built.{extended, kept_on, longer, onward, same, stands}
use Rattle.code.proofs.Forks.{filled_length}
use Rattle.code.proofs.Sequences.{filled_then, then_block, then_put}
use Rattle.tclparse.specs.Tree.{Parts}

-- the name at a place, and those after it
pub name_at : (names : List (List ℕ)) (i : ℕ) (name : List ℕ) → i < length names →
    name ≡ get_or names i name → drop i names ≡ name ∷ drop (i + 1) names
name_at names i name below is =
    drop-cons names i name below ∙ ap (λ y. y ∷ drop (suc i) names) (sym is)
    ∙ ap (λ j. name ∷ drop j names) (sym (add-one i))

module _ {A : Type 0} where
  -- The variables that are left: where they take an element each, all of them do.
  abbrev pub AssignsLeft : List (Instruction A) → List (Instruction A) → List (List ℕ) →
      List (List ℕ) → Type 0
  AssignsLeft old new rest whole = Block old new (λ later.
      (end : ℕ) → AssignsAt later (length new) rest end → AssignsAt later (length old) whole end)

  -- all variables are left
  pub all_names_left : (code : List (Instruction A)) (names : List (List ℕ)) →
      AssignsLeft code code names names
  all_names_left code names = record {
    extends = same code;
    lies = λ later kept end lies. lies;
  }

  -- after one more variable
  pub name_left : (old before new : List (Instruction A)) (name : List ℕ)
      (some rest whole : List (List ℕ)) → AssignsLeft old before some whole →
      new ≡ before ++ i.Assign name ∷ [] → some ≡ name ∷ rest → AssignsLeft old new rest whole
  name_left old before new name some rest whole left put is =
      let it : Instruction A = i.Assign name in
      let more = extended before new it put in record {
        extends = onward left.extends more;
        lies = λ later kept end lies.
            left.lies later (kept_on more kept) end
            (subst (λ names. AssignsAt later (length before) names end) (sym is)
            (sets (stands before new later it tt put kept)
            (subst (λ n. AssignsAt later n rest end) (longer before new it put) lies)));
      }

  -- no variable is left
  pub assigns_block : (old new : List (Instruction A)) (rest whole : List (List ℕ)) →
      AssignsLeft old new rest whole → rest ≡ [] → AssignsBlock old new whole
  assigns_block old new rest whole left is = record {
    extends = left.extends;
    lies = λ later kept. left.lies later kept (length new)
        (subst (λ names. AssignsAt later (length new) names (length new)) (sym is) all_set);
  }

  -- what begins a turn, and the end of the loop
  pub next_block : (old hole assigned begun filled_one new : List (Instruction A))
      (names : List (List ℕ)) (body ends : ℕ) → hole ≡ old ++ i.Hole ∷ [] →
      AssignsBlock hole assigned names → begun ≡ assigned ++ i.Begin body ends ∷ [] →
      filled_one ≡ slice_set begun (length old) (i.More (length begun)) →
      new ≡ filled_one ++ i.Done ∷ [] → NextBlock old new names body ends
  next_block old hole assigned begun filled_one new names body ends put_hole assigns put_begin fill
      put_done =
      let n = length old in
      let turn = length assigned in
      let begin : Instruction A = i.Begin body ends in
      let more : Instruction A = i.More (length begun) in
      let at_turn : length begun ≡ turn + 1 = longer assigned begun begin put_begin in
      let at_done : length filled_one ≡ turn + 1 =
      filled_length begun filled_one n more fill ∙ at_turn in
      let all = then_put old filled_one new i.Done
      (λ later. At later n more × (AssignsAt later (length hole) names turn × At later turn begin))
      tt
      (filled_then old hole begun filled_one more
      (λ later. AssignsAt later (length hole) names turn × At later turn begin) tt put_hole
      (then_put hole assigned begun begin (λ later. AssignsAt later (length hole) names turn) tt
      assigns put_begin)
      fill)
      put_done in
      let ends_at : length new ≡ turn + 2 =
      omega (arith, longer filled_one new i.Done put_done, at_done) in
      record {
        extends = all.extends;
        lies = λ later kept.
            let lies = all.lies later kept in
            subst (λ k. NextAt later n names body ends k) (sym ends_at)
            (next_turn (subst (λ k. At later n (i.More k)) at_turn lies.0.0)
            (subst (λ k. AssignsAt later k names turn) (longer old hole i.Hole put_hole) lies.0.1.0)
            lies.0.1.1
            (subst (λ k. At later k i.Done) at_done lies.1));
      }

  -- the elements, the body, and what begins a turn
  pub deal_block : (old hole bodied ended filled_one new : List (Instruction A))
      (names : List (List ℕ)) (text : List ℕ) → hole ≡ old ++ i.Hole ∷ [] →
      BodyBlock hole bodied text → ended ≡ bodied ++ i.EndTurn ∷ [] →
      filled_one ≡ slice_set ended (length old) (i.Deal (length ended)) →
      NextBlock filled_one new names (length hole) (length bodied) → DealBlock old new names text
  deal_block old hole bodied ended filled_one new names text put_hole bodies put_end fill next =
      let n = length old in
      let mid = length bodied in
      let deal : Instruction A = i.Deal (length ended) in
      let at_body : length hole ≡ n + 1 = longer old hole i.Hole put_hole in
      let at_end : length ended ≡ mid + 1 = longer bodied ended i.EndTurn put_end in
      let at_next : length filled_one ≡ mid + 1 =
      filled_length ended filled_one n deal fill ∙ at_end in
      let all = then_block old filled_one new
      (λ later. At later n deal × (BodyAt later (length hole) text mid × At later mid i.EndTurn))
      (λ later. NextAt later (length filled_one) names (length hole) mid (length new))
      (filled_then old hole ended filled_one deal
      (λ later. BodyAt later (length hole) text mid × At later mid i.EndTurn) tt put_hole
      (then_put hole bodied ended i.EndTurn (λ later. BodyAt later (length hole) text mid) tt bodies
      put_end)
      fill)
      next in
      record {
        extends = all.extends;
        lies = λ later kept.
            let lies = all.lies later kept in
            deals (subst (λ k. At later n (i.Deal k)) at_end lies.0.0)
            (subst (λ k. BodyAt later k text mid) at_body lies.0.1.0) lies.0.1.1
            (subst (λ k. NextAt later (mid + 1) names k mid (length new)) at_body
            (subst (λ k. NextAt later k names (length hole) mid (length new)) at_next lies.1));
      }

  -- the turns, where no procedure hides the command
  pub each_block : (old hole dealt new : List (Instruction A)) (variables body : List ℕ)
      (names : List (List ℕ)) → AreNames variables names → hole ≡ old ++ i.Hole ∷ [] →
      DealBlock hole dealt names body →
      new ≡ slice_set dealt (length old) (i.Foreach variables body (length dealt)) →
      ForeachBlock old new variables body
  each_block old hole dealt new variables body names are put_hole dealing fill =
      let n = length old in
      let it : Instruction A = i.Foreach variables body (length dealt) in
      let at_deal : length hole ≡ n + 1 = longer old hole i.Hole put_hole in
      let at_end : length dealt ≡ length new = sym (filled_length dealt new n it fill) in
      let all = filled_then old hole dealt new it
      (λ later. DealAt later (length hole) names body (length dealt)) tt put_hole dealing fill in
      record {
        extends = all.extends;
        lies = λ later kept.
            let lies = all.lies later kept in
            with_names are (subst (λ k. At later n (i.Foreach variables body k)) at_end lies.0)
            (subst (λ k. DealAt later (n + 1) names body k) at_end
            (subst (λ k. DealAt later k names body (length dealt)) at_deal lies.1));
      }

  -- the list before that
  pub listed_block : (old listed new : List (Instruction A)) (variables body : List ℕ)
      (list : Parts) → PartsBlock old listed list → ForeachBlock listed new variables body →
      OwnBlock true old new (foreach_words variables list body)
  listed_block old listed new variables body list lists turns = record {
    extends = onward lists.extends turns.extends;
    lies = λ later kept. foreach_loop (lists.lies later (kept_on turns.extends kept))
        (turns.lies later kept);
  }
