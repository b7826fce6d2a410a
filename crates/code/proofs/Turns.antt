-- The code of the turns of a loop.
use Rattle.std.proofs.Common.{◌≡◌, ℕ, ◌+◌, List, [], ◌∷◌, ◌++◌, Option, Some, None, length, codes, sym, subst, arith}
use Rattle.std.specs.Prelude.{slice_set}
use Rattle.code.specs.Blocks.{BodyBlock, Extends, ExpressionBlock, ItsBlock, Keeps, StepBlock, TurnsBlock}
use Rattle.code.specs.Code.{At, BodyAt, ExpressionAt, HasFormula, StepAt, TurnsAt, for_loop, no_step, steps, turns}
use Rattle.code.specs.declared.instruction.Instruction.{Instruction}
use Rattle.code.specs.declared.instruction.Instruction.TheVariants as i
use Rattle.code.proofs.Built.{extended, filled, filled_after, holes, kept_on, kept_then, longer, onward, stands, stands_filled}
use Rattle.code.proofs.Forks.{filled_length}

module _ {A : Type 0} where
  -- the end of a turn, where no script runs after it
  pub no_step_block : (old new : List (Instruction A)) (step : Option (List ℕ)) → step ≡ None →
      new ≡ old ++ i.EndTurn ∷ [] → StepBlock old new step
  no_step_block old new step none put =
      subst (λ s. StepBlock old new s) (sym none) (record {
        extends = extended old new i.EndTurn put;
        lies = λ later kept. subst (λ n. StepAt later (length old) None n)
            (sym (longer old new i.EndTurn put))
            (no_step (stands old new later i.EndTurn tt put kept));
      })

  -- the script that runs after each turn, and the end of a turn
  pub step_block : (old entered between new : List (Instruction A)) (text : List ℕ) →
      entered ≡ old ++ i.Step ∷ [] → BodyBlock entered between text →
      new ≡ between ++ i.EndTurn ∷ [] → StepBlock old new (Some text)
  step_block old entered between new text enters inside put =
      let entering = extended old entered i.Step enters in
      let ending = extended between new i.EndTurn put in record {
        extends = onward entering (onward inside.extends ending);
        lies = λ later kept.
            let on = kept_on ending kept in
            subst (λ n. StepAt later (length old) (Some text) n)
            (sym (longer between new i.EndTurn put))
            (steps (stands old entered later i.Step tt enters (kept_on inside.extends on))
            (subst (λ n. BodyAt later n text (length between)) (longer old entered i.Step enters)
            (inside.lies later on))
            (stands between new later i.EndTurn tt put kept));
      }

  -- a body, after a jump to the test, and what stands after it; and a test, after which a turn
  -- begins
  pub turns_block : (old hole bodied stepped filled_one tested turned new : List (Instruction A))
      (test : List ℕ) (step : Option (List ℕ)) (body : List ℕ) → HasFormula test →
      hole ≡ old ++ i.Hole ∷ [] → BodyBlock hole bodied body →
      StepBlock bodied stepped step →
      filled_one ≡ slice_set stepped (length old) (i.Jump (length stepped)) →
      ExpressionBlock filled_one tested test →
      turned ≡ tested ++ i.Turn (length hole) (length bodied) ∷ [] →
      new ≡ turned ++ i.Text [] ∷ [] → TurnsBlock old new test step body
  turns_block old hole bodied stepped filled_one tested turned new test step body is put_hole
      bodies ends fill tests put_turn put_over =
      let n = length old in
      let jump : Instruction A = i.Jump (length stepped) in
      let turn : Instruction A = i.Turn (length hole) (length bodied) in
      let turning = extended tested turned turn put_turn in
      let over = extended turned new (i.Text []) put_over in
      let at_body : length hole ≡ n + 1 = longer old hole i.Hole put_hole in
      let hole_at : At stepped n i.Hole =
      ends.extends.kept n i.Hole (bodies.extends.kept n i.Hole (holes old hole put_hole)) in
      let up_to_stepped =
      onward (extended old hole i.Hole put_hole) (onward bodies.extends ends.extends) in
      let up_to_filled : Extends old filled_one =
      subst (λ code. Extends old code) (sym fill)
      (filled_after old stepped n jump (omega arith) up_to_stepped) in
      record {
        extends = onward up_to_filled (onward tests.extends (onward turning over));
        lies = λ later kept.
            let kept_turned = kept_on over kept in
            let kept_tested = kept_on turning kept_turned in
            let kept_filled = kept_on tests.extends kept_tested in
            let kept_stepped : Keeps stepped later =
            kept_then
            (subst (λ code. Keeps stepped code) (sym fill) (filled stepped n jump hole_at))
            kept_filled in
            let ends_at : length new ≡ length tested + 2 =
            omega (
              arith,
              longer turned new (i.Text []) put_over,
              longer tested turned turn
                  put_turn,
            ) in
            subst (λ k. TurnsAt later n test step body k) (sym ends_at)
            (turns is
            (stands_filled stepped later n jump tt hole_at
            (subst (λ code. Keeps code later) fill kept_filled))
            (subst (λ k. BodyAt later k body (length bodied)) at_body
            (bodies.lies later (kept_on ends.extends kept_stepped)))
            (ends.lies later kept_stepped)
            (subst (λ k. ExpressionAt later k test (length tested))
            (filled_length stepped filled_one n jump fill) (tests.lies later kept_tested))
            (subst (λ k. At later (length tested) (i.Turn k (length bodied))) at_body
            (stands tested turned later turn tt put_turn kept_turned))
            (subst (λ k. At later k (i.Text [])) (longer tested turned turn put_turn)
            (stands turned new later (i.Text []) tt put_over kept)));
      }

  -- a start, whose value is dropped, and turns
  pub for_block : (old started dropped new : List (Instruction A))
      (start test step body : List ℕ) → BodyBlock old started start →
      dropped ≡ started ++ i.Discard ∷ [] → TurnsBlock dropped new test (Some step) body →
      ItsBlock (codes "for") old new (start ∷ test ∷ step ∷ body ∷ [])
  for_block old started dropped new start test step body starts put repeats =
      let dropping = extended started dropped i.Discard put in record {
        extends = onward starts.extends (onward dropping repeats.extends);
        lies = λ later kept.
            let kept_dropped = kept_on repeats.extends kept in
            for_loop (starts.lies later (kept_on dropping kept_dropped))
            (stands started dropped later i.Discard tt put kept_dropped)
            (subst (λ n. TurnsAt later n test (Some step) body (length new))
            (longer started dropped i.Discard put) (repeats.lies later kept));
      }
