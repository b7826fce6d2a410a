-- The code of formulas.
use Rattle.std.proofs.Common.{◌≡◌, ◌∙◌, ℕ, ◌+◌, List, [], ◌∷◌, ◌++◌, length, sym, ap, subst, arith}
use Rattle.std.specs.Prelude.{slice_set}
use Rattle.std.proofs.lemmas.List.{length-set}
use Rattle.code.specs.Blocks.{ArgumentsBlock, Block, Extends, FormulaBlock, Keeps, LinkBlock, LinksBlock, PartsBlock, RightBlock}
use Rattle.code.specs.Code.{At, FormulaAt, LinksAt, ArgumentsAt, number, parts, called, prefixed, in_row, chosen, no_more, both, and_also, or_else, no_argument, argument}
use Rattle.code.specs.declared.instruction.Instruction.{Instruction}
use Rattle.code.specs.declared.instruction.Instruction.TheVariants as i
use Rattle.code.proofs.Built.{extended, filled, filled_after, holes, kept_on, kept_then, longer, onward, same, stands, stands_filled}
use Rattle.code.proofs.Forks.{filled_length, forked, second_begins}
use Rattle.tclparse.specs.Formula.{Formula, numeral, text, call, prefix, row, choice, Links, no_links, link, Formulas, no_formulas, formula}
use Rattle.tclparse.specs.Tree.{Parts}
use Rattle.tclparse.specs.declared.operator.Binary.{Binary}
use Rattle.tclparse.specs.declared.operator.Function.{Function}
use Rattle.tclparse.specs.declared.operator.Infix.TheVariants.{Both, AndAlso, OrElse}
use Rattle.tclparse.specs.declared.operator.Unary.{Unary}

module _ {A : Type 0} where
  pub numeral_block : (old new : List (Instruction A)) (digits : List ℕ) (f : Formula) →
      new ≡ old ++ i.Numeral digits ∷ [] → f ≡ numeral digits → FormulaBlock old new f
  numeral_block old new digits f put is = record {
    extends = extended old new (i.Numeral digits) put;
    lies = λ later kept.
        subst (λ g. FormulaAt later (length old) g (length new)) (sym is)
        (subst (λ n. FormulaAt later (length old) (numeral digits) n)
        (sym (longer old new (i.Numeral digits) put))
        (number (stands old new later (i.Numeral digits) tt put kept)));
  }

  pub parts_block : (old new : List (Instruction A)) (ps : Parts) (f : Formula) →
      PartsBlock old new ps → f ≡ text ps → FormulaBlock old new f
  parts_block old new ps f block is = record {
    extends = block.extends;
    lies = λ later kept.
        subst (λ g. FormulaAt later (length old) g (length new)) (sym is)
        (parts (block.lies later kept));
  }

  pub call_block : (old between new : List (Instruction A)) (function : Function) (fs : Formulas)
      (count : ℕ) (f : Formula) → ArgumentsBlock old between fs count →
      new ≡ between ++ i.Call function count ∷ [] → f ≡ call function fs →
      FormulaBlock old new f
  call_block old between new function fs count f block put is = record {
    extends = onward block.extends (extended between new (i.Call function count) put);
    lies = λ later kept.
        subst (λ g. FormulaAt later (length old) g (length new)) (sym is)
        (subst (λ n. FormulaAt later (length old) (call function fs) n)
        (sym (longer between new (i.Call function count) put))
        (called (block.lies later (kept_on (extended between new (i.Call function count) put) kept))
        (stands between new later (i.Call function count) tt put kept)));
  }

  pub prefix_block : (old between new : List (Instruction A)) (operator : Unary) (f g : Formula) →
      FormulaBlock old between f → new ≡ between ++ i.Prefix operator ∷ [] →
      g ≡ prefix operator f → FormulaBlock old new g
  prefix_block old between new operator f g block put is = record {
    extends = onward block.extends (extended between new (i.Prefix operator) put);
    lies = λ later kept.
        subst (λ h. FormulaAt later (length old) h (length new)) (sym is)
        (subst (λ n. FormulaAt later (length old) (prefix operator f) n)
        (sym (longer between new (i.Prefix operator) put))
        (prefixed (block.lies later (kept_on (extended between new (i.Prefix operator) put) kept))
        (stands between new later (i.Prefix operator) tt put kept)));
  }

  pub row_block : (old between new : List (Instruction A)) (f g : Formula) (ls : Links) →
      FormulaBlock old between f → LinksBlock between new ls → g ≡ row f ls →
      FormulaBlock old new g
  row_block old between new f g ls first others is = record {
    extends = onward first.extends others.extends;
    lies = λ later kept.
        subst (λ h. FormulaAt later (length old) h (length new)) (sym is)
        (in_row (first.lies later (kept_on others.extends kept)) (others.lies later kept));
  }

  -- a test, and the two formulas of which it chooses one
  pub choice_block : (old tested hole chosen_one two filled_one all new : List (Instruction A))
      (test one other f : Formula) → FormulaBlock old tested test →
      hole ≡ tested ++ i.Hole ∷ [] → FormulaBlock hole chosen_one one →
      two ≡ chosen_one ++ i.Hole ∷ [] →
      filled_one ≡ slice_set two (length tested) (i.Unless (length two)) →
      FormulaBlock filled_one all other →
      new ≡ slice_set all (length chosen_one) (i.Jump (length all)) → f ≡ choice test one other →
      FormulaBlock old new f
  choice_block old tested hole chosen_one two filled_one all new test one other f tests put_one
      first put_two fill_one second fill_two is =
      let fork = forked tested hole chosen_one two filled_one all new (λ n. i.Unless n) (λ n. tt)
      (λ later. FormulaAt later (length hole) one (length chosen_one))
      (λ later. FormulaAt later (length filled_one) other (length all))
      put_one first put_two fill_one second fill_two in
      record {
        extends = onward tests.extends fork.extends;
        lies = λ later kept.
            let lies = fork.lies later kept in
            subst (λ h. FormulaAt later (length old) h (length new)) (sym is)
            (chosen (tests.lies later (kept_on fork.extends kept)) lies.0
            (subst (λ k. FormulaAt later k one (length chosen_one))
            (longer tested hole i.Hole put_one) lies.1)
            lies.2
            (subst (λ k. FormulaAt later (length chosen_one + 1) other k)
            (sym (filled_length all new (length chosen_one) (i.Jump (length all)) fill_two))
            (subst (λ k. FormulaAt later k other (length all))
            (second_begins chosen_one two filled_one (length tested) (i.Unless (length two)) put_two
            fill_one)
            lies.3)));
      }

  -- a hole, a right operand, and its truth value
  pub right_block : (old hole between new : List (Instruction A)) (f : Formula) →
      hole ≡ old ++ i.Hole ∷ [] → FormulaBlock hole between f →
      new ≡ between ++ i.Truth ∷ [] → RightBlock old new f
  right_block old hole between new f put block last = record {
    hole = (extended between new i.Truth last).kept (length old) i.Hole
        (block.extends.kept (length old) i.Hole (holes old hole put));
    mid = length between;
    ends = longer between new i.Truth last;
    block = record {
      extends = onward (extended old hole i.Hole put)
          (onward block.extends (extended between new i.Truth last));
      lies = λ later kept. (
        subst (λ n. FormulaAt later n f (length between)) (longer old hole i.Hole put)
            (block.lies later (kept_on (extended between new i.Truth last) kept)),
        stands between new later i.Truth tt last kept,
      );
    };
  }

  -- an operator of which both operands are evaluated
  pub both_block : (old between new : List (Instruction A)) (operator : Binary) (f : Formula)
      (front : Links → Links) → FormulaBlock old between f →
      new ≡ between ++ i.Binary operator ∷ [] →
      ((t : Links) → front t ≡ link (Both operator) f t) → LinkBlock old new front
  both_block old between new operator f front block put is = record {
    extends = onward block.extends (extended between new (i.Binary operator) put);
    lies = λ later kept t end rest.
        subst (λ ls. LinksAt later (length old) ls end) (sym (is t))
        (both (block.lies later (kept_on (extended between new (i.Binary operator) put) kept))
        (stands between new later (i.Binary operator) tt put kept)
        (subst (λ n. LinksAt later n t end) (longer between new (i.Binary operator) put) rest));
  }

  -- && and ||, once their jump is filled
  pub and_block : (old between new : List (Instruction A)) (f : Formula) (front : Links → Links) →
      RightBlock old between f →
      new ≡ slice_set between (length old) (i.AndAlso (length between)) →
      ((t : Links) → front t ≡ link AndAlso f t) → LinkBlock old new front
  and_block old between new f front right fill is =
      let jump = i.AndAlso (length between) in
      let long : length new ≡ right.mid + 1 =
      ap length fill ∙ length-set between (length old) jump ∙ right.ends in
      record {
        extends = subst (λ code. Extends old code) (sym fill)
            (filled_after old between (length old) jump (omega arith) right.block.extends);
        lies = λ later kept t end rest.
            let kept_right : Keeps between later =
            kept_then (subst (λ code. Keeps between code) (sym fill)
            (filled between (length old) jump right.hole)) kept in
            let lies = right.block.lies later kept_right in
            subst (λ ls. LinksAt later (length old) ls end) (sym (is t))
            (and_also
            (subst (λ k. At later (length old) (i.AndAlso k)) right.ends
            (stands_filled between later (length old) jump tt right.hole
            (subst (λ code. Keeps code later) fill kept)))
            lies.0 lies.1 (subst (λ n. LinksAt later n t end) long rest));
      }

  pub or_block : (old between new : List (Instruction A)) (f : Formula) (front : Links → Links) →
      RightBlock old between f →
      new ≡ slice_set between (length old) (i.OrElse (length between)) →
      ((t : Links) → front t ≡ link OrElse f t) → LinkBlock old new front
  or_block old between new f front right fill is =
      let jump = i.OrElse (length between) in
      let long : length new ≡ right.mid + 1 =
      ap length fill ∙ length-set between (length old) jump ∙ right.ends in
      record {
        extends = subst (λ code. Extends old code) (sym fill)
            (filled_after old between (length old) jump (omega arith) right.block.extends);
        lies = λ later kept t end rest.
            let kept_right : Keeps between later =
            kept_then (subst (λ code. Keeps between code) (sym fill)
            (filled between (length old) jump right.hole)) kept in
            let lies = right.block.lies later kept_right in
            subst (λ ls. LinksAt later (length old) ls end) (sym (is t))
            (or_else
            (subst (λ k. At later (length old) (i.OrElse k)) right.ends
            (stands_filled between later (length old) jump tt right.hole
            (subst (λ code. Keeps code later) fill kept)))
            lies.0 lies.1 (subst (λ n. LinksAt later n t end) long rest));
      }

  -- The operators that are left: where they lie, all of them lie.
  abbrev pub LinksLeft : List (Instruction A) → List (Instruction A) → Links → Links → Type 0
  LinksLeft old new rest whole = Block old new (λ later.
      (end : ℕ) → LinksAt later (length new) rest end → LinksAt later (length old) whole end)

  pub all_links : (code : List (Instruction A)) (ls : Links) → LinksLeft code code ls ls
  all_links code ls = record { extends = same code; lies = λ later kept end lies. lies }

  pub link_left : (old before new : List (Instruction A)) (front : Links → Links)
      (some rest whole : Links) → LinksLeft old before some whole →
      LinkBlock before new front → some ≡ front rest → LinksLeft old new rest whole
  link_left old before new front some rest whole left block is = record {
    extends = onward left.extends block.extends;
    lies = λ later kept end lies.
        left.lies later (kept_on block.extends kept) end
        (subst (λ ls. LinksAt later (length before) ls end) (sym is)
        (block.lies later kept rest end lies));
  }

  pub links_block : (old new : List (Instruction A)) (rest whole : Links) →
      LinksLeft old new rest whole → rest ≡ no_links → LinksBlock old new whole
  links_block old new rest whole left is = record {
    extends = left.extends;
    lies = λ later kept. left.lies later kept (length new)
        (subst (λ ls. LinksAt later (length new) ls (length new)) (sym is) no_more);
  }

  -- The arguments that are left, after this many: where they lie, all of them lie.
  abbrev pub ArgumentsLeft : ℕ → List (Instruction A) → List (Instruction A) → Formulas →
      Formulas → Type 0
  ArgumentsLeft done old new rest whole = Block old new (λ later.
      (count end : ℕ) → ArgumentsAt later (length new) rest count end →
      ArgumentsAt later (length old) whole (count + done) end)

  pub all_arguments : (code : List (Instruction A)) (fs : Formulas) →
      ArgumentsLeft 0 code code fs fs
  all_arguments code fs = record {
    extends = same code;
    lies = λ later kept count end lies.
        subst (λ n. ArgumentsAt later (length code) fs n end) (omega arith) lies;
  }

  pub argument_left : (done : ℕ) (old before new : List (Instruction A)) (f : Formula)
      (some rest whole : Formulas) → ArgumentsLeft done old before some whole →
      FormulaBlock before new f → some ≡ formula f rest →
      ArgumentsLeft (done + 1) old new rest whole
  argument_left done old before new f some rest whole left block is = record {
    extends = onward left.extends block.extends;
    lies = λ later kept count end lies.
        subst (λ n. ArgumentsAt later (length old) whole n end)
        (omega arith)
        (left.lies later (kept_on block.extends kept) (count + 1) end
        (subst (λ fs. ArgumentsAt later (length before) fs (count + 1) end) (sym is)
        (argument (block.lies later kept) lies)));
  }

  pub arguments_block : (done : ℕ) (old new : List (Instruction A)) (rest whole : Formulas) →
      ArgumentsLeft done old new rest whole → rest ≡ no_formulas →
      ArgumentsBlock old new whole done
  arguments_block done old new rest whole left is = record {
    extends = left.extends;
    lies = λ later kept. subst (λ n. ArgumentsAt later (length old) whole n (length new))
        (omega arith)
        (left.lies later kept 0 (length new)
        (subst (λ fs. ArgumentsAt later (length new) fs 0 (length new)) (sym is) no_argument));
  }
