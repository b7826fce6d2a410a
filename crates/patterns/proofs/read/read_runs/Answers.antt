use Rattle.std.proofs.Common.{◌∙◌, Bool, [], ◌∷◌, ◌++◌, map, length, ap, sym, arith}
use Rattle.patterns.specs.Glob.{signs, item_of}
use Rattle.patterns.specs.Item.{Item, literal}
use Rattle.patterns.specs.Sign.{sign_of}
use Rattle.patterns.specs.Runs.{items_of_run, starred_items}
use Rattle.tcltext.proofs.Elements.{some_left, none_left}
use Rattle.patterns.proofs.RunItems.{read_item, read_star, read_tied, read_untied}
use Rattle.patterns.proofs.Signs.{dollar_after, dollar_last, dollar_read}
use Rattle.patterns.proofs.read.read_runs.Goals as goal
use Rattle.patterns.proofs.read.read_runs.Goals.{in-Some+then-may_tie+then-dollar+then-is_empty, in_default, else-may_tie-via-then-may_tie+then-dollar+else-is_empty, else-may_tie-via-then-may_tie+else-dollar, else-may_tie-via-else-may_tie}

pub loop-sign-preserved-in_ok-last-in-Some-2 : goal.loop-sign-preserved-in_ok-last-in-Some-2
loop-sign-preserved-in_ok-last-in-Some-2 g c =
    let text = c.args.text.now in
    let after = signs c.in-Some.after.now in
    let last = items_of_run c.loop-sign.last in
    let token = rw c.in-Some-2.is at c.in_ok-token.ensures in
    record {
      items = read_item c.loop-sign.starred.items last (items_of_run c.in_ok-last-in-Some-2.last)
          (sign_of c.in-Some.sign) (signs c.loop-sign.rest.now) after (map item_of (signs text))
          c.in-Some.ensures.sign (c.in_ok-last-in-Some-2.ensures
          ∙ ap (λ (x : Item). last ++ x ∷ []) token) c.loop-sign.invariant.items;
      dollar = ap (λ (b : Bool). dollar_after b after) c.is_dollar-dollar.ensures
          ∙ sym (ap (dollar_after c.loop-sign.dollar) c.in-Some.ensures.sign)
          ∙ c.loop-sign.invariant.dollar;
      untied = λ may none. elim c.else-may_tie.branch [
        | else-may_tie-via-then-may_tie+then-dollar+else-is_empty w ↦ absurd
            (omega (arith, some_left c.in-Some.after.now w.if-is_empty.ensures, ap length none))
        | else-may_tie-via-then-may_tie+else-dollar w ↦ w.if-dollar.false
        | else-may_tie-via-else-may_tie w ↦ absurd (cc (may, w.if-may_tie.false))
      ];
    }

pub loop-sign-preserved : goal.loop-sign-preserved
loop-sign-preserved g c =
    let text = c.args.text.now in
    let after = signs c.in-Some.after.now in
    let star = rw c.in-None.is at c.in_ok-token.ensures in
    record {
      items = read_star c.loop-sign.starred.items c.push.new.self.items c.loop-sign.last
          (map literal c.new-in-None.result.items) (sign_of c.in-Some.sign)
          (signs c.loop-sign.rest.now) after (map item_of (signs text))
          c.in-Some.ensures.sign star c.in_ok-push-in-None.ensures.items
          (ap (map literal) c.new-in-None.ensures.items) c.loop-sign.invariant.items;
      dollar = ap (λ (b : Bool). dollar_after b after) c.is_dollar-dollar.ensures
          ∙ sym (ap (dollar_after c.loop-sign.dollar) c.in-Some.ensures.sign)
          ∙ c.loop-sign.invariant.dollar;
      untied = λ may none. elim c.else-may_tie.branch [
        | else-may_tie-via-then-may_tie+then-dollar+else-is_empty w ↦ absurd
            (omega (arith, some_left c.in-Some.after.now w.if-is_empty.ensures, ap length none))
        | else-may_tie-via-then-may_tie+else-dollar w ↦ w.if-dollar.false
        | else-may_tie-via-else-may_tie w ↦ absurd (cc (may, w.if-may_tie.false))
      ];
    }

pub returns-clause-items : goal.returns-clause-items
returns-clause-items g c =
    let all = signs c.args.text.now in
    let rest = signs c.loop-sign.rest.now in
    let items = starred_items c.loop-sign.starred.items (items_of_run c.loop-sign.last) in
    elim c.match-next_sign.branch [
      | in-Some+then-may_tie+then-dollar+then-is_empty w ↦
          let after = signs w.in-Some.after.now in
          let none = ap signs (none_left w.in-Some.after.now w.if-is_empty.ensures) in
          let ends = dollar_last c.loop-sign.dollar (sign_of w.in-Some.sign) rest after all
          w.in-Some.ensures.sign none c.loop-sign.invariant.dollar in
          read_tied c.args.may_tie items (sign_of w.in-Some.sign) rest after all w.if-may_tie.true
          w.in-Some.ensures.sign none
          (ends ∙ sym w.is_dollar-dollar.ensures ∙ w.if-dollar.true) c.loop-sign.invariant.items
      | in_default w ↦
          let none = w.in_default.ensures.sign in
          let ends = dollar_read c.loop-sign.dollar rest all (ap signs none)
          c.loop-sign.invariant.dollar in
          read_untied c.args.may_tie c.loop-sign.dollar items rest all (ap signs none)
          (λ may. c.loop-sign.invariant.untied may none) ends c.loop-sign.invariant.items
    ]

pub returns-clause-dollar : goal.returns-clause-dollar
returns-clause-dollar g c =
    let all = signs c.args.text.now in
    let rest = signs c.loop-sign.rest.now in
    elim c.match-next_sign.branch [
      | in-Some+then-may_tie+then-dollar+then-is_empty w ↦
          let after = signs w.in-Some.after.now in
          let none = ap signs (none_left w.in-Some.after.now w.if-is_empty.ensures) in
          let ends = dollar_last c.loop-sign.dollar (sign_of w.in-Some.sign) rest after all
          w.in-Some.ensures.sign none c.loop-sign.invariant.dollar in
          w.dollar-is ∙ w.is_dollar-dollar.ensures ∙ sym ends
      | in_default w ↦
          let ends = dollar_read c.loop-sign.dollar rest all (ap signs w.in_default.ensures.sign)
          c.loop-sign.invariant.dollar in
          w.dollar-is ∙ sym ends
    ]
