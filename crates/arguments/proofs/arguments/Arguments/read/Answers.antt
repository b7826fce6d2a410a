use Rattle.std.proofs.Common.{refl, subst, sym, ◌∙◌}
use Rattle.std.specs.Option.{option_copied}
use Rattle.arguments.specs.Arguments.{AreScript, AreTicks, Command, texts, values}
use Rattle.arguments.proofs.Readings.{call_begins, no_texts, no_words, none_of, only_call, same_limit, same_rest, same_texts, some_words}
use Rattle.arguments.proofs.arguments.Arguments.read.Goals.{else-is_empty-via-then-is_empty+else-not-options, else-is_empty-via-else-is_empty}
use Rattle.arguments.proofs.arguments.Arguments.read.Goals as goal

pub returns-in_err-options-clause-none : goal.returns-in_err-options-clause-none
returns-in_err-options-clause-none g c =
    none_of c.from_residual.result (λ call is.
    c.in_err-options.ensures.none is.settings is.rest call.replay call.made is.limit
    (call_begins (texts c.args.words.now) call is) (is.replays, is.makes, is.limits))

pub returns-in_err-limits-clause-none : goal.returns-in_err-limits-clause-none
returns-in_err-limits-clause-none g c =
    let (settings, begin, front, are) = c.in_ok-options.ensures.found in
    none_of c.from_residual-in_err-limits.result (λ call is.
    c.in_err-limits.ensures.none call.ticks (subst (λ limit. AreTicks limit call.ticks)
    (same_limit (texts c.args.words.now) settings (texts c.in_ok-options.behind.now)
    (option_copied c.in_ok-options.options.replay) (option_copied c.in_ok-options.options.made)
    (option_copied c.in_ok-options.options.limit) begin are.1 call is) is.ticks))

pub returns-in_err-script-clause-none : goal.returns-in_err-script-clause-none
returns-in_err-script-clause-none g c =
    let (settings, begin, front, are) = c.in_ok-options.ensures.found in
    none_of c.from_residual-in_err-script.result (λ call is.
    c.in_err-script.ensures.none call.script (subst (λ rest. AreScript rest call.script)
    (same_rest (texts c.args.words.now) settings (texts c.in_ok-options.behind.now)
    (option_copied c.in_ok-options.options.replay) (option_copied c.in_ok-options.options.made)
    (option_copied c.in_ok-options.options.limit) begin are.1 call is) is.script))

pub returns-then-not-options-clause-none : goal.returns-then-not-options-clause-none
returns-then-not-options-clause-none g c = λ call is.
    let (settings, begin, front, are) = c.in_ok-options.ensures.found in
    let words = texts c.args.words.now in
    let rest = texts c.in_ok-options.behind.now in
    let replay = option_copied c.in_ok-options.options.replay in
    let made = option_copied c.in_ok-options.options.made in
    let limit = option_copied c.in_ok-options.options.limit in
    is.given
    (same_texts words settings rest replay made limit begin are.1 call is
    ∙ no_texts c.in_ok-options.options.has_command (values Command settings) c.if-not-options.true
    are.0)
    (c.in_ok-script.ensures.only call.script (subst (λ rest. AreScript rest call.script)
    (same_rest words settings rest replay made limit begin are.1 call is) is.script)
    ∙ no_words c.in_ok-script.script.now (sym c.is_empty.ensures ∙ c.if-is_empty.true))

pub returns-clause-call : goal.returns-clause-call
returns-clause-call g c =
    let (settings, begin, front, are) = c.in_ok-options.ensures.found in
    let words = texts c.args.words.now in
    let rest = texts c.in_ok-options.behind.now in
    let replay = option_copied c.in_ok-options.options.replay in
    let made = option_copied c.in_ok-options.options.made in
    let limit = option_copied c.in_ok-options.options.limit in
    let script = texts c.in_ok-script.script.now in (
      record {
        commands = values Command settings;
        replay = replay;
        made = made;
        ticks = c.in_ok-limits.limits.ticks;
        script = script;
      },
      (
        record {
          settings = settings;
          limit = limit;
          rest = rest;
          spells = begin.spells;
          commands = refl;
          replays = are.1.0;
          makes = are.1.1;
          limits = are.1.2;
          ticks = c.in_ok-limits.ensures.limits;
          script = c.in_ok-script.ensures.script;
          given =
              elim c.else-is_empty.branch [
                | else-is_empty-via-then-is_empty+else-not-options w ↦ λ none. absurd (are.0.0
                    w.if-not-options.false none)
                | else-is_empty-via-else-is_empty w ↦ λ none. some_words c.in_ok-script.script.now
                    (sym c.is_empty.ensures ∙ w.if-is_empty.false)
              ];
        },
        only_call words settings rest replay made limit c.in_ok-limits.limits.ticks script begin are.1
            c.in_ok-limits.ensures.limits c.in_ok-script.ensures.only,
      ),
      record {
        settings = settings;
        options = front;
        commands = refl;
        replay = refl;
        made = refl;
        ticks = refl;
        script = refl;
      },
    )
