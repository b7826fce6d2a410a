use Rattle.std.proofs.Common.{◌∙◌, Err, ap}
use Rattle.nesting.specs.Switch.{mode_of}
use Rattle.nesting.proofs.Choosing.{exact_takes, glob_takes, long_glob}
use Rattle.state.proofs.Reaches.{same_reaches}
use Rattle.nesting.proofs.switch.takes.Goals as goal

pub returns-in-Exact : goal.returns-in-Exact
returns-in-Exact g c = λ s next.
    same_reaches (exact_takes c.args.pattern.now c.args.text.now s next _ c.eq.result
    (ap mode_of c.in-Exact.is) c.eq.ensures)

pub returns-in-Ok : goal.returns-in-Ok
returns-in-Ok g c = λ s next.
    glob_takes c.args.pattern.now c.args.text.now s next _ _ c.whole.result
    (ap mode_of c.in-Glob.is)
    (λ long. let told = c.plain.ensures.too_long.1 long in cc) c.in-Ok.ensures.value
    c.whole.ensures

pub returns-in-Err-TooLong : goal.returns-in-Err-TooLong
returns-in-Err-TooLong g c = λ s next.
    same_reaches (long_glob c.args.pattern.now c.args.text.now s next _ (ap mode_of c.in-Glob.is)
    (c.plain.ensures.too_long.0 (c.in-Err-TooLong.is ∙ ap Err c.in-Err-TooLong.field-0-is)))
