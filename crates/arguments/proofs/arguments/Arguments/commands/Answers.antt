use Rattle.std.proofs.Common.{◌∷◌, ◌++◌, [], ap, ◌∙◌}
use Rattle.arguments.specs.Arguments.{lines, name_of, setting_of, texts}
use Rattle.arguments.proofs.Readings.{all_lines, no_line, one_line, one_more, other_name}
use Rattle.arguments.proofs.arguments.Arguments.commands.Goals as goal

pub options-preserved-in_ok-push : goal.options-preserved-in_ok-push
options-preserved-in_ok-push g c =
    let (done, words, put) = c.options.invariant in (
      done ++ setting_of c.in-Some.setting ∷ [],
      one_more done (setting_of c.in-Some.setting) (texts c.args.self.now.options.now)
          (texts c.options.rest.now) (texts c.in-Some.behind.now) words c.in-Some.ensures.found,
      one_line done (setting_of c.in-Some.setting) c.options.text.items c.push.new.self.items
          (ap name_of c.in-Command.is) put
          (c.in_ok-push.ensures.items ∙ ap (λ text. text ++ 10 ∷ [])
          c.in_ok-extend_from_slice.ensures.items),
    )

pub options-preserved : goal.options-preserved
options-preserved g c =
    let (done, words, put) = c.options.invariant in (
      done ++ setting_of c.in-Some.setting ∷ [],
      one_more done (setting_of c.in-Some.setting) (texts c.args.self.now.options.now)
          (texts c.options.rest.now) (texts c.in-Some.behind.now) words c.in-Some.ensures.found,
      no_line done (setting_of c.in-Some.setting) c.options.text.items
          (other_name c.in-Some.setting.name c.in_default-name.not-Command) put,
    )

pub returns : goal.returns
returns g c = λ call holds.
    let (done, words, put) = c.options.invariant in
    all_lines (texts c.args.self.now.options.now) (texts c.options.rest.now) done holds.settings
    c.options.text.items words c.in_default.ensures.none put holds.options
    ∙ ap lines holds.commands
