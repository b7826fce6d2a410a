use Rattle.std.proofs.Common.{◌≡◌, ◌∙◌, ◌∷◌, drop, length, refl, sym, ap, subst, rules, arith}
use Rattle.commands.proofs.Words.{first_word, no_word}
use Rattle.commands.specs.Began.{Begins}
use Rattle.commands.specs.Commands as plain
use Rattle.runs.specs.Commands.{command}
use Rattle.state.proofs.Reaches.{same_reaches, then_reaches}
use Rattle.state.specs.Prelude.{gives}
use Rattle.steps.proofs.Named.{command_none}
use Rattle.steps.proofs.at_once.perform.Goals as goal

pub returns-in_default-clause-done : goal.returns-in_default-clause-done
returns-in_default-clause-done g c = λ levels s fits.
    let words = c.args.words.now in
    let zero : length words ≡ 0 = search (rules, arith) in
    record {
      status = s;
      fits = fits;
      reaches = same_reaches (command_none levels words s (no_word words zero)
          ∙ ap (λ v. gives v s) (sym c.empty.ensures));
    }

pub returns-in-Has-clause-done : goal.returns-in-Has-clause-done
returns-in-Has-clause-done g c = λ levels s fits.
    let words = c.args.words.now in
    let name = c.as_slice.result.now in
    let split : words ≡ name ∷ drop 1 words =
    first_word words c.name-item.result c.in-len1-up.len_at_least c.name-item.is
    ∙ ap (λ it. it ∷ drop 1 words) (sym c.as_slice.ensures) in
    let same : command levels s words ≡ plain.command s words =
    ap (λ ws. command levels s ws) split
    ∙ c.if-is_begun_elsewhere.ensures levels s (drop 1 words) fits.procedures refl
    ∙ ap (λ ws. plain.command s ws) (sym split) in
    let shown = subst (λ b. Begins (plain.command s words) b (drop 1 words) s c.begin.new.state)
    c.in-Has.is (c.in_ok-outcome.ensures.begins s fits) in
    record {
      status = shown.status;
      fits = shown.fits;
      reaches = then_reaches (same_reaches same) shown.reaches;
    }

pub returns-in-Asks-clause-done : goal.returns-in-Asks-clause-done
returns-in-Asks-clause-done g c = λ levels s fits.
    let words = c.args.words.now in
    (subst (λ b. Begins (plain.command s words) b (drop 1 words) s c.begin.new.state)
    c.in-Asks.is (c.in_ok-outcome.ensures.begins s fits)).1
