use Rattle.std.proofs.Common.{Err, ap, subst}
use Rattle.worlds.specs.Lacking.{IsUnreadScript}
use Rattle.worlds.specs.Texts.{IsScriptOf}
use Rattle.worlds.proofs.Scripts.{lacks_first, text_first}
use Rattle.worlds.proofs.program.text_of.Goals as goal

pub returns-in-Ok-clause-text : goal.returns-in-Ok-clause-text
returns-in-Ok-clause-text g c = λ asked holds.
    let is_of =
    IsScriptOf (g.F.Folder.opens c.args.files.now) g.F.File.Reader.left g.F.Standard.Reader.left in
    let (file, of_name, is) = c.in-Ok.ensures.text asked holds in (
      file,
      text_first is_of c.args.call.now.script.now c.in-Some.name.now asked.script file
          c.in-Some.ensures.value holds.script (subst (λ name. is_of name file)
          c.deref.ensures.value of_name),
      is,
    )

pub returns-in-Err-clause-lack : goal.returns-in-Err-clause-lack
returns-in-Err-clause-lack g c =
    let missing =
    IsUnreadScript (g.F.Folder.opens c.args.files.now) g.F.File.Reader.reads
    g.F.Standard.Reader.reads in
    lacks_first missing c.args.call.now.script.now c.in-Some.name.now c.deref-in-Err.result
    c.in-Err.fault c.of_file.result c.in-Some.ensures.value c.deref-in-Err.ensures.value
    c.of_file.ensures (λ is. subst missing c.deref.ensures.value (c.in-Err.ensures.refused (ap Err is)))
