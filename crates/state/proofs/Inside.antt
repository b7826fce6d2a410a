-- Scripts that run one level deeper.
use Rattle.std.proofs.Common.{◌≡◌, ℕ, List, refl}
use Rattle.acts.specs.Flaw as flaw
use Rattle.state.specs.Prelude.{text_of, inside, within, Outcome, Leaves, Course, Error, ScriptText, ScriptTree, Reaches, here, Status}
use Rattle.state.specs.Reaches.{reads}
use Rattle.tclparse.specs.Grammar.{IsScript}

-- a text is read as the script that it is
pub text_reaches : (script : ScriptTree) (levels : ℕ) (text : List ℕ) (s : Status)
    (next : Status → Outcome → Course) → IsScript script.commands script.fault text →
    Reaches (within levels text s next) (inside levels script s next)
text_reaches script levels text s next is = reads {text = ScriptText text} script is here

-- where no level is left, a script ends with the error that says so
pub inside_over : (levels : ℕ) (tree : ScriptTree) (s : Status)
    (next : Status → Outcome → Course) → levels ≡ 0 →
    inside levels tree s next ≡ next s (Leaves Error (text_of flaw.TooManyNested))
inside_over levels tree s next is = rw is refl
