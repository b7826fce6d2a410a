-- What the commands do that end a part of a script, or the whole run.
use Rattle.std.specs.Prelude.{ℕ, pos, List, [], ◌∷◌, codes, Result, Ok, Err}
use Rattle.state.specs.Prelude.{Flaw, bind, Code, Outcome, Leaves, Stops, Break, Continue, Return}
use Rattle.acts.specs.Flaw as flaw
use Rattle.kinds.specs.Words.{number}
use Rattle.leaving.specs.ExpContinue.{exp_continue}
use Rattle.leaving.specs.declared.exits.Exit.{Exit}
use Rattle.leaving.specs.declared.exits.Exit.TheVariants as by
use Rattle.state.specs.Outcome as ending

-- a command without words leaves by a code (break(n), continue(n))
abbrev pub plain : Code → List ℕ → List (List ℕ) → Result Outcome Flaw
plain code command [] = Ok (Leaves code [])
plain code command _ = Err (flaw.WrongArgs command)

-- return ?v? (return(n))
abbrev pub returns : List (List ℕ) → Result Outcome Flaw
returns [] = Ok (Leaves Return [])
returns (v ∷ []) = Ok (Leaves Return v)
returns _ = Err (flaw.WrongArgs (codes "return"))

-- error t (error(n))
abbrev pub error : List (List ℕ) → Result Outcome Flaw
error (t ∷ []) = Ok (Leaves ending.Error t)
error _ = Err (flaw.WrongArgs (codes "error"))

-- exit ?n? (exit(n))
abbrev pub exit : List (List ℕ) → Result Outcome Flaw
exit [] = Ok (Stops (ending.Exit (pos 0)))
exit (w ∷ []) = bind (number w) (λ n. Ok (Stops (ending.Exit n)))
exit _ = Err (flaw.WrongArgs (codes "exit"))

-- what each does by the words after its name (the manual pages of these names; expect(1),
-- exp_continue)
abbrev pub leaves : Exit → List (List ℕ) → Result Outcome Flaw
leaves by.Break args = plain Break (codes "break") args
leaves by.Continue args = plain Continue (codes "continue") args
leaves by.Return args = returns args
leaves by.Error args = error args
leaves by.Exit args = exit args
leaves by.ExpContinue args = exp_continue args
