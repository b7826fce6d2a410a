-- What is run as a code of its own, once it runs.
use Rattle.std.specs.Prelude.{ℕ, List, [], ◌∷◌}
use Rattle.code.specs.Doing.{doing_of}
use Rattle.code.specs.declared.made.Entry.{Entry}
use Rattle.code.specs.declared.made.Entry.TheVariants as entry
use Rattle.code.specs.declared.made.Made.{Made}
use Rattle.code.specs.declared.made.Made.TheVariants as made
use Rattle.expects.specs.Expect.{by_name}
use Rattle.nesting.specs.Doing.{done}
use Rattle.runs.specs.Scripts.{script}
use Rattle.state.specs.Evaluated.{evaluated}
use Rattle.state.specs.Prelude.{Course, Status, gives}
use Rattle.state.specs.Words.{words}

-- after a value, the commands of a script; or a formula, which takes no value and gives its own
-- (Tcl(n), rule 1; expr(n))
abbrev pub run_of : {A : Type 0} → Made A → ℕ → Status → List ℕ → Course
run_of (made.Script tree) levels s value = script levels tree.commands tree.fault s value
run_of (made.Formula formula) levels s value =
    evaluated levels formula s (λ t given. gives given t)

-- the same, or the words of an argument in braces of the command whose name the value is; or what a
-- command does, which takes no value (expect(1), expect; if(n); while(n); for(n); catch(n))
abbrev pub entered : {A : Type 0} → Entry A → ℕ → Status → List ℕ → Course
entered (entry.Made it) levels s value = run_of it levels s value
entered (entry.Argument ws) levels s value = words levels ws (value ∷ []) s (by_name levels)
entered (entry.Does doing) levels s value = done (doing_of doing) levels s
