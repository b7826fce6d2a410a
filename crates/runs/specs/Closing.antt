-- What a run does once its script is over (this project's own rule).
use Rattle.std.specs.Prelude.{ℕ, pos, Bool, true, false, List, [], ◌∷◌, ◌++◌}
use Rattle.state.specs.Prelude.{Deed, Reply, text_of, Peer, Ends, Asks, Dialogue, Outcome, Gives, Leaves, Stops, Code, Error, Return, Break, Continue, Again, AgainRunning, Status}
use Rattle.acts.specs.Deed as said
use Rattle.acts.specs.Flaw as flaw
use Rattle.choices.specs.Peers.{opened}
use Rattle.runs.specs.Ending.{Ending, Over, With, Unfit, stopped}
use Rattle.runs.specs.Ending as ending
use Rattle.state.specs.Dialogue.{judged}
use Rattle.state.specs.Outcome as stop

-- an act that closes a run, and what is done with its answer, where it fits
abbrev pub does : Deed → (Reply → Dialogue Over) → Dialogue Over
does deed next = Asks deed (λ reply. judged stopped deed reply (next reply))

-- an open log is closed (expect(1), log_file)
abbrev pub closes_log : Bool → Ending → Dialogue Over
closes_log false e = Ends (With e)
closes_log true e = does said.CloseLog (λ reply. Ends (With e))

-- each open id is closed, in the order of the numbers, and then the log (expect(1), close)
abbrev pub closes : Bool → List Peer → Ending → Dialogue Over
closes log [] e = closes_log log e
closes log (p ∷ ps) e = does (said.Close p.id) (λ reply. closes log ps e)

-- all that is open is closed, and the run ends with this end
abbrev pub ends_with : Ending → Status → Dialogue Over
ends_with e s = closes s.log.logging (opened s.ids.peers) e

-- the end after an uncaught error: its text was written to standard error, or could not be
abbrev pub reported : List ℕ → Reply → Ending
reported text (said.Failed sent) = ending.WriterFailed
reported text _ = ending.Error text

-- the text of an uncaught error is written first
abbrev pub reports : List ℕ → Status → Dialogue Over
reports text s = does (said.Err (text ++ 10 ∷ [])) (λ reply. ends_with (reported text reply) s)

-- a code that no command catches: an error, the end of the script by return(n), and what is an
-- error outside of its command (break(n), continue(n); expect(1), exp_continue)
abbrev pub leaves : Code → List ℕ → Status → Dialogue Over
leaves Error text s = reports text s
leaves Return value s = ends_with (ending.Exit (pos 0)) s
leaves Break value s = reports (text_of flaw.BreakOutside) s
leaves Continue value s = reports (text_of flaw.ContinueOutside) s
leaves Again value s = reports (text_of flaw.AgainOutside) s
leaves AgainRunning value s = reports (text_of flaw.AgainOutside) s

-- the run is closed by the outcome of its script; after a wrong answer, or where there are no more
-- answers, there is no act
abbrev pub closing : Status → Outcome → Dialogue Over
closing s (Gives value) = ends_with (ending.Exit (pos 0)) s
closing s (Leaves code value) = leaves code value s
closing s (Stops (stop.Exit status)) = ends_with (ending.Exit status) s
closing s (Stops stop.Limit) = ends_with ending.Limit s
closing s (Stops stop.WriterFailed) = ends_with ending.WriterFailed s
closing s (Stops stop.BadAnswer) = Ends Unfit
closing s (Stops stop.NoMore) = Ends (With ending.NoMore)
