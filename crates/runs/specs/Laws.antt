-- What holds of all runs.
use Rattle.std.specs.Prelude.{◌≡◌, ℕ, ◌≤◌, List, [], ◌∷◌, ◌++◌, length}
use Rattle.state.specs.Prelude.{Deed, Reply, Outcome, IsTree, Status}
use Rattle.acts.specs.History.{History}
use Rattle.choices.specs.Lines.{Rise}
use Rattle.choices.specs.Peers.{numbers_of, opened}
use Rattle.plan.specs.Answers.{GoAlike, answers}
use Rattle.plan.specs.Last.{ClosesAt}
use Rattle.plan.specs.Runs.{Runs}
use Rattle.runs.specs.Bounds.{BeginsRun, most_acts}
use Rattle.runs.specs.Closed.{closed_by}
use Rattle.runs.specs.Closing.{closing}
use Rattle.runs.specs.Ending.{Ending, Over}
use Rattle.runs.specs.Run.{Run, HoldsThroughout}
use Rattle.runs.specs.Scripts.{plan_of}
use Rattle.state.specs.Cut.{CutsOff}

-- in all runs of one script, its arguments and a limit each event depends on the answers before it
-- alone
abbrev pub AnswersLead : Type 0
AnswersLead =
    (text : List ℕ) (args : List (List ℕ)) (limit : ℕ) (h k : History) (e f : Ending) →
    Run text args limit h e → Run text args limit k f → GoAlike h e k f

-- two runs of one script, its arguments and a limit that give the same answers are one
abbrev pub AnswersDecide : Type 0
AnswersDecide =
    (text : List ℕ) (args : List (List ℕ)) (limit : ℕ) (h k : History) (e f : Ending) →
    Run text args limit h e → Run text args limit k f →
    answers h ≡ answers k → (h ≡ k) × (e ≡ f)

-- a run has at most four acts for each tick, and one more
abbrev pub ActsAreBounded : Type 0
ActsAreBounded =
    (text : List ℕ) (args : List (List ℕ)) (limit : ℕ) (h : History) (e : Ending) →
    Run text args limit h e → length h ≤ most_acts limit

-- at every wait of a run each buffer holds at most its size
abbrev pub WaitsHold : Type 0
WaitsHold =
    (text : List ℕ) (args : List (List ℕ)) (limit : ℕ) (h : History) (e : Ending) →
    Run text args limit h e → HoldsThroughout h

-- once a script is over, what is open is closed in rising order of ids, where those that are open
-- stand in that order (expect(1), close)
abbrev pub ClosesRise : Type 0
ClosesRise =
    (s : Status) (outcome : Outcome) (h : History) (over : Over) →
    Rise (numbers_of (opened s.ids.peers)) → Runs plan_of IsTree (closing s outcome) h over →
    Rise (closed_by h)

-- after an answer that does not fit its act, and after the answer that there are no more answers,
-- there is no act
abbrev pub NothingFollows : Type 0
NothingFollows =
    (text : List ℕ) (args : List (List ℕ)) (limit : ℕ) (h : History) (e : Ending) →
    Run text args limit h e → ClosesAt CutsOff h

-- each script has a run
abbrev pub EachScriptRuns : Type 0
EachScriptRuns = (text : List ℕ) (args : List (List ℕ)) (limit : ℕ) → BeginsRun text args limit []

-- at each act of a run any other answer leads to an end too
abbrev pub AnyAnswerLeadsOn : Type 0
AnyAnswerLeadsOn =
    (text : List ℕ) (args : List (List ℕ)) (limit : ℕ) (h : History) (act : Deed)
    (reply other : Reply) →
    BeginsRun text args limit (h ++ ((act, reply) ∷ [])) →
    BeginsRun text args limit (h ++ ((act, other) ∷ []))
