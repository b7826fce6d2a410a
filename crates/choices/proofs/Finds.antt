-- What a search in the window of an id finds for a pair.
use Rattle.std.proofs.Common.{◌≡◌, IsTrue, List, sym, Option, Some, None, MatchOption}
use Rattle.patterns.specs.Item.{Reading}
use Rattle.patterns.specs.Match.{IsFound, SitsNowhere}
use Rattle.patterns.specs.declared.search.Found.{Found}
use Rattle.choices.specs.Branches.{Awaited, Pair, Sought}
use Rattle.choices.specs.Choice.{FindsIn, Finds, IsFoundFor, looks_at}
use Rattle.choices.specs.Lines.{Line, line_of}
use Rattle.choices.specs.declared.choice.Trigger.{Trigger}

-- what the answer of a search says, by the line of the id
abbrev pub Answers : Awaited → Option Line → Option Found → Type 0
Answers awaited line answer = MatchOption answer
    ((f : Found) → ¬ FindsIn awaited line f) (FindsIn awaited line)

-- a search of the window of an open id
pub in_line : (p : Reading) (o : Option Line) (l : Line) (r : Option Found) → o ≡ Some l →
    MatchOption r (SitsNowhere p l.held.bytes) (λ f. IsFound p l.held.bytes f.start f.end) →
    Answers (Sought p) o r
in_line p o l None is nowhere = rw is (λ f at. nowhere f.start f.end at.sits)
in_line p o l (Some f) is found = rw is found

-- where the id has no line, nothing is found
pub no_line : (a : Awaited) (o : Option Line) → o ≡ None → (f : Found) → ¬ FindsIn a o f
no_line a o is f at = by a (rw is at at)
  where
    by : (a : Awaited) → FindsIn a None f → ⊥
    by (Sought p) at = at
    by _ at = at

-- a search for a pair whose pattern is looked for
pub for_pair : (ls : List Line) (t : Trigger) (p : Pair) (a : Awaited) (r : Option Found) →
    a ≡ p.branch.awaited → IsTrue (looks_at t p) → Answers a (line_of ls p.id) r →
    MatchOption r (¬ IsFoundFor ls t p) (Finds ls t p)
for_pair ls t p a None is looks none = λ at. none at.0 (rw (sym is) at at.1.finds)
for_pair ls t p a (Some f) is looks found = record { looks = looks; finds = rw is at found }
