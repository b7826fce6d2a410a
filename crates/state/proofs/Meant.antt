-- The value or the error of a function of texts, as a course.
use Rattle.std.proofs.Common.{◌≡◌, ℕ, List, Result, Ok, Err, MatchResult, refl, sym, ap, subst}
use Rattle.state.specs.Prelude.{flaw_of, Fault, Raise, Ends, Course, gives, raises, ListText, Reaches, Status}
use Rattle.meanings.specs.Meaning.{Answer, Comes, Meaning, Gives, Raises, Splits, Matches, flaw_of_list}
use Rattle.meanings.specs.View.{Answers}
use Rattle.acts.specs.declared.raise.Raise.TheVariants as raise
use Rattle.state.proofs.Reaches.{same_reaches, then_reaches}
use Rattle.state.specs.Listed.{on_list}
use Rattle.state.specs.Meant.{meant, on_meaning, told}
use Rattle.state.specs.Piece.{TestText}
use Rattle.state.specs.Reaches.{reads}
use Rattle.tcltext.specs.Flaw.{Flaw}

-- continues with a value; an error is raised
abbrev pub on_answer : Answer → Status → (List ℕ → Course) → Course
on_answer (Ok value) s next = next value
on_answer (Err flaw) s next = raises flaw s

-- what follows the one reading of a text as a list
split_reaches : (more : List (List ℕ) → Meaning) (answer : Answer) (s : Status)
    (next : List ℕ → Course) →
    ((elements : List (List ℕ)) → Comes (more elements) answer →
    Reaches (on_meaning (more elements) s next) (on_answer answer s next)) →
    (split : Result (List (List ℕ)) Flaw) →
    MatchResult split (λ elements. Comes (more elements) answer)
    (λ why. answer ≡ Err (flaw_of_list why)) →
    Reaches (on_list s (λ elements. on_meaning (more elements) s next) split)
    (on_answer answer s next)
split_reaches more answer s next each (Ok elements) comes = each elements comes
split_reaches more answer s next each (Err why) is =
    same_reaches (ap (λ a. on_answer a s next) (sym is))

-- the course of a function of texts continues with the function's answer
pub meaning_reaches : (meaning : Meaning) (answer : Answer) (s : Status) (next : List ℕ → Course) →
    Comes meaning answer → Reaches (on_meaning meaning s next) (on_answer answer s next)
meaning_reaches (Gives value) answer s next is =
    same_reaches (ap (λ a. on_answer a s next) (sym is))
meaning_reaches (Raises flaw) answer s next is =
    same_reaches (ap (λ a. on_answer a s next) (sym is))
meaning_reaches (Splits text more) answer s next comes =
    reads {text = ListText text} comes.0 comes.1
    (split_reaches more answer s next
    (λ elements. meaning_reaches (more elements) answer s next) comes.0 comes.2)
meaning_reaches (Matches pattern text more) answer s next comes =
    reads {text = TestText pattern text} comes.0 comes.1
    (meaning_reaches (more comes.0) answer s next comes.2)

-- the same, of an answer of the code
pub value_reaches : {A : Type 0} (meaning : Meaning) (it : Result (List ℕ) (Raise A))
    (value : List ℕ) (s : Status) (next : List ℕ → Course) → it ≡ Ok value → Answers meaning it →
    Reaches (on_meaning meaning s next) (next value)
value_reaches meaning it value s next is answers =
    meaning_reaches meaning (Ok value) s next (subst (λ a. Answers meaning a) is answers)

pub fault_reaches : {A : Type 0} (meaning : Meaning) (it : Result (List ℕ) (Raise A))
    (why : Raise A) (told : Fault A) (s : Status) (next : List ℕ → Course) → it ≡ Err why →
    why ≡ raise.Fault told → Answers meaning it →
    Reaches (on_meaning meaning s next) (raises (flaw_of told) s)
fault_reaches meaning it why told s next is also answers =
    meaning_reaches meaning (Err (flaw_of told)) s next
    (subst (λ a. Answers meaning (Err a)) also (subst (λ a. Answers meaning a) is answers))

-- the course that is over with an answer
abbrev over_with : Status → Answer → Course
over_with s answer = Ends (s, told answer)

over_is : (answer : Answer) (s : Status) →
    on_answer answer s (λ value. gives value s) ≡ over_with s answer
over_is (Ok value) s = refl
over_is (Err flaw) s = refl

-- where a function of texts has an answer, its course ends with that answer
pub comes_reaches : (m : Meaning) (a : Answer) (s : Status) → Comes m a →
    Reaches (meant m s) (over_with s a)
comes_reaches m a s comes =
    then_reaches (meaning_reaches m a s (λ value. gives value s) comes) (same_reaches (over_is a s))
