-- The results of functions of texts.
use Rattle.std.proofs.Common.{◌≡◌, ◌∙◌, ℕ, List, Bool, true, false, Some, None, ℤ, FitsSigned, w64, to_z, of_z, Result, Ok, Err, MatchResult, refl, sym, ap, subst}
use Rattle.std.proofs.lemmas.Int.{to_z-of_z}
use Rattle.std.specs.Prelude.{IfErr}
use Rattle.acts.specs.Flaw as flaw
use Rattle.acts.specs.declared.raise.Raise.{Raise}
use Rattle.acts.specs.declared.raise.Raise.TheVariants as raise
use Rattle.meanings.specs.Meaning.{Answer, Comes, Meaning, Gives, Raises, Splits, Matches, flaw_of_list, truth}
use Rattle.operators.specs.Number.{number_of}
use Rattle.operators.specs.Truth.{truth_of}
use Rattle.operators.specs.Value.{spelled}
use Rattle.operators.specs.View.{IsNoTruth}
use Rattle.state.specs.Piece.{ListText, TestText}
use Rattle.state.specs.Prelude.{Fault, flaw_of, Status}
use Rattle.steps.specs.Does.{Does, reads}
use Rattle.steps.specs.Formulas.{deciding, gives, on_meaning, on_split, on_truth, putting}
use Rattle.steps.specs.Handling.{fails}
use Rattle.steps.specs.Moves.{jumping}
use Rattle.steps.specs.Spot.{Spot, Did, Went, with_top}
use Rattle.steps.proofs.Does.{same_does}
use Rattle.tcltext.specs.Flaw.{Flaw}

-- goes on with a value, or fails with an error
abbrev pub on_answer : Answer → Spot → Status → (List ℕ → Did) → Did
on_answer (Ok value) spot s next = next value
on_answer (Err flaw) spot s next = fails flaw spot s

split_does : (more : List (List ℕ) → Meaning) (answer : Answer) (spot : Spot) (s : Status)
    (next : List ℕ → Did) →
    ((es : List (List ℕ)) → Comes (more es) answer →
    Does (on_meaning (more es) spot s next) (on_answer answer spot s next)) →
    (split : Result (List (List ℕ)) Flaw) →
    MatchResult split (λ es. Comes (more es) answer) (λ why. answer ≡ Err (flaw_of_list why)) →
    Does (on_split spot s (λ es. on_meaning (more es) spot s next) split)
    (on_answer answer spot s next)
split_does more answer spot s next each (Ok es) comes = each es comes
split_does more answer spot s next each (Err why) is =
    same_does (ap (λ a. on_answer a spot s next) is)

-- the result of a function of texts is its answer
pub meaning_does : (meaning : Meaning) (answer : Answer) (spot : Spot) (s : Status)
    (next : List ℕ → Did) → Comes meaning answer →
    Does (on_meaning meaning spot s next) (on_answer answer spot s next)
meaning_does (Gives value) answer spot s next is =
    same_does (ap (λ a. on_answer a spot s next) is)
meaning_does (Raises flaw) answer spot s next is =
    same_does (ap (λ a. on_answer a spot s next) is)
meaning_does (Splits text more) answer spot s next comes =
    reads {text = ListText text} comes.0 comes.1
    (split_does more answer spot s next (λ es. meaning_does (more es) answer spot s next) comes.0
    comes.2)
meaning_does (Matches pattern text more) answer spot s next comes =
    reads {text = TestText pattern text} comes.0 comes.1
    (meaning_does (more comes.0) answer spot s next comes.2)

-- the truth value that decides
pub decided : (known holds : Bool) (place : ℕ) (spot : Spot) (s : Status) → known ≡ holds →
    jumping place (with_top (truth holds) spot) s ≡ deciding known holds place spot s
decided true true place spot s same = refl
decided true false place spot s same = absurd (cc)
decided false true place spot s same = absurd (cc)
decided false false place spot s same = refl

-- there is no truth value
pub no_truth : {A : Type 0} (test : Result Bool (Raise A)) (fault : Fault A) (text : List ℕ)
    (spot : Spot) (s : Status) (next : Bool → Did) → test ≡ Err (raise.Fault fault) →
    IfErr test (IsNoTruth text) →
    fails (flaw_of fault) spot s ≡ on_truth (truth_of text) spot s next
no_truth test fault text spot s next is told =
    let none : truth_of text ≡ Err (flaw_of fault) =
    subst (λ t. IfErr t (IsNoTruth text)) is told in
    sym (ap (λ r. on_truth r spot s next) none)

-- the value of a numeral is its spelling
pub numeral_put : (digits : List ℕ) (n : ℤ) (spot : Spot) (s : Status) →
    number_of digits ≡ Some n → putting digits spot s ≡ Went (with_top digits spot) s
numeral_put digits n spot s is = ap (λ o. gives (spelled o digits) spot s) is

-- and where it has no number there is none
pub numeral_fails : (digits : List ℕ) (spot : Spot) (s : Status) →
    number_of digits ≡ None → putting digits spot s ≡ fails flaw.OutOfRange spot s
numeral_fails digits spot s is = ap (λ o. gives (spelled o digits) spot s) is

-- the number of a text as a register holds it
pub in_bits : (text : List ℕ) (n : ℤ) → FitsSigned w64 n → number_of text ≡ Some n →
    number_of text ≡ Some (to_z w64 (of_z w64 n))
in_bits text n fits is = is ∙ ap (λ m. Some m) (sym (to_z-of_z w64 n fits))

-- what is done with a truth value that is known
pub known_truth : (text : List ℕ) (holds : Bool) (spot : Spot) (s : Status) (next : Bool → Did) →
    truth_of text ≡ Ok holds → next holds ≡ on_truth (truth_of text) spot s next
known_truth text holds spot s next is = sym (ap (λ r. on_truth r spot s next) is)
