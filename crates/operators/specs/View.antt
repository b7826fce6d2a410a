-- The text that an operand is seen as, and what is said of reading operands.
use Rattle.std.specs.Prelude.{◌≡◌, ℕ, List, ℤ, Some, Err}
use Rattle.std.specs.Fmt.{signed_decimal}
use Rattle.meanings.specs.Meaning.{Meaning}
use Rattle.meanings.specs.View.{Answers}
use Rattle.acts.specs.declared.raise.Raise.{Raise}
use Rattle.acts.specs.declared.raise.Raise.TheVariants as raise
use Rattle.acts.specs.Flaw as flaw
use Rattle.operators.specs.declared.operand.Form.{Form}
use Rattle.operators.specs.declared.operand.Form.TheVariants as form
use Rattle.operators.specs.Number.{number_of, with_number, with_both}
use Rattle.operators.specs.Truth.{truth_of}

-- a number stands for its decimal text (expr(n), operands)
abbrev pub text_of : {A : Type 0} → Form A → List ℕ
text_of (form.Number n) = signed_decimal n
text_of (form.Text text) = text

-- the fault is the answer, whatever would follow the number that the text is (expr(n), operators)
abbrev pub IsNoNumber : {A : Type 0} → List ℕ → Raise A → Type 0
IsNoNumber text fault = (next : ℤ → Meaning) → Answers (with_number text next) (Err fault)

-- the two texts are these numbers (expr(n), operands)
abbrev pub AreNumbers : List ℕ → List ℕ → ℤ × ℤ → Type 0
AreNumbers left right numbers =
    (number_of left ≡ Some numbers.0) × (number_of right ≡ Some numbers.1)

-- the fault is the answer, whatever would follow the numbers that the texts are (expr(n),
-- operators)
abbrev pub AreNoNumbers : {A : Type 0} → List ℕ → List ℕ → Raise A → Type 0
AreNoNumbers left right fault =
    (next : ℤ → ℤ → Meaning) → Answers (with_both left right next) (Err fault)

-- the fault is why the text has no truth value, except where memory was refused (expr(n), operands)
abbrev pub IsNoTruth : {A : Type 0} → List ℕ → Raise A → Type 0
IsNoTruth text (raise.Fault why) = truth_of text ≡ Err (flaw.flaw_of why)
IsNoTruth text (raise.NoMemory refusal) = Unit {0}
