-- The bytes of a value, and what is known of them.
use Rattle.std.specs.Prelude.{◌≡◌, ℕ, List, IsTrue}
use Rattle.tcltext.specs.Canonical.{IsCanonical}
use Rattle.tcltext.specs.Numeral.{IsNumeral}
use Rattle.tcltext.specs.declared.value.Form.{Form}
use Rattle.tcltext.specs.declared.value.Form.TheVariants.{Number, Short, Long}

-- The bytes in place, or those behind the pointer (this project's own rule).
abbrev pub bytes_of : {A : Type 0} → Form A → List ℕ
bytes_of (Number digits n) = digits
bytes_of (Short bytes) = bytes
bytes_of (Long text) = text.value.bytes.items

-- A number that is kept is that of the text, what is marked as a list is the canonical text of one,
-- and the elements that are kept are those of the text (this project's own rule).
abbrev pub IsKeptRightly : {A : Type 0} → Form A → Type 0
IsKeptRightly (Number digits n) = IsNumeral n digits
IsKeptRightly (Short bytes) = Unit {0}
IsKeptRightly (Long text) =
    (IsTrue text.value.is_list → IsCanonical text.value.bytes.items)
    × (text.value.kept.items ≡ text.value.bytes.items)
