-- The bytes of an element that is kept.
use Rattle.std.specs.Prelude.{ℕ, List}
use Rattle.tcltext.specs.declared.kept_element.Form.{Form}
use Rattle.tcltext.specs.declared.kept_element.Form.TheVariants.{Short, Long}

-- The bytes in place, or those behind the pointer (this project's own rule).
abbrev pub bytes_of : {A : Type 0} → Form A → List ℕ
bytes_of (Short bytes) = bytes
bytes_of (Long bytes) = bytes.value.items
