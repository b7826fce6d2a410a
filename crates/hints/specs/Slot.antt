-- A number that a text has, by which few others are taken for it.
use Rattle.std.specs.Prelude.{ℕ, ◌+◌, ◌-◌, ◌*◌, ◌/◌, ◌%◌, List, length, Option, Some, None, slice_get}

-- the byte, or 0 where there is none
abbrev pub byte_of : Option ℕ → ℕ
byte_of (Some byte) = byte
byte_of None = 0

-- the first byte, the last one, the one in the middle and the length, as a number below 256 (this
-- project's own rule)
abbrev pub slot : List ℕ → ℕ
slot text =
    (byte_of (slice_get text 0) + 5 * byte_of (slice_get text (length text - 1))
    + 3 * byte_of (slice_get text (length text / 2)) + length text % 256) % 256
