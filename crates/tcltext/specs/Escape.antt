-- What a backslash and the bytes after it stand for (Tcl(n), rule 9).
use Rattle.std.specs.Prelude.{ℕ, ◌+◌, ◌-◌, ◌*◌, ◌==◌, nat_le, nat_lt, ◌&&◌, ◌||◌, List, [], ◌∷◌, Bool, Result, Ok, Err, if◌then◌else◌}
use Rattle.tcltext.specs.declared.escape.EscapeNotHere.{EscapeNotHere}
use Rattle.tcltext.specs.Digit.{digit_value, is_digit}

-- A blank or a tab, which a newline after a backslash takes with it (Tcl(n), rule 9,
-- \<newline>whiteSpace).
abbrev pub is_blank : ℕ → Bool
is_blank c = (c == 32) || (c == 9)

-- The text after its leading blanks and tabs (Tcl(n), rule 9, \<newline>whiteSpace).
abbrev pub skip_blanks : List ℕ → List ℕ
skip_blanks [] = []
skip_blanks (c ∷ x) = if is_blank c then skip_blanks x else (c ∷ x)

-- The bytes with names, \a \b \f \n \r \t \v; any other byte is itself (Tcl(n), rule 9).
abbrev pub named_byte : ℕ → ℕ
named_byte c =
    if c == 97 then 7 else (if c == 98 then 8 else (if c == 102 then 12 else
    (if c == 110 then 10 else (if c == 114 then 13 else (if c == 116 then 9 else
    (if c == 118 then 11 else c))))))

-- The number n with at most `most` more digits after it, each taken while the number fits a byte;
-- and the text after them (Tcl(n), rule 9, \ooo and \xhh).
abbrev pub byte_number : ℕ → ℕ → ℕ → List ℕ → ℕ × List ℕ
byte_number base most n [] = (n, [])
byte_number base most n (c ∷ x) =
    if nat_lt 0 most && (is_digit base c && nat_le (base * n + digit_value c) 255)
    then byte_number base (most - 1) (base * n + digit_value c) x else (n, c ∷ x)

-- \x with one or two digits is a byte by its number, without a digit the letter (Tcl(n), rule 9,
-- \xhh).
abbrev pub hexadecimal_byte : List ℕ → ℕ × List ℕ
hexadecimal_byte [] = (120, [])
hexadecimal_byte (c ∷ x) = if is_digit 16 c then byte_number 16 2 0 (c ∷ x) else (120, c ∷ x)

-- What a backslash with this text after it stands for: one byte, and the text after the escape; or
-- an error, for \u and \U, which are left out (Tcl(n), rule 9; at the text's end a backslash is
-- itself).
abbrev pub escape : List ℕ → Result (ℕ × List ℕ) EscapeNotHere
escape [] = Ok (92, [])
escape (c ∷ x) =
    if c == 10 then Ok (32, skip_blanks x) else (if c == 120 then Ok (hexadecimal_byte x) else
    (if (c == 117) || (c == 85) then Err (record {}) else
    (if is_digit 8 c then Ok (byte_number 8 3 0 (c ∷ x)) else Ok (named_byte c, x))))
