-- What stands between words and between commands.
use Rattle.std.specs.Prelude.{ℕ, ◌==◌, ◌||◌, List, [], ◌∷◌, Bool, true, false, if◌then◌else◌}
use Rattle.tclparse.specs.Context.{Context, is_white, is_separator, is_continuation}

-- The text after the white space and the continued lines at its front, which separate words
-- (Tcl(n), rules 3 and 9); hidden: a backslash stood before the newline at the front.
abbrev pub skip_white : Context → Bool → List ℕ → List ℕ
skip_white context hidden [] = []
skip_white context true (c ∷ x) = skip_white context false x
skip_white context false (c ∷ x) =
    if is_white context c then skip_white context false x else
    (if is_continuation c x then skip_white context true x else (c ∷ x))

-- A place in the text between two commands: outside a comment, in one, or in one just after a
-- backslash.
pub data Gap : Type 0 where
  between : Gap
  comment : Gap
  in_pair : Gap

-- a comment goes up to the first newline with no backslash before it (Tcl(n), rule 10)
abbrev pub after_comment_byte : ℕ → Gap
after_comment_byte c = if c == 10 then between else (if c == 92 then in_pair else comment)

-- The text after the white space, separators, continued lines and comments at its front, which may
-- stand before a command (Tcl(n), rules 1, 3, 9 and 10).
abbrev pub skip_gap : Context → Gap → List ℕ → List ℕ
skip_gap context gap [] = []
skip_gap context in_pair (c ∷ x) = skip_gap context comment x
skip_gap context comment (c ∷ x) = skip_gap context (after_comment_byte c) x
skip_gap context between (c ∷ x) =
    if is_white context c || is_separator context c then skip_gap context between x else
    (if c == 35 then skip_gap context comment x else
    (if is_continuation c x then skip_gap context between x else (c ∷ x)))
