-- The commands that this profile leaves out.
use Rattle.std.specs.Prelude.{ℕ, Bool, List, [], ◌∷◌, codes}
use Rattle.std.specs.List.{list_any}
use Rattle.std.specs.Str.{bytes_eq}

-- commands of Tcl and of Expect that a script may know and that are not here
-- (this project's own rule)
abbrev pub left_out : List (List ℕ)
left_out =
    codes "interact"
    ∷ codes "expect_user"
    ∷ codes "expect_tty"
    ∷ codes "expect_background"
    ∷ codes "trap"
    ∷ codes "fork"
    ∷ codes "overlay"
    ∷ codes "disconnect"
    ∷ codes "system"
    ∷ codes "stty"
    ∷ codes "parity"
    ∷ codes "exp_internal"
    ∷ codes "debug"
    ∷ codes "exp_pid"
    ∷ codes "exp_version"
    ∷ codes "uplevel"
    ∷ codes "upvar"
    ∷ codes "regexp"
    ∷ codes "regsub"
    ∷ codes "format"
    ∷ codes "scan"
    ∷ codes "after"
    ∷ codes "source"
    ∷ codes "clock"
    ∷ codes "rename"
    ∷ codes "trace" ∷ []

-- the name is that of one of them (this project's own rule)
abbrev pub is_left_out : List ℕ → Bool
is_left_out name = list_any (λ word. bytes_eq word name) left_out
