-- Arguments in braces of the commands that take branches (expect(1), expect, expect_before and
-- expect_after).
use Rattle.std.specs.Prelude.{◌≡◌, ℕ, ◌==◌, ◌||◌, Bool, true, false, List, [], ◌∷◌, codes, None, if◌then◌else◌}
use Rattle.std.specs.Str.{bytes_eq}
use Rattle.code.specs.declared.argument.Argued.{Argued}
use Rattle.tclparse.specs.Grammar.{IsArgument}
use Rattle.tclparse.specs.View.{words_of}

-- a blank, a tab, a vertical tab, a form feed or a carriage return
abbrev pub is_white : ℕ → Bool
is_white b = (b == 32) || ((b == 9) || ((b == 11) || ((b == 12) || (b == 13))))

-- the first byte that is not white is a newline (expect(1), expect)
abbrev pub is_braced : List ℕ → Bool
is_braced [] = false
is_braced (b ∷ bs) = if is_white b then is_braced bs else b == 10

-- whether the command of this name takes branches (expect(1), expect, expect_before and
-- expect_after)
abbrev pub takes_branches : List ℕ → Bool
takes_branches name =
    if bytes_eq name (codes "expect") then true
    else if bytes_eq name (codes "expect_before") then true
    else bytes_eq name (codes "expect_after")

-- the command takes branches, and this text is an argument in braces that has these words
-- (expect(1), expect)
abbrev pub IsArgued : {A : Type 0} → Argued A → List ℕ → Type 0
IsArgued own text =
    (takes_branches own.name ≡ true) × (is_braced text ≡ true)
    × IsArgument (words_of own.words) None text
