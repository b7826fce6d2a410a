-- What commands ask about their words: whether a word is a flag.
use Rattle.std.specs.Prelude.{ℕ, ◌==◌, ◌&&◌, Bool, false, not, List, [], ◌∷◌}
use Rattle.tcltext.specs.Numbers.{is_number}

-- the word begins as flags do (expect(1), send)
abbrev pub begins_with_dash : List ℕ → Bool
begins_with_dash [] = false
begins_with_dash (b ∷ bs) = b == 45

-- a word that begins with a dash and is no number would be a flag (expect(1), spawn)
abbrev pub is_flag : List ℕ → Bool
is_flag w = begins_with_dash w && not (is_number w)
