-- Runs of a glob: parts of its text whose signs take one byte each.
use Rattle.std.specs.Prelude.{◌≡◌, ◌==◌, ℕ, ◌≤◌, Bool, true, false, List, [], ◌∷◌, ◌++◌, length, take, if◌then◌else◌}
use Rattle.std.specs.List.{AllByRecursion}
use Rattle.patterns.specs.Glob.{Sign, bare, signs, glob, plain, is_dollar, item_of}
use Rattle.patterns.specs.Runs.{IsFixed}

-- the byte is a sign by itself, and neither a `*` nor a `$` (string(n), match)
abbrev pub is_bare : ℕ → Bool
is_bare b =
    if b == 42 then false
    else if b == 36 then false
    else if b == 92 then false
    else if b == 91 then false
    else true

-- the sign is no bare `$`, which may tie a glob to the window's end (expect(1), expect)
abbrev pub IsFree : Sign → Type 0
IsFree sign = is_dollar sign ≡ false

-- the sign takes one byte, and is no bare `$` (string(n), match; expect(1), expect)
abbrev pub IsOne : Sign → Type 0
IsOne sign = IsFree sign × IsFixed (item_of sign ∷ [])

-- all of the signs are so
abbrev pub AreOnes : List Sign → Type 0
AreOnes all = AllByRecursion IsOne all

-- none of the signs is a bare `$`
abbrev pub AreFree : List Sign → Type 0
AreFree all = AllByRecursion IsFree all

-- whatever follows the text, its signs are these, and those of what follows come after them
abbrev pub Reads : List ℕ → List Sign → Type 0
Reads text all = (rest : List ℕ) → signs (text ++ rest) ≡ all ++ signs rest

-- the first n bytes of the text are one sign, which takes one byte
pub record IsSign (text : List ℕ) (n : ℕ) : Type 0 where
  pub some : 1 ≤ n
  pub inside : n ≤ length text
  pub sign : Sign
  pub reads : Reads (take n text) (sign ∷ [])
  pub one : IsOne sign

-- the text is that run of so many signs, and what stands after it
pub record IsFront (text run after : List ℕ) (size : ℕ) : Type 0 where
  pub whole : text ≡ run ++ after
  pub split : signs text ≡ signs run ++ signs after
  pub ones : AreOnes (signs run)
  pub long : length (signs run) ≡ size

-- the glob is tied nowhere, and that run of so many signs stands in it
pub record IsWithin (text run : List ℕ) (size : ℕ) : Type 0 where
  pub untied : glob text ≡ plain text
  pub before : List Sign
  pub after : List Sign
  pub split : signs text ≡ before ++ (signs run ++ after)
  pub ones : AreOnes (signs run)
  pub long : length (signs run) ≡ size

-- all of the signs are bare `*`
abbrev pub AreStars : List Sign → Type 0
AreStars all = AllByRecursion (λ sign. sign ≡ bare 42) all

-- nothing but `*` stands before and after that run of the text
pub record IsAlone (text run : List ℕ) : Type 0 where
  pub before : List Sign
  pub after : List Sign
  pub split : signs text ≡ before ++ (signs run ++ after)
  pub stars_before : AreStars before
  pub stars_after : AreStars after
