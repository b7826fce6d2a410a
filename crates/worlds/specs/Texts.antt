-- The texts of files that a call of the program has.
use Rattle.std.specs.Prelude.{◌≡◌, ◌≢◌, ◌⊎◌, ℕ, List, [], ◌∷◌, Option, Result, Ok, IfSome, codes}
use Rattle.std.specs.declared.io.Error.{Error}

-- `opens` says what the system may answer where the file of a name is to be read, and `left` which
-- bytes a file has left to read, where they are known.
module _ {F : Type 0} (opens : List ℕ → Result F Error → Type 0)
    (left : F → Option (List ℕ)) where
  -- this is the text of the file of this name: all that the system gave it to read (open(2),
  -- read(2))
  abbrev pub IsTextOf : (name text : List ℕ) → Type 0
  IsTextOf name text =
      (file : F) × opens name (Ok file) × IfSome (left file) (λ bytes. text ≡ bytes)

  -- the same of a script: that of the name `-` is standard input, of which `rest` says what is left
  -- (this project's own)
  abbrev pub IsScriptOf : {I : Type 0} → (rest : I → Option (List ℕ)) → (name text : List ℕ) →
      Type 0
  IsScriptOf {I} rest name text =
      ((name ≢ codes "-") × IsTextOf name text)
      ⊎ ((name ≡ codes "-") × ((input : I) × IfSome (rest input) (λ bytes. text ≡ bytes)))

-- the text of the file whose name comes first, and none where no file is named
abbrev pub IsFirst : (is_of : (name text : List ℕ) → Type 0) → List (List ℕ) → List ℕ → Type 0
IsFirst is_of [] text = text ≡ []
IsFirst is_of (name ∷ others) text = is_of name text
