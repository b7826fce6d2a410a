-- The operands of a command: its words, and those below them.
use Rattle.std.proofs.Common.{◌≡◌, ◌∙◌, ℕ, ◌-◌, List, [], ◌∷◌, ◌++◌, take, drop, length, sym, ap, arith, length-append, ◌≤◌, if◌then◌else◌}
use Rattle.std.specs.Prelude.{reverse}
use mathlib.Core.List.{reverse-cons}
use Rattle.std.proofs.lemmas.Bool.{le-leb}
use Rattle.std.proofs.lemmas.List.{reverse-append, reverse-reverse, length-reverse}
use Rattle.std.proofs.Math.Seq.{take-append_seam, drop-append_seam}
use Rattle.steps.specs.Machine.{with_words}
use Rattle.steps.specs.Moves.{lowest, with_operands}
use Rattle.steps.specs.Spot.{Spot, Handler, Stuck, Did}

-- the words, of which the last one is on top
pub words_above : (words below : List (List ℕ)) →
    drop (length below) (reverse (words ++ below)) ≡ reverse words
words_above words below =
    ap (drop (length below)) (reverse-append words below)
    ∙ ap (λ n. drop n (reverse below ++ reverse words)) (sym (length-reverse below))
    ∙ drop-append_seam (reverse below) (reverse words)

-- the operands below them
pub lowest_below : {X : Type 0} (words below : List X) →
    lowest (length below) (words ++ below) ≡ below
lowest_below words below =
    ap (λ os. reverse (take (length below) os)) (reverse-append words below)
    ∙ ap (λ n. reverse (take n (reverse below ++ reverse words))) (sym (length-reverse below))
    ∙ ap reverse (take-append_seam (reverse below) (reverse words))
    ∙ reverse-reverse below

-- these words are above the other operands
pub words_left : (count : ℕ) (words below : List (List ℕ)) → count ≡ length words →
    length (words ++ below) - count ≡ length below
words_left count words below is = omega (arith, is, length-append words below)

-- a spot with these operands
abbrev with_rest : ℕ → List ℕ → ℕ → List Handler → List (List ℕ) → Spot
with_rest place marks levels handlers operands = record {
  place = place;
  operands = operands;
  marks = marks;
  levels = levels;
  handlers = handlers;
}

-- something begins by the words above these operands
pub begins_with : (begins : List (List ℕ) → Spot → Did) (n : ℕ) (words below : List (List ℕ))
    (place : ℕ) (marks : List ℕ) (levels : ℕ) (handlers : List Handler) → n ≡ length below →
    with_words begins n (with_rest place marks levels handlers (words ++ below))
    ≡ begins (reverse words) (with_rest place marks levels handlers below)
begins_with begins n words below place marks levels handlers is =
    let at : Spot = with_rest place marks levels handlers (words ++ below) in
    let within : length below ≤ length (words ++ below) =
    omega (arith, length-append words below) in
    ap (λ m. with_words begins m at) is
    ∙ ap (λ b. if b
    then begins (drop (length below) (reverse (words ++ below)))
    (with_operands (reverse (take (length below) (reverse (words ++ below)))) at)
    else Stuck) (le-leb (length below) (length (words ++ below)) within)
    ∙ ap (λ ws. begins ws (with_operands (reverse (take (length below) (reverse (words ++ below))))
    at))
    (words_above words below)
    ∙ ap (λ os. begins (reverse words) (with_operands os at)) (lowest_below words below)

-- the elements of a list, with the words before them
pub elements_after : (elements words : List (List ℕ)) →
    reverse (reverse elements ++ words) ≡ reverse words ++ elements
elements_after elements words =
    reverse-append (reverse elements) words
    ∙ ap (λ es. reverse words ++ es) (reverse-reverse elements)

-- one more word, which is on top
pub last_first : (word : List ℕ) (words : List (List ℕ)) →
    reverse (word ∷ words) ≡ reverse words ++ word ∷ []
last_first word words = reverse-cons word words
