-- Texts that go out piece by piece.
use Rattle.std.proofs.Common.{◌≡◌, ℕ, ◌-◌, List, [], ◌++◌, Option, Some, None, length, take, drop, sym, ap, ◌∙◌, arith}
use Rattle.std.proofs.Math.Seq.{take-append_seam}
use Rattle.std.proofs.lemmas.List.{append-nil, append_assoc, length-append, take-append-drop, take_rest}
use Rattle.std.specs.Io.KnownBytes.{Appends, Keeps}

-- the parts of a text stay the whole text where more is taken from the front of its rest
pub onward : (text sent rest : List ℕ) (n : ℕ) → text ≡ sent ++ rest →
    text ≡ (sent ++ take n rest) ++ take (length rest - n) (drop n rest)
onward text sent rest n whole =
    whole ∙ ap (λ more. sent ++ more) (sym (take-append-drop n rest))
    ∙ sym (append_assoc sent (take n rest) (drop n rest))
    ∙ ap (λ more. (sent ++ take n rest) ++ more) (sym (take_rest rest n))

-- as many bytes were sent as the text is longer than its rest
so_many : (text sent rest : List ℕ) → text ≡ sent ++ rest →
    length text - length rest ≡ length sent
so_many text sent rest whole =
    let long = ap length whole ∙ length-append sent rest in omega arith

-- the part before the rest of a text is the front of the text of that length
pub sent_is : (text sent rest : List ℕ) → text ≡ sent ++ rest →
    take (length text - length rest) text ≡ sent
sent_is text sent rest whole =
    ap (λ n. take n text) (so_many text sent rest whole) ∙ ap (take (length sent)) whole
    ∙ take-append_seam sent rest

-- known bytes that stay as they were have grown by no byte
pub kept_grows : (old new : Option (List ℕ)) → Keeps old new → Appends old new []
kept_grows None new kept = tt
kept_grows (Some bytes) None kept = kept
kept_grows (Some bytes) (Some more) kept = kept ∙ sym (append-nil bytes)

-- bytes that were not touched have grown by no byte
pub grows_by_none : (known : Option (List ℕ)) → Appends known known []
grows_by_none None = tt
grows_by_none (Some bytes) = sym (append-nil bytes)
