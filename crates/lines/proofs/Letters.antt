-- The first letter of the line of a wait, which the line of no answer has.
use Rattle.std.proofs.Common.{◌≡◌, ◌≢◌, ◌<◌, ◌^◌, ◌==◌, not, ℕ, true, List, [], ◌∷◌, ◌++◌, Some, None, codes, decimal, refl, arith}
use Rattle.std.specs.List.{list_all}
use Rattle.std.proofs.lemmas.Bool.{and_parts}
use Rattle.std.proofs.lemmas.Bool.Decides.{nat_tests}
use Rattle.acts.specs.Deed.{Reply}
use Rattle.acts.specs.Deed as said
use Rattle.acts.specs.Id.{id_text}
use Rattle.hex.specs.Hex.{encode_lower}
use Rattle.lines.specs.Cut.{Lacks}
use Rattle.lines.specs.Line.{IsLine, is_lower_digit}
use Rattle.lines.proofs.Cuts.{Lacks-append}
use Rattle.lines.proofs.HexTexts.{lower_text}
use Rattle.lines.proofs.Lines.{Lacks-decimal_above}

-- the first letter of the line of a wait
abbrev pub letter : ℕ
letter = 119

other_letter : (b : ℕ) → not (b == 119) ≡ true → b ≢ letter
other_letter b test e = grind (arith, nat_tests)

pub lacks_word : (text : List ℕ) → list_all (λ b. not (b == 119)) text ≡ true → Lacks letter text
lacks_word [] test = tt
lacks_word (b ∷ text) test =
    let (here, others) = and_parts (not (b == 119)) _ test in
    (other_letter b here, lacks_word text others)

lacks_number : (word : List ℕ) (n : ℕ) → list_all (λ b. not (b == 119)) word ≡ true → n < 2 ^ 64 →
    Lacks letter (word ++ decimal n)
lacks_number word n test below =
    Lacks-append letter word (decimal n) (lacks_word word test)
    (Lacks-decimal_above letter n (omega arith) below)

lower_letter : (b : ℕ) → is_lower_digit b ≡ true → b ≢ letter
lower_letter b lower e = grind (arith, nat_tests)

lacks_lower : (text : List ℕ) → list_all is_lower_digit text ≡ true → Lacks letter text
lacks_lower [] lower = tt
lacks_lower (b ∷ text) lower =
    let (here, others) = and_parts (is_lower_digit b) _ lower in
    (lower_letter b here, lacks_lower text others)

-- the line of an answer does not have it
pub lacks_line : (reply : Reply) (line : List ℕ) → IsLine reply line → Lacks letter line
lacks_line said.Done line is = rw is (lacks_word (codes "done") refl)
lacks_line (said.Failed sent) line is = rw is.1 (lacks_number (codes "failed ") sent refl is.0)
lacks_line (said.Started pid) line is = rw is.1 (lacks_number (codes "started ") pid refl is.0)
lacks_line said.Refused line is = rw is (lacks_word (codes "refused") refl)
lacks_line (said.Exited None) line is = rw is (lacks_word (codes "exited -") refl)
lacks_line (said.Exited (Some status)) line is =
    let small = is.0 in
    rw is.1 (lacks_number (codes "exited ") status refl (omega arith))
lacks_line (said.Arrive id bytes) line is =
    rw is.2 (Lacks-append letter (codes "arrive ") (id_text id.0 ++ (codes " " ++ encode_lower bytes))
    (lacks_word (codes "arrive ") refl)
    (Lacks-append letter (id_text id.0) (codes " " ++ encode_lower bytes)
    (lacks_number (codes "exp") id.0 refl is.0)
    (Lacks-append letter (codes " ") (encode_lower bytes) (lacks_word (codes " ") refl)
    (lacks_lower (encode_lower bytes) (lower_text bytes is.1)))))
lacks_line (said.Ended id) line is =
    rw is.1 (Lacks-append letter (codes "ended ") (id_text id.0) (lacks_word (codes "ended ") refl)
    (lacks_number (codes "exp") id.0 refl is.0))
lacks_line said.TimedOut line is = rw is (lacks_word (codes "timeout") refl)
lacks_line said.NoMore line is = absurd is
