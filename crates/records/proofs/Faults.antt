-- What reading the lines after the header says of the whole text.
use Rattle.std.proofs.Common.{◌≡◌, ℕ, true, List, ◌++◌, take, drop, Ok, Err, IfOk, IfErr, MatchResult, sym, ap, ◌∙◌, inl, inr, take-append-drop}
use Rattle.std.specs.Prelude.{Result, ◌⊎◌}
use Rattle.std.specs.Str.{bytes_eq}
use Rattle.std.proofs.lemmas.Slice.Eq.{bytes_eq-Decides}
use Rattle.acts.specs.Deed.{Reply}
use Rattle.records.specs.declared.record.RecordFault.{RecordFault}
use Rattle.records.specs.declared.record.RecordFault.TheVariants as fault
use Rattle.records.specs.Fault.{IsLineFault, IsRefused}
use Rattle.records.specs.Record.{AreLines, IsFirstBad, IsRecord, header}
use Rattle.records.proofs.Records.{after_header, no_bad_line, one_bad_line, same_answers}

-- a text whose front is the header is the header and the lines
pub header_split : (text lines : List ℕ) → bytes_eq (take 12 text) header ≡ true → lines
    ≡ drop 12 text → text ≡ header ++ lines
header_split text lines test is =
    sym (take-append-drop 12 text) ∙ ap (λ front. front ++ drop 12 text)
    ((bytes_eq-Decides (take 12 text) header).0 test)
    ∙ ap (λ rest. header ++ rest) (sym is)

-- the list of a record is read unless memory is refused
pub record_read : {T : Type 0} (view : T → List Reply) (text lines : List ℕ)
    (read : Result T RecordFault) → text ≡ header ++ lines
    → IfOk read (λ found. AreLines (view found) lines) → IfErr read (IsLineFault lines)
    → (replies : List Reply) → IsRecord replies text →
    MatchResult read (λ found. view found ≡ replies) IsRefused
record_read view text lines (Ok found) whole good bad replies (others, whole', are) =
    same_answers (view found) replies lines good
    (rw (after_header text others lines whole' whole) at are)
record_read view text lines (Err fault.Header) whole good bad replies are = absurd bad
record_read view text lines (Err (fault.Line n)) whole good (count, number, at) replies are =
    absurd (no_bad_line replies text n are (count, lines, number, whole, at))
record_read view text lines (Err (fault.NoMemory refusal)) whole good bad replies are = tt

-- the first bad line is reported unless memory is refused
pub bad_line_found : {T : Type 0} (view : T → List Reply) (text lines : List ℕ)
    (read : Result T RecordFault) → text ≡ header ++ lines
    → IfOk read (λ found. AreLines (view found) lines) → IfErr read (IsLineFault lines)
    → (n : ℕ) → IsFirstBad text n → MatchResult read (λ _. ⊥)
    (λ f. (f ≡ fault.Line n) ⊎ IsRefused f)
bad_line_found view text lines (Ok found) whole good bad n first =
    no_bad_line (view found) text n (lines, whole, good) first
bad_line_found view text lines (Err fault.Header) whole good bad n first = absurd bad
bad_line_found view text lines (Err (fault.Line m)) whole good (count, number, at) n first =
    inl (ap fault.Line (one_bad_line text m n (count, lines, number, whole, at) first))
bad_line_found view text lines (Err (fault.NoMemory refusal)) whole good bad n first = inr tt
