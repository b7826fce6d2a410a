-- Where the text of a record ends, no line of a wait is left without its answer.
use Rattle.std.proofs.Common.{◌≡◌, ◌≢◌, ◌⊎◌, ◌-◌, ◌==◌, ◌&&◌, ◌||◌, not, nat_eq, ℕ, Bool, true, false, List, [], ◌∷◌, ◌++◌, length, take, Some, None, Option, codes, refl, sym, ap, ◌∙◌, subst, append_assoc, append-nil, inl, inr, arith}
use Rattle.std.specs.List.{ends_with, list_any, starts_with}
use Rattle.std.proofs.lemmas.Bool.{false≢true}
use Rattle.std.proofs.lemmas.Bool.Decides.{nat_tests}
use Rattle.std.proofs.lemmas.List.{length-append}
use Rattle.std.proofs.lemmas.List.Folds.{list_any-append}
use Rattle.std.proofs.Math.Seq.{drop-append_seam, take-append_seam}
use Rattle.acts.specs.declared.row.Row.{Row}
use Rattle.acts.specs.Deed.{Reply}
use Rattle.lines.specs.Cut.{Lacks}
use Rattle.lines.specs.Line.{IsWholeLine, newline}
use Rattle.lines.proofs.Cuts.{Lacks-append}
use Rattle.lines.proofs.Letters.{lacks_line, lacks_word, letter}
use Rattle.records.specs.Entry.{AreLinesOf, AreNotes, IsSecondRecord, Note, second_header}
use Rattle.recorders.specs.RecordFile.{is_wait, is_whole}

lacks_back : (front back : List ℕ) → Lacks letter (front ++ back) → Lacks letter back
lacks_back [] back lacks = lacks
lacks_back (b ∷ front) back lacks = lacks_back front back lacks.1

rest_of : {a b : ℕ} {x y : List ℕ} → a ∷ x ≡ b ∷ y → x ≡ y
rest_of e = cc e

head_of : {a b : ℕ} {x y : List ℕ} → a ∷ x ≡ b ∷ y → a ≡ b
head_of e = cc e

cons_both : {a b : ℕ} {x y : List ℕ} → a ≡ b → x ≡ y → a ∷ x ≡ b ∷ y
cons_both first rest = cc (first, rest)

-- the end of a text that ends with a line does so as well, unless it is empty
end_of : (line front : List ℕ) (b : ℕ) (back : List ℕ) → line ++ newline ∷ [] ≡ front ++ b ∷ back →
    (start : List ℕ) × (b ∷ back ≡ start ++ newline ∷ [])
end_of line [] b back e = (line, sym e)
end_of [] (c ∷ []) b back e = absurd (cc e)
end_of [] (c ∷ d ∷ front) b back e = absurd (cc e)
end_of (a ∷ line) (c ∷ front) b back e = end_of line front b back (rest_of e)

-- a text that ends with a line
ends_line : (start : List ℕ) → ends_with nat_eq (start ++ newline ∷ []) (newline ∷ []) ≡ true
ends_line start =
    let long = length-append start (newline ∷ []) in
    let place : length (start ++ newline ∷ []) - 1 ≡ length start = omega (arith, long) in
    rw (place, drop-append_seam start (newline ∷ [])) refl

any_of : (x y : Bool) → ((x || true) || y) ≡ true
any_of x y = grind arith

-- a text of which the line is not the first one
two_lines : (first line : List ℕ) →
    list_any (λ b. b == newline) (take (length ((first ++ newline ∷ []) ++ line ++ newline ∷ []) - 1)
    ((first ++ newline ∷ []) ++ line ++ newline ∷ [])) ≡ true
two_lines first line =
    let front = (first ++ newline ∷ []) ++ line in
    let long = length-append front (newline ∷ []) in
    let place : length (front ++ newline ∷ []) - 1 ≡ length front = omega (arith, long) in
    rw (
      place,
      take-append_seam front (newline ∷ []),
      list_any-append (λ b. b == newline) (first ++ newline ∷ []) line,
      list_any-append (λ b. b == newline) first (newline ∷ []),
    ) (any_of (list_any (λ b. b == newline) first)
    (list_any (λ b. b == newline) line))

-- two cuts of one text: the second one lies in the front, or in the back
cuts : (a b x y : List ℕ) → a ++ b ≡ x ++ y →
    ((mid : List ℕ) × (a ≡ x ++ mid) × (y ≡ mid ++ b))
    ⊎ ((mid : List ℕ) × (b ≡ mid ++ y))
cuts [] b x y e = inr (x, e)
cuts (c ∷ a) b [] y e = inl (c ∷ a, refl, sym e)
cuts (c ∷ a) b (d ∷ x) y e =
    elim (cuts a b x y (rest_of e)) [
      | inl (mid, front, back) ↦ inl (mid, cons_both (head_of e) front, back)
      | inr (mid, back) ↦ inr (mid, back)
    ]

-- whether the test of a wait fails, of a text that begins with another letter
other_start : (b : ℕ) (back : List ℕ) → b ≢ letter →
    starts_with nat_eq (b ∷ back) (codes "wait") ≡ false
other_start b back other = grind (arith, nat_tests)

no_wait : (start some : Bool) → some ≡ true → (start && not some) ≡ false
no_wait start some is = grind (arith, is)

no_cons : (start : List ℕ) (b : ℕ) (mid : List ℕ) → [] ≡ start ++ b ∷ mid → ⊥
no_cons [] b mid e = cc e
no_cons (c ∷ start) b mid e = cc e

-- a text that ends with a line is whole where the test of a wait fails
is_closed : (text : List ℕ) → ends_with nat_eq text (newline ∷ []) ≡ true → is_wait text ≡ false →
    is_whole text ≡ true
is_closed text ends other = rw (ends, other) refl

-- the end of the line of an answer is whole, unless it is empty
line_closes : (line front back : List ℕ) → Lacks letter line → line ++ newline ∷ [] ≡ front ++ back →
    is_whole back ≡ false → back ≡ []
line_closes line front [] lacks e held = refl
line_closes line front (b ∷ back) lacks e held =
    let (start, ends) = end_of line front b back e in
    let whole : Lacks letter (line ++ newline ∷ []) =
    Lacks-append letter line (newline ∷ []) lacks ((λ same. absurd (omega (arith, same))), tt) in
    let other = (lacks_back front (b ∷ back) (subst (Lacks letter) e whole)).0 in
    let waits : is_wait (b ∷ back) ≡ false = rw (other_start b back other) refl in
    let line : ends_with nat_eq (b ∷ back) (newline ∷ []) ≡ true =
    subst (λ text. ends_with nat_eq text (newline ∷ []) ≡ true) (sym ends) (ends_line start) in
    absurd (false≢true (sym held ∙ is_closed (b ∷ back) line waits))

-- a text ends with the line of an answer, or with the header, and nothing or a line is before that
pub record Closes (text : List ℕ) : Type 0 where
  pub front : List ℕ
  pub line : List ℕ
  pub lacks : Lacks letter line
  pub whole : text ≡ front ++ line ++ newline ∷ []
  pub before : (front ≡ []) ⊎ ((start : List ℕ) × (front ≡ start ++ newline ∷ []))

-- two lines of which the second one is an answer's are whole
two_whole : (first line : List ℕ) →
    is_whole ((first ++ newline ∷ []) ++ line ++ newline ∷ []) ≡ true
two_whole first line =
    let text = (first ++ newline ∷ []) ++ line ++ newline ∷ [] in
    let some = two_lines first line in
    let waits : is_wait text ≡ false = no_wait (starts_with nat_eq text (codes "wait")) _ some in
    is_closed text (ends_line ((first ++ newline ∷ []) ++ line)) waits

-- a text that ends with nothing that waits, cut in front of its last line
cut_before : (front line start mid back : List ℕ) → Lacks letter line →
    (front ≡ []) ⊎ ((start : List ℕ) × (front ≡ start ++ newline ∷ [])) →
    front ≡ start ++ mid → back ≡ mid ++ (line ++ newline ∷ []) → is_whole back ≡ false → back ≡ []
cut_before front line start [] back lacks before first second held =
    line_closes line [] back lacks (sym second) held
cut_before front line start (b ∷ mid) back lacks (inl none) first second held =
    absurd (no_cons start b mid (sym none ∙ first))
cut_before front line start (b ∷ mid) back lacks (inr (lines, ends)) first second held =
    let (more, ending) = end_of lines start b mid (sym ends ∙ first) in
    let both : back ≡ (more ++ newline ∷ []) ++ line ++ newline ∷ [] =
    second ∙ ap (λ bytes. bytes ++ (line ++ newline ∷ [])) ending
    ∙ sym (append_assoc (more ++ newline ∷ []) line (newline ∷ [])) in
    absurd (false≢true (sym held ∙ ap is_whole both ∙ two_whole more line))

-- where such a text is cut, nothing that waits comes after the cut
pub closes_at : (text : List ℕ) → Closes text → (front back : List ℕ) → text ≡ front ++ back →
    is_whole back ≡ false → back ≡ []
closes_at text closes front back e held =
    let whole = append_assoc closes.front closes.line (newline ∷ []) in
    elim (cuts closes.front (closes.line ++ newline ∷ []) front back
    (sym whole ∙ (sym closes.whole ∙ e))) [
      | inl (mid, first, second) ↦
          cut_before closes.front closes.line front mid back closes.lacks closes.before first second
          held
      | inr (mid, second) ↦ line_closes closes.line mid back closes.lacks second held
    ]

-- one more line of an answer
closes_line : (text : List ℕ) → Closes text → (reply : Reply) (answer : List ℕ) →
    IsWholeLine reply answer → Closes (text ++ answer)
closes_line text closes reply answer (line, is, ends) = record {
  front = text;
  line = line;
  lacks = lacks_line reply line is;
  whole = ap (λ bytes. text ++ bytes) ends ∙ sym (append_assoc text line (newline ∷ []));
  before = inr (closes.front ++ closes.line, closes.whole);
}

-- the lines of one more entry
closes_entry : (text : List ℕ) → Closes text → (rows : Option (List Row)) (reply : Reply)
    (lines : List ℕ) → AreLinesOf rows reply lines → Closes (text ++ lines)
closes_entry text closes None reply lines are = closes_line text closes reply lines are
closes_entry text closes (Some rows) reply lines (wait, answer, is, (line, told, ends), both) =
    record {
      front = text ++ wait ++ newline ∷ [];
      line = line;
      lacks = lacks_line reply line told;
      whole = ap (λ bytes. text ++ bytes) (both ∙ ap (λ bytes. wait ++ newline ∷ bytes) ends)
          ∙ sym (append_assoc text wait (newline ∷ line ++ newline ∷ []))
          ∙ sym (append_assoc (text ++ wait) (newline ∷ []) (line ++ newline ∷ []))
          ∙ sym (append_assoc (text ++ wait ++ newline ∷ []) line (newline ∷ []));
      before = inr (text ++ wait, refl);
    }

closes_entries : (text : List ℕ) → Closes text → (notes : List Note) (lines : List ℕ) →
    AreNotes notes lines → Closes (text ++ lines)
closes_entries text closes [] lines none = subst Closes (sym (ap (λ bytes. text ++ bytes) none
    ∙ append-nil text)) closes
closes_entries text closes (note ∷ notes) lines (first, rest, are, both, others) =
    subst Closes (append_assoc text first rest ∙ ap (λ bytes. text ++ bytes) (sym both))
    (closes_entries (text ++ first) (closes_entry text closes note.rows note.reply first are) notes
    rest others)

-- a record ends with nothing that waits
pub closes_record : (notes : List Note) (text : List ℕ) → IsSecondRecord notes text → Closes text
closes_record notes text (lines, whole, are) =
    subst Closes (sym whole) (closes_entries second_header (record {
      front = [];
      line = codes "rx-record 2";
      lacks = lacks_word (codes "rx-record 2") refl;
      whole = refl;
      before = inl refl;
    }) notes lines are)
