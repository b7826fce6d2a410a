-- Records: each list of answers has one text at most, no two lists have the same, and a text that
-- has a bad line is of none.
use Rattle.std.proofs.Common.{◌≡◌, ◌≢◌, ℕ, suc, List, [], ◌∷◌, ◌++◌, length, length-append, map, drop, refl, sym, ap, ◌∙◌, ◌+◌, ◌≤◌, arith}
use Rattle.std.proofs.lemmas.List.{append_assoc, length_push, map_push}
use Rattle.std.specs.List.{AllByRecursion}
use Rattle.acts.specs.Deed.{Reply}
use Rattle.lines.specs.Line.{BeginsWithLine, HasLine, IsLine}
use Rattle.lines.proofs.Cuts.{same_cut}
use Rattle.lines.proofs.Lines.{Lacks-line, one_line, same_line}
use Rattle.records.specs.Record.{AreLines, IsFirstBad, IsRecord, header}

-- a whole line and what follows it
pub whole_rest : (text line rest : List ℕ) → text ≡ line ++ 10 ∷ []
    → text ++ rest ≡ line ++ 10 ∷ rest
whole_rest text line rest e = ap (λ front. front ++ rest) e ∙ append_assoc line (10 ∷ []) rest

-- where texts that begin with lines are equal, so are the answers and the rests
same_first : (a b : Reply) (x y rest after : List ℕ) → IsLine a x → IsLine b y → x ++ 10 ∷ rest ≡ y
    ++ 10 ∷ after → (a ≡ b) × (rest ≡ after)
same_first a b x y rest after is is' e =
    let (line, others) = same_cut 10 x y rest after (Lacks-line a x is) (Lacks-line b y is') e in
    (same_line a b y (rw line at is) is', others)

-- a text that begins with a line is not the empty text of no answers
no_lines : (line rest text : List ℕ) → text ≡ line ++ 10 ∷ rest → text ≡ [] → ⊥
no_lines [] rest text is empty = absurd (cc (is, empty))
no_lines (c ∷ line) rest text is empty = absurd (cc (is, empty))

-- lists of equal first answers and equal others are equal
pub same_cons : (a b : Reply) (others more : List Reply) → a ≡ b → others ≡ more →
    a ∷ others ≡ b ∷ more
same_cons a b others more e f = cc (e, f)

-- no two lists have the same lines
pub same_answers : (a b : List Reply) (text : List ℕ) → AreLines a text → AreLines b text → a ≡ b
same_answers [] [] text la lb = refl
same_answers [] (b ∷ more) text la lb = absurd (no_lines lb.0 lb.1 text lb.3 la)
same_answers (a ∷ others) [] text la lb = absurd (no_lines la.0 la.1 text la.3 lb)
same_answers (a ∷ others) (b ∷ more) text la lb =
    let (first, rest) = same_first a b la.0 lb.0 la.1 lb.1 la.2 lb.2 (sym la.3 ∙ lb.3) in
    same_cons a b others more first (same_answers others more lb.1 (rw rest at la.4) lb.4)

-- a list has one text
pub same_text : (replies : List Reply) (a b : List ℕ) → AreLines replies a → AreLines replies b → a
    ≡ b
same_text [] a b la lb = la ∙ sym lb
same_text (reply ∷ replies) a b la lb =
    let line = one_line reply la.0 lb.0 la.2 lb.2 in
    let others = same_text replies la.1 lb.1 la.4 lb.4 in
    la.3 ∙ ap (λ front. front ++ 10 ∷ la.1) line ∙ ap (λ after. lb.0 ++ 10 ∷ after) others
    ∙ sym lb.3

-- no text stands after a front of the empty text
pub nothing_after : (front rest : List ℕ) → [] ≡ front ++ rest → rest ≡ []
nothing_after [] rest e = sym e
nothing_after (c ∷ front) rest e = cc e

begins : (reply : Reply) (line rest text bad : List ℕ) → IsLine reply line → text ≡ line ++ 10
    ∷ rest → text ≡ bad → BeginsWithLine bad
begins reply line rest text bad is e f = (reply, line, rest, is, sym f ∙ e)

-- what follows the first line
next : (a b : Reply) (x y rest after bad text good : List ℕ) → IsLine a x → IsLine b y → text ≡ x
    ++ 10 ∷ rest
    → text ≡ good ++ bad → good ≡ y ++ 10 ∷ after → rest ≡ after ++ bad
next a b x y rest after bad text good is is' e f h =
    (same_first a b x y rest (after ++ bad) is is'
    (sym e ∙ f ∙ ap (λ front. front ++ bad) h ∙ append_assoc y (10 ∷ after) bad)).1

-- the text of a list has no bad line
pub no_bad : (a g : List Reply) (text good bad : List ℕ) → AreLines a text → AreLines g good → text
    ≡ good ++ bad
    → bad ≢ [] → ¬ BeginsWithLine bad → ⊥
no_bad [] g text good bad la lg e some none = some (nothing_after good bad (sym la ∙ e))
no_bad (a ∷ others) [] text good bad la lg e some none =
    none (begins a la.0 la.1 text bad la.2 la.3 (e ∙ ap (λ front. front ++ bad) lg))
no_bad (a ∷ others) (h ∷ g) text good bad la lg e some none =
    no_bad others g la.1 lg.1 bad la.4 lg.4 (next a h la.0 lg.0 la.1 lg.1 bad text good la.2 lg.2
    la.3 e lg.3) some none

-- a text has one first bad line
pub same_bad : (a b : List Reply) (text good fair bad ill : List ℕ) → AreLines a good →
    AreLines b fair
    → text ≡ good ++ bad → text ≡ fair ++ ill → ¬ BeginsWithLine bad → ¬ BeginsWithLine ill →
    length a ≡ length b
same_bad [] [] text good fair bad ill la lb e f none none' = refl
same_bad [] (b ∷ more) text good fair bad ill la lb e f none none' =
    absurd (none (begins b lb.0 (lb.1 ++ ill) text bad lb.2 (f ∙ ap (λ front. front ++ ill) lb.3
    ∙ append_assoc lb.0 (10 ∷ lb.1) ill) (e ∙ ap (λ front. front ++ bad) la)))
same_bad (a ∷ others) [] text good fair bad ill la lb e f none none' =
    absurd (none' (begins a la.0 (la.1 ++ bad) text ill la.2 (e ∙ ap (λ front. front ++ bad) la.3
    ∙ append_assoc la.0 (10 ∷ la.1) bad) (f ∙ ap (λ front. front ++ ill) lb)))
same_bad (a ∷ others) (b ∷ more) text good fair bad ill la lb e f none none' =
    let rest = next a b la.0 lb.0 (la.1 ++ bad) lb.1 ill text fair la.2 lb.2 (e
    ∙ ap (λ front. front ++ bad) la.3 ∙ append_assoc la.0 (10 ∷ la.1) bad) f lb.3 in
    ap suc (same_bad others more (la.1 ++ bad) la.1 lb.1 bad ill la.4 lb.4 refl rest none none')

-- two texts that follow the header in the same text are equal
pub after_header : (text x y : List ℕ) → text ≡ header ++ x → text ≡ header ++ y → x ≡ y
after_header text x y e f = ap (drop 12) (sym e ∙ f)

-- a text is the record of one list
pub one_list : (a b : List Reply) (text : List ℕ) → IsRecord a text → IsRecord b text → a ≡ b
one_list a b text (lines, whole, are) (lines', whole', are') =
    same_answers a b lines are (rw (after_header text lines' lines whole' whole) at are')

-- one more line at the end
pub AreLines-more : (replies : List Reply) (text : List ℕ) (reply : Reply) (line : List ℕ) →
    AreLines replies text → IsLine reply line
    → AreLines (replies ++ reply ∷ []) (text ++ (line ++ 10 ∷ []))
AreLines-more [] text reply line before is =
    (line, [], is, ap (λ front. front ++ (line ++ 10 ∷ [])) before, refl)
AreLines-more (first ∷ replies) text reply line before is =
    let last = line ++ 10 ∷ [] in (
      before.0,
      before.1 ++ last,
      before.2,
      ap (λ front. front ++ last) before.3 ∙ append_assoc before.0 (10 ∷ before.1) last,
      AreLines-more replies before.1 reply line before.4 is,
    )

-- what was read and what is still unread, after one more line
pub one_line_on : (lines good rest line after : List ℕ) → lines ≡ good ++ rest → rest ≡ line ++ 10
    ∷ after
    → lines ≡ (good ++ (line ++ 10 ∷ [])) ++ after
one_line_on lines good rest line after e f =
    e ∙ ap (λ tail. good ++ tail) (f ∙ sym (append_assoc line (10 ∷ []) after))
    ∙ sym (append_assoc good (line ++ 10 ∷ []) after)

-- a record has no bad line
pub no_bad_line : (replies : List Reply) (text : List ℕ) (n : ℕ) → IsRecord replies text →
    IsFirstBad text n → ⊥
no_bad_line replies text n (lines, whole, are) (count, others, number, whole', bad) =
    no_bad replies bad.replies lines bad.good bad.bad are bad.before
    (after_header text lines others whole whole' ∙ bad.whole) bad.some bad.none

-- a text has one first bad line
pub one_bad_line : (text : List ℕ) (m n : ℕ) → IsFirstBad text m → IsFirstBad text n → m ≡ n
one_bad_line text m n (count, lines, number, whole, bad) (count', lines', number', whole', bad') =
    let same = same_bad bad.replies bad'.replies lines bad.good bad'.good bad.bad bad'.bad
    bad.before bad'.before bad.whole
    (after_header text lines lines' whole whole' ∙ bad'.whole) bad.none bad'.none in
    let e = bad.number in
    let e' = bad'.number in
    omega arith

-- each list of answers that have lines has a text
pub some_lines : (replies : List Reply) → AllByRecursion HasLine replies → (text : List ℕ)
    × AreLines replies text
some_lines [] all = ([], refl)
some_lines (reply ∷ replies) ((line, is), all) =
    let (rest, are) = some_lines replies all in
    (line ++ 10 ∷ rest, (line, rest, is, refl, are))

-- what holds while lines are read still holds after one more line
pub read_on : {T : Type 0} (view : T → Reply) (lines good rest after : List ℕ)
    (before items : List T) (answer : T)
    → lines ≡ good ++ rest → AreLines (map view before) good → length before
    + length rest ≤ length lines
    → (line : List ℕ) × IsLine (view answer) line × (rest ≡ line ++ 10 ∷ after) → items ≡ before
    ++ answer ∷ []
    → (found : List ℕ) × (lines ≡ found ++ after) × AreLines (map view items) found
    × (length items + length after ≤ length lines)
read_on view lines good rest after before items answer whole are room (line, is, cut) more =
    let views : map view items ≡ map view before ++ view answer ∷ [] =
    ap (map view) more ∙ map_push view before answer in
    let long : length rest ≡ length line + suc (length after) =
    ap length cut ∙ length-append line (10 ∷ after) in
    let count : length items ≡ length before + 1 = ap length more ∙ length_push before answer in (
      good ++ (line ++ 10 ∷ []),
      one_line_on lines good rest line after whole cut,
      rw views (AreLines-more (map view before) good (view answer) line are is),
      omega arith,
    )
