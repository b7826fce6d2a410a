-- Lines of records: what they lack, and that each is of one answer.
use Rattle.std.proofs.Common.{◌≡◌, ◌≢◌, ◌<◌, ◌≤◌, ◌^◌, ℕ, Bool, true, false, not, ◌==◌, List, [], ◌∷◌, ◌++◌, drop, get_or, Option, Some, None, IfNone, codes, decimal, refl, sym, ap, subst, ◌∙◌, arith}
use Rattle.std.proofs.lemmas.Bool.{and_parts, false≢true}
use Rattle.std.proofs.lemmas.Slice.Eq.{bytes_eq-Decides}
use Rattle.std.specs.Str.{bytes_eq}
use Rattle.std.proofs.lemmas.Bool.Decides.{nat_tests}
use Rattle.std.proofs.lemmas.Fmt.{decimal_by_steps, decimal_injective}
use Rattle.std.specs.List.{list_all}
use Rattle.std.specs.Result.{result_unwrap_or}
use Rattle.std.specs.Prelude.{Result}
use Rattle.acts.specs.declared.id.Id.{Id}
use Rattle.acts.specs.Deed.{Reply}
use Rattle.acts.specs.Deed as said
use Rattle.acts.specs.Fits.{greatest_status}
use Rattle.acts.specs.Id.{id_text}
use Rattle.hex.specs.Hex.{IsBytes, decode_of, encode_lower}
use Rattle.hex.specs.declared.error.FromHexError.{FromHexError}
use Rattle.hex.proofs.HexLemmas.{decode_of-encode_lower}
use Rattle.lines.specs.Cut.{Lacks}
use Rattle.lines.specs.Line.{IsArrival, IsLine, is_lower_digit}
use Rattle.lines.proofs.Cuts.{Lacks-append, head, same_cut}
use Rattle.lines.proofs.HexTexts.{lower_text}

pub none_weaker : {T : Type 0} {P Q : Type 0} (o : Option T) → IfNone o P → (P → Q) → IfNone o Q
none_weaker None p more = more p
none_weaker (Some x) p more = tt

-- a decimal number has only digits
pub Lacks-decimal : (byte n : ℕ) → byte < 48 → n < 2 ^ 64 → Lacks byte (decimal n)
Lacks-decimal byte n other below =
    decimal_by_steps (λ _ text. Lacks byte text) (λ d small. ((λ e. absurd (omega arith)), tt))
    (λ d text large front. Lacks-append byte text _ front ((λ e. absurd (omega arith)), tt)) n below

-- a decimal number has no byte above the digits
pub Lacks-decimal_above : (byte n : ℕ) → 57 < byte → n < 2 ^ 64 → Lacks byte (decimal n)
Lacks-decimal_above byte n other below =
    decimal_by_steps (λ _ text. Lacks byte text) (λ d small. ((λ e. absurd (omega arith)), tt))
    (λ d text large front. Lacks-append byte text _ front ((λ e. absurd (omega arith)), tt)) n below

-- an id has no blank
pub Lacks-id : (n : ℕ) → n < 2 ^ 64 → Lacks 32 (id_text n)
Lacks-id n below = (
  (λ e. absurd (omega arith)),
  (
    (λ e. absurd (omega arith)),
    ((λ e. absurd (omega arith)), Lacks-decimal 32 n (omega arith) below),
  ),
)

lower_other : (b : ℕ) → is_lower_digit b ≡ true → b ≢ 10
lower_other b lower e = grind (arith, nat_tests)

other : (b : ℕ) → not (b == 10) ≡ true → b ≢ 10
other b test e = grind (arith, nat_tests)

Lacks-lower : (text : List ℕ) → list_all is_lower_digit text ≡ true → Lacks 10 text
Lacks-lower [] lower = tt
Lacks-lower (b ∷ text) lower =
    let (here, others) = and_parts (is_lower_digit b) _ lower in
    (lower_other b here, Lacks-lower text others)

lacks_literal : (text : List ℕ) → list_all (λ b. not (b == 10)) text ≡ true → Lacks 10 text
lacks_literal [] test = tt
lacks_literal (b ∷ text) test =
    let (here, others) = and_parts (not (b == 10)) _ test in
    (other b here, lacks_literal text others)

-- the parts of an arrival's line
pub arrival_parts : (line name digits : List ℕ) (n : ℕ) (bytes : List ℕ) → n < 2 ^ 64
    → line ≡ codes "arrive " ++ (name ++ (codes " " ++ digits)) → Lacks 32 name
    → line ≡ codes "arrive " ++ (id_text n ++ (codes " " ++ encode_lower bytes))
    → (name ≡ id_text n) × (digits ≡ encode_lower bytes)
arrival_parts line name digits n bytes below cut lacks whole =
    same_cut 32 name (id_text n) digits (encode_lower bytes) lacks (Lacks-id n below)
    (ap (drop 7) (sym cut ∙ whole))

-- a line of none of the forms of the other answers' lines is of no answer but an arrival
pub only_arrival : (line : List ℕ) → line ≢ codes "done" → line ≢ codes "refused"
    → line ≢ codes "exited -" → line ≢ codes "timeout"
    → ((sent : ℕ) → sent < 2 ^ 64 → line ≢ codes "failed " ++ decimal sent)
    → ((pid : ℕ) → pid < 2 ^ 64 → line ≢ codes "started " ++ decimal pid)
    → ((status : ℕ) → status ≤ greatest_status → line ≢ codes "exited " ++ decimal status)
    → ((n : ℕ) → n < 2 ^ 64 → line ≢ codes "ended " ++ id_text n)
    → (reply : Reply) → IsLine reply line → IsArrival reply
only_arrival line done refused killed timeout failed started exited ended said.Done is =
    absurd (done is)
only_arrival line done refused killed timeout failed started exited ended (said.Failed sent) is =
    absurd (failed sent is.0 is.1)
only_arrival line done refused killed timeout failed started exited ended (said.Started pid) is =
    absurd (started pid is.0 is.1)
only_arrival line done refused killed timeout failed started exited ended said.Refused is =
    absurd (refused is)
only_arrival line done refused killed timeout failed started exited ended (said.Exited None) is =
    absurd (killed is)
only_arrival line done refused killed timeout failed started exited ended
    (said.Exited (Some status)) is = absurd (exited status is.0 is.1)
only_arrival line done refused killed timeout failed started exited ended
    (said.Arrive id bytes) is = tt
only_arrival line done refused killed timeout failed started exited ended (said.Ended id) is =
    absurd (ended id.0 is.0 is.1)
only_arrival line done refused killed timeout failed started exited ended said.TimedOut is =
    absurd (timeout is)
only_arrival line done refused killed timeout failed started exited ended said.NoMore is =
    absurd is

-- a word without a newline and a number have no newline
Lacks-number : (word : List ℕ) (n : ℕ) → list_all (λ b. not (b == 10)) word ≡ true → n < 2 ^ 64 →
    Lacks 10 (word ++ decimal n)
Lacks-number word n test below =
    Lacks-append 10 word (decimal n) (lacks_literal word test)
    (Lacks-decimal 10 n (omega arith) below)

Lacks-name : (n : ℕ) → n < 2 ^ 64 → Lacks 10 (id_text n)
Lacks-name n below = Lacks-number (codes "exp") n refl below

-- no line has a newline in it
pub Lacks-line : (reply : Reply) (line : List ℕ) → IsLine reply line → Lacks 10 line
Lacks-line said.Done line is = rw is (lacks_literal (codes "done") refl)
Lacks-line (said.Failed sent) line is = rw is.1 (Lacks-number (codes "failed ") sent refl is.0)
Lacks-line (said.Started pid) line is = rw is.1 (Lacks-number (codes "started ") pid refl is.0)
Lacks-line said.Refused line is = rw is (lacks_literal (codes "refused") refl)
Lacks-line (said.Exited None) line is = rw is (lacks_literal (codes "exited -") refl)
Lacks-line (said.Exited (Some status)) line is =
    let small = is.0 in
    rw is.1 (Lacks-number (codes "exited ") status refl (omega arith))
Lacks-line (said.Arrive id bytes) line is =
    let digits = Lacks-lower (encode_lower bytes) (lower_text bytes is.1) in
    let blank = Lacks-append 10 (codes " ") (encode_lower bytes) (lacks_literal (codes " ") refl)
    digits in
    let rest = Lacks-append 10 (id_text id.0) (codes " " ++ encode_lower bytes)
    (Lacks-name id.0 is.0) blank in
    rw is.2 (Lacks-append 10 (codes "arrive ") (id_text id.0 ++ (codes " " ++ encode_lower bytes))
    (lacks_literal (codes "arrive ") refl) rest)
Lacks-line (said.Ended id) line is =
    rw is.1 (Lacks-append 10 (codes "ended ") (id_text id.0) (lacks_literal (codes "ended ") refl)
    (Lacks-name id.0 is.0))
Lacks-line said.TimedOut line is = rw is (lacks_literal (codes "timeout") refl)
Lacks-line said.NoMore line is = absurd is

-- the second letter of the word of an answer, which no two kinds share
abbrev letter : Reply → ℕ
letter said.Done = 111
letter (said.Failed sent) = 97
letter (said.Started pid) = 116
letter said.Refused = 101
letter (said.Exited status) = 120
letter (said.Arrive id bytes) = 114
letter (said.Ended id) = 110
letter said.TimedOut = 105
letter said.NoMore = 0

abbrev second : List ℕ → ℕ
second line = get_or line 1 0

-- the second byte of an answer's line is this letter
lettered : (reply : Reply) (line : List ℕ) → IsLine reply line → second line ≡ letter reply
lettered said.Done line is = ap second is
lettered (said.Failed sent) line is = ap second is.1
lettered (said.Started pid) line is = ap second is.1
lettered said.Refused line is = ap second is
lettered (said.Exited None) line is = ap second is
lettered (said.Exited (Some status)) line is = ap second is.1
lettered (said.Arrive id bytes) line is = ap second is.2
lettered (said.Ended id) line is = ap second is.1
lettered said.TimedOut line is = ap second is
lettered said.NoMore line is = absurd is

is_done : (reply : Reply) → letter reply ≡ 111 → reply ≡ said.Done
is_done said.Done e = refl
is_done _ e = absurd (omega (arith, e))

is_failed : (reply : Reply) → letter reply ≡ 97 → (sent : ℕ) × (reply ≡ said.Failed sent)
is_failed (said.Failed sent) e = (sent, refl)
is_failed _ e = absurd (omega (arith, e))

is_started : (reply : Reply) → letter reply ≡ 116 → (pid : ℕ) × (reply ≡ said.Started pid)
is_started (said.Started pid) e = (pid, refl)
is_started _ e = absurd (omega (arith, e))

is_refused : (reply : Reply) → letter reply ≡ 101 → reply ≡ said.Refused
is_refused said.Refused e = refl
is_refused _ e = absurd (omega (arith, e))

is_exited : (reply : Reply) → letter reply ≡ 120 →
    (status : Option ℕ) × (reply ≡ said.Exited status)
is_exited (said.Exited status) e = (status, refl)
is_exited _ e = absurd (omega (arith, e))

is_arrive : (reply : Reply) → letter reply ≡ 114 →
    (id : Id) × (bytes : List ℕ) × (reply ≡ said.Arrive id bytes)
is_arrive (said.Arrive id bytes) e = (id, bytes, refl)
is_arrive _ e = absurd (omega (arith, e))

is_ended : (reply : Reply) → letter reply ≡ 110 → (id : Id) × (reply ≡ said.Ended id)
is_ended (said.Ended id) e = (id, refl)
is_ended _ e = absurd (omega (arith, e))

is_timeout : (reply : Reply) → letter reply ≡ 105 → reply ≡ said.TimedOut
is_timeout said.TimedOut e = refl
is_timeout _ e = absurd (omega (arith, e))

same_id : (a b : Id) → a.0 ≡ b.0 → a ≡ b
same_id a b e = ap (λ (n : ℕ). record { 0 = n }) e

-- no line begins with two different bytes
pub heads_differ : (a b : ℕ) (x y : List ℕ) (line : List ℕ) → a ≢ b → line ≡ a ∷ x → line ≡ b ∷ y → ⊥
heads_differ a b x y line differ is is' = differ (head (sym is ∙ is'))

-- ids that are spelled alike are the same
pub same_name : (a b : Id) → a.0 < 2 ^ 64 → b.0 < 2 ^ 64 → id_text a.0 ≡ id_text b.0 → a ≡ b
same_name a b below below' e = same_id a b (decimal_injective a.0 b.0 below below' (ap (drop 3) e))

same_hex : (a b : List ℕ) → IsBytes a → IsBytes b → encode_lower a ≡ encode_lower b → a ≡ b
same_hex a b small small' e =
    ap (λ (r : Result (List ℕ) FromHexError). result_unwrap_or r [])
    (sym (decode_of-encode_lower a small) ∙ ap decode_of e ∙ decode_of-encode_lower b small')

same_arrival : (a b : Id) (x y : List ℕ) → a ≡ b → x ≡ y → said.Arrive a x ≡ said.Arrive b y
same_arrival a b x y e f = cc (e, f)

-- a number has no dash
no_dash : (n : ℕ) → n < 2 ^ 64 → codes "-" ≡ decimal n → ⊥
no_dash n below e =
    (subst (λ text. Lacks 45 text) (sym e) (Lacks-decimal 45 n (omega arith) below)).0 refl

-- the line of a process that ended is of one status
same_exit : (a b : Option ℕ) (line : List ℕ) → IsLine (said.Exited a) line
    → IsLine (said.Exited b) line → a ≡ b
same_exit None None line is is' = refl
same_exit None (Some status) line is is' =
    let small = is'.0 in
    absurd (no_dash status (omega arith) (ap (drop 7) (sym is ∙ is'.1)))
same_exit (Some status) None line is is' =
    let small = is.0 in
    absurd (no_dash status (omega arith) (ap (drop 7) (sym is' ∙ is.1)))
same_exit (Some status) (Some status') line is is' =
    let small = is.0 in
    let small' = is'.0 in
    ap Some (decimal_injective status status' (omega arith) (omega arith)
    (ap (drop 7) (sym is.1 ∙ is'.1)))

-- two answers of the same line are of the same kind
same_kind : (a b : Reply) (line : List ℕ) → IsLine a line → IsLine b line → letter b ≡ letter a
same_kind a b line is is' = sym (lettered b line is') ∙ lettered a line is

-- no answer's line begins as that of a wait does
pub no_wait : (reply : Reply) (line rest : List ℕ) → IsLine reply line → line ≡ 119 ∷ rest → ⊥
no_wait said.Done line rest is e = heads_differ 100 119 _ _ line (λ e. omega arith) is e
no_wait (said.Failed sent) line rest is e =
    heads_differ 102 119 _ _ line (λ e. omega arith) is.1 e
no_wait (said.Started pid) line rest is e =
    heads_differ 115 119 _ _ line (λ e. omega arith) is.1 e
no_wait said.Refused line rest is e = heads_differ 114 119 _ _ line (λ e. omega arith) is e
no_wait (said.Exited None) line rest is e = heads_differ 101 119 _ _ line (λ e. omega arith) is e
no_wait (said.Exited (Some status)) line rest is e =
    heads_differ 101 119 _ _ line (λ e. omega arith) is.1 e
no_wait (said.Arrive id bytes) line rest is e =
    heads_differ 97 119 _ _ line (λ e. omega arith) is.2 e
no_wait (said.Ended id) line rest is e =
    heads_differ 101 119 _ _ line (λ e. omega arith) is.1 e
no_wait said.TimedOut line rest is e = heads_differ 116 119 _ _ line (λ e. omega arith) is e
no_wait said.NoMore line rest is e = is

-- a line is of one answer
pub same_line : (a b : Reply) (line : List ℕ) → IsLine a line → IsLine b line → a ≡ b
same_line said.Done b line is is' = sym (is_done b (same_kind said.Done b line is is'))
same_line (said.Failed sent) b line is is' =
    let (sent', e) = is_failed b (same_kind (said.Failed sent) b line is is') in
    let other : IsLine (said.Failed sent') line = rw e at is' in
    ap said.Failed (decimal_injective sent sent' is.0 other.0 (ap (drop 7) (sym is.1 ∙ other.1)))
    ∙ sym e
same_line (said.Started pid) b line is is' =
    let (pid', e) = is_started b (same_kind (said.Started pid) b line is is') in
    let other : IsLine (said.Started pid') line = rw e at is' in
    ap said.Started (decimal_injective pid pid' is.0 other.0 (ap (drop 8) (sym is.1 ∙ other.1)))
    ∙ sym e
same_line said.Refused b line is is' = sym (is_refused b (same_kind said.Refused b line is is'))
same_line (said.Exited status) b line is is' =
    let kind : letter b ≡ 120 = sym (lettered b line is') ∙ lettered (said.Exited status) line is in
    let (status', e) = is_exited b kind in
    let other : IsLine (said.Exited status') line = rw e at is' in
    ap said.Exited (same_exit status status' line is other) ∙ sym e
same_line (said.Arrive id bytes) b line is is' =
    let (id', bytes', e) = is_arrive b (same_kind (said.Arrive id bytes) b line is is') in
    let other : IsLine (said.Arrive id' bytes') line = rw e at is' in
    let (name, digits) = arrival_parts line (id_text id.0) (encode_lower bytes) id'.0 bytes' other.0
    is.2 (Lacks-id id.0 is.0) other.2 in
    same_arrival id id' bytes bytes' (same_name id id' is.0 other.0 name)
    (same_hex bytes bytes' is.1 other.1 digits) ∙ sym e
same_line (said.Ended id) b line is is' =
    let (id', e) = is_ended b (same_kind (said.Ended id) b line is is') in
    let other : IsLine (said.Ended id') line = rw e at is' in
    ap said.Ended (same_name id id' is.0 other.0 (ap (drop 6) (sym is.1 ∙ other.1))) ∙ sym e
same_line said.TimedOut b line is is' = sym (is_timeout b (same_kind said.TimedOut b line is is'))
same_line said.NoMore b line is is' = absurd is

-- an answer has one line
pub one_line : (reply : Reply) (a b : List ℕ) → IsLine reply a → IsLine reply b → a ≡ b
one_line said.Done a b is is' = is ∙ sym is'
one_line (said.Failed sent) a b is is' = is.1 ∙ sym is'.1
one_line (said.Started pid) a b is is' = is.1 ∙ sym is'.1
one_line said.Refused a b is is' = is ∙ sym is'
one_line (said.Exited None) a b is is' = is ∙ sym is'
one_line (said.Exited (Some status)) a b is is' = is.1 ∙ sym is'.1
one_line (said.Arrive id bytes) a b is is' = is.2 ∙ sym is'.2
one_line (said.Ended id) a b is is' = is.1 ∙ sym is'.1
one_line said.TimedOut a b is is' = is ∙ sym is'
one_line said.NoMore a b is is' = absurd is

-- a line that is found to be unequal to a word is not that word
pub other_text : (line word given : List ℕ) (same : Bool) → same ≡ bytes_eq line given → given
    ≡ word → same ≡ false → line ≢ word
other_text line word given same test is differs e =
    absurd (false≢true (sym differs ∙ test ∙ (bytes_eq-Decides line given).1 (e ∙ sym is)))
