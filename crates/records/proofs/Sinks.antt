-- Chains of puts.
use Rattle.std.proofs.Common.{◌≡◌, ◌≢◌, ℕ, Bool, true, false, List, [], ◌∷◌, ◌++◌, length, take, refl, sym, ap, ◌∙◌, append_assoc, append-nil, take-append-drop, drop, ◌<◌, subst, arith}
use Rattle.std.specs.List.{concat}
use Rattle.std.proofs.lemmas.Bool.{false≢true}
use Rattle.std.proofs.lemmas.Bool.Decides.{nat_tests}
use Rattle.std.proofs.lemmas.List.Folds.{concat-append}
use Rattle.records.specs.Sink.{Puts, Gets, Takes, fails_at}

-- one more put
pub Puts-more : {S : Type 0} (adds : S → List ℕ → S → Type 0) (before mid after : S)
    (pieces : List (List ℕ)) (piece : List ℕ)
    → Puts adds before pieces mid → adds mid piece after →
    Puts adds before (pieces ++ piece ∷ []) after
Puts-more adds before mid after [] piece same step =
    (after, subst (λ s. adds s piece after) (sym same) step, refl)
Puts-more adds before mid after (p ∷ ps) piece (next, first, others) step =
    (next, first, Puts-more adds next mid after ps piece others step)

-- what a sink got so far, and one more put
pub Gets-more : {S : Type 0} (adds : S → List ℕ → S → Type 0) (before mid after : S)
    (front piece : List ℕ)
    → Gets adds before front mid → adds mid piece after → Gets adds before (front ++ piece) after
Gets-more adds before mid after front piece (pieces, puts, joined) step =
    let whole : front ++ piece ≡ concat (pieces ++ piece ∷ []) =
    ap (λ bytes. bytes ++ piece) joined ∙ ap (λ bytes. concat pieces ++ bytes)
    (sym (append-nil piece)) ∙ sym (concat-append pieces (piece ∷ [])) in
    (pieces ++ piece ∷ [], Puts-more adds before mid after pieces piece puts step, whole)

-- a sink that failed before it had taken the whole text took a part of it
pub Takes-part : {S : Type 0} (adds : S → List ℕ → S → Type 0) (failed : S → Bool)
    (before after : S) (text front rest : List ℕ)
    → failed before ≡ false → failed after ≡ true → Gets adds before front after → text ≡ front
    ++ rest → rest ≢ []
    → Takes adds failed before text after
Takes-part adds failed before after text front rest had has gets split some =
    rw (had, has) (front, rest, gets, split, some)

-- a put that took nothing of some bytes fails
pub fails_at-nothing : (had : Bool) (bytes : List ℕ) (taken : ℕ) → taken ≡ 0 → 0 < length bytes →
    fails_at had bytes taken ≡ true
fails_at-nothing had bytes taken none some = grind (arith, nat_tests)

-- a put that took something does not fail a sink
pub fails_at-something : (had : Bool) (bytes : List ℕ) (taken : ℕ) → had ≡ false → taken ≢ 0 →
    fails_at had bytes taken ≡ false
fails_at-something had bytes taken well some = grind (arith, nat_tests)

-- the bytes of one more put move from the rest to what is done
pub moved : (text done rest : List ℕ) (n : ℕ) → text ≡ done ++ rest → text ≡ (done ++ take n rest)
    ++ drop n rest
moved text done rest n split =
    split ∙ ap (λ bytes. done ++ bytes) (sym (take-append-drop n rest))
    ∙ sym (append_assoc done (take n rest) (drop n rest))

-- where nothing of a text was taken, the untaken rest is not empty
pub left_over : (rest : List ℕ) (n : ℕ) → n ≡ 0 → 0 < length rest → drop n rest ≢ []
left_over rest n none some = λ empty.
    let same : drop n rest ≡ rest = rw none refl in
    let e = ap length (sym same ∙ empty) in
    absurd (omega (arith, e))

-- one chain of puts after another
Puts-append : {S : Type 0} (adds : S → List ℕ → S → Type 0) (before mid after : S)
    (first second : List (List ℕ))
    → Puts adds before first mid → Puts adds mid second after →
    Puts adds before (first ++ second) after
Puts-append adds before mid after [] second same puts =
    subst (λ s. Puts adds s second after) (sym same) puts
Puts-append adds before mid after (p ∷ ps) second (next, put, others) puts =
    (next, put, Puts-append adds next mid after ps second others puts)

pub Gets-append : {S : Type 0} (adds : S → List ℕ → S → Type 0) (before mid after : S) (x y : List ℕ)
    → Gets adds before x mid → Gets adds mid y after → Gets adds before (x ++ y) after
Gets-append adds before mid after x y (xs, puts, is) (ys, puts', is') =
    let whole : x ++ y ≡ concat (xs ++ ys) =
    ap (λ front. front ++ y) is ∙ ap (λ back. concat xs ++ back) is' ∙ sym (concat-append xs ys) in
    (xs ++ ys, Puts-append adds before mid after xs ys puts puts', whole)

some_front : (front rest : List ℕ) → front ≢ [] → front ++ rest ≢ []
some_front [] rest some e = some refl
some_front (c ∷ front) rest some e = cc e

takes_both : {S : Type 0} (adds : S → List ℕ → S → Type 0) (failed : S → Bool)
    (before mid after : S) (x y : List ℕ) (b m a : Bool)
    → failed before ≡ b → failed mid ≡ m → failed after ≡ a
    → Takes adds failed before x mid → Takes adds failed mid y after →
    Takes adds failed before (x ++ y) after
takes_both adds failed before mid after x y true true a eb em ea t u =
    rw eb (rw eb at t ∙ rw em at u)
takes_both adds failed before mid after x y true false a eb em ea t u =
    let same = rw eb at t in
    absurd (false≢true (sym em ∙ ap failed (sym same) ∙ eb))
takes_both adds failed before mid after x y false true a eb em ea t u =
    let (front, rest, gets, split, some) = rw (eb, em) at t in
    let same = rw em at u in
    let has : failed after ≡ true = ap failed (sym same) ∙ em in
    let whole = ap (λ text. text ++ y) split ∙ append_assoc front rest y in
    rw (eb, has) (
      front,
      rest ++ y,
      subst (λ s. Gets adds before front s) same gets,
      whole,
      some_front rest y some,
    )
takes_both adds failed before mid after x y false false true eb em ea t u =
    let gets = rw (eb, em) at t in
    let (front, rest, more, split, some) = rw (em, ea) at u in
    let whole = ap (λ text. x ++ text) split ∙ sym (append_assoc x front rest) in
    rw (eb, ea) (x ++ front, rest, Gets-append adds before mid after x front gets more, whole, some)
takes_both adds failed before mid after x y false false false eb em ea t u =
    let gets = rw (eb, em) at t in
    let more = rw (em, ea) at u in
    rw (eb, ea) (Gets-append adds before mid after x y gets more)

-- a sink that takes a text, and then another, takes both joined
pub Takes-then : {S : Type 0} (adds : S → List ℕ → S → Type 0) (failed : S → Bool)
    (before mid after : S) (x y : List ℕ)
    → Takes adds failed before x mid → Takes adds failed mid y after →
    Takes adds failed before (x ++ y) after
Takes-then adds failed before mid after x y t u =
    takes_both adds failed before mid after x y (failed before) (failed mid) (failed after) refl
    refl refl t u

takes_none : {S : Type 0} (adds : S → List ℕ → S → Type 0) (failed : S → Bool) (before : S)
    (b : Bool) → failed before ≡ b
    → Takes adds failed before [] before
takes_none adds failed before true e = rw e refl
takes_none adds failed before false e = rw e ([], refl, refl)

-- taking an empty text leaves a sink as it is
pub Takes-none : {S : Type 0} (adds : S → List ℕ → S → Type 0) (failed : S → Bool) (before : S) →
    Takes adds failed before [] before
Takes-none adds failed before = takes_none adds failed before (failed before) refl
