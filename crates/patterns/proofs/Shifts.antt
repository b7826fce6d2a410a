-- What a search that found nothing says of the window without its first bytes, or with more after
-- it.
use Rattle.std.proofs.Common.{◌≡◌, ℕ, ◌+◌, ◌-◌, ◌≤◌, false, List, [], ◌∷◌, ◌++◌, IsTrue, length, map, take, drop, refl, sym, ◌∙◌, ap, subst, inl, inr, arith, append_assoc}
use Rattle.std.specs.Prelude.{slice_range}
use Rattle.std.proofs.lemmas.Bool.{cases_lt, false≢true}
use Rattle.std.proofs.lemmas.List.{length-drop, length-append, length-take-le, take-append-le, append-nil, drop-drop, drop-append-le}
use Rattle.patterns.specs.Glob.{exact}
use Rattle.patterns.specs.Item.{Reading, literal}
use Rattle.patterns.specs.Match.{Whole, Sits, SitsNowhere, compared}
use Rattle.patterns.specs.Passed.{Passed}

-- the bytes from s up to e after the first k
range_on : (w : List ℕ) (k s e : ℕ) →
    slice_range (drop k w) s e ≡ slice_range w (s + k) (e + k)
range_on w k s e =
    let size : e - s ≡ e + k - (s + k) = omega arith in
    let place : k + s ≡ s + k = omega arith in
    ap (take (e - s)) (drop-drop s k w ∙ ap (λ (n : ℕ). drop n w) place)
    ∙ ap (λ (n : ℕ). take n (drop (s + k) w)) size

untied : (p : Reading) (n : ℕ) → p.at_start ≡ false → IsTrue p.at_start → n ≡ 0
untied p n is tied = absurd (false≢true (sym is ∙ tied))

-- where the pattern sits in the window without its first k bytes, it sits k later in the whole
-- window
pub Sits-on : (p : Reading) (w : List ℕ) (k s e : ℕ) → p.at_start ≡ false → k ≤ length w →
    Sits p (drop k w) s e → Sits p w (s + k) (e + k)
Sits-on p w k s e is inside sits = record {
  ordered = omega (arith, sits.ordered);
  within = omega (arith, sits.within, length-drop k w);
  whole = subst (λ (x : List ℕ). Whole p.items (compared p.folds x)) (range_on w k s e) sits.whole;
  at_start = untied p (s + k) is;
  at_end = λ tied. omega (arith, sits.at_end tied, length-drop k w);
}

-- without the window's first k bytes, what is known moves by k
pub Passed-drop : (p : Reading) (w : List ℕ) (k from : ℕ) → p.at_start ≡ false → k ≤ length w →
    Passed p w from → Passed p (drop k w) (from - k)
Passed-drop p w k from is inside passed = λ rest s e sits.
    let joined : drop k w ++ rest ≡ drop k (w ++ rest) = sym (drop-append-le k w rest inside) in
    let room : k ≤ length (w ++ rest) = omega (arith, length-append w rest) in
    let low = passed rest (s + k) (e + k)
    (Sits-on p (w ++ rest) k s e is room (subst (λ (x : List ℕ). Sits p x s e) joined sits)) in
    omega arith

-- with more bytes after the window, what is known stays
pub Passed-more : (p : Reading) (w more : List ℕ) (from : ℕ) → Passed p w from →
    Passed p (w ++ more) from
Passed-more p w more from passed = λ rest s e sits.
    passed (more ++ rest) s e (subst (λ (x : List ℕ). Sits p x s e) (append_assoc w more rest) sits)

-- bytes that stand for themselves take as many bytes
whole_length : (bytes t : List ℕ) → Whole (map literal bytes) t → length t ≡ length bytes
whole_length [] t whole = ap length whole
whole_length (b ∷ bytes) t (piece, rest, joined, taken, whole) =
    omega (
      arith,
      ap length joined,
      length-append piece rest,
      ap length taken,
      whole_length bytes rest whole,
    )

-- the end of an exact text
exact_end : (text w : List ℕ) (s e : ℕ) → Sits (exact text) w s e → s + length text ≡ e
exact_end text w s e sits =
    let long = length-take-le (e - s) (drop s w)
    (omega (arith, sits.ordered, sits.within, length-drop s w)) in
    omega (arith, whole_length text (slice_range w s e) sits.whole, long, sits.ordered)

-- the bytes up to e, whatever follows the window
range_before : (w rest : List ℕ) (s e : ℕ) → s ≤ e → e ≤ length w →
    slice_range (w ++ rest) s e ≡ slice_range w s e
range_before w rest s e ordered within =
    ap (take (e - s)) (drop-append-le s w rest (omega arith))
    ∙ take-append-le (e - s) (drop s w) rest (omega (arith, length-drop s w))

-- a text that sits nowhere in the window begins in its last bytes, whatever follows
pub Passed-vain : (text w : List ℕ) → SitsNowhere (exact text) w →
    Passed (exact text) w (length w + 1 - length text)
Passed-vain text w nowhere = λ rest s e sits.
    let end = exact_end text (w ++ rest) s e sits in
    elim (cases_lt (length w) e) [
      | inl behind ↦ omega arith
      | inr inside ↦ absurd (nowhere s e record {
        ordered = sits.ordered;
        within = inside;
        whole = subst (Whole (map literal text)) (range_before w rest s e sits.ordered inside)
            sits.whole;
        at_start = untied (exact text) s refl;
        at_end = λ tied. absurd (false≢true tied);
      })
    ]

-- a match of the window itself does not begin before that place
pub Passed-here : (p : Reading) (w : List ℕ) (from s e : ℕ) → Passed p w from → Sits p w s e →
    from ≤ s
Passed-here p w from s e passed sits =
    passed [] s e (subst (λ (x : List ℕ). Sits p x s e) (sym (append-nil w)) sits)

-- no match begins before place 0, which needs no search
pub Passed-nothing : (p : Reading) (w : List ℕ) → Passed p w 0
Passed-nothing p w rest s e sits = omega arith
