-- What is written reads back.
use Rattle.std.proofs.Common.{◌≡◌, ◌≢◌, nat_le, ℕ, zero, suc, ◌+◌, ◌-◌, ◌<◌, ◌==◌, ◌&&◌, ◌++◌, List, [], ◌∷◌, inl, inr, length, Bool, true, false, not, cond, None, Ok, refl, sym, ap, subst, ◌∙◌, append_assoc, add-one, arith}
use Rattle.std.proofs.lemmas.Bool.Decides.{eqb_tells, nat_tests}
use Rattle.std.proofs.lemmas.Bool.{eqb-true}
use Rattle.std.specs.List.{list_any}
use Rattle.tcltext.proofs.Choices.{and_true, or_false, not_true}
use Rattle.tcltext.specs.Flaw.{Flaw}
use Rattle.tcltext.specs.Style.{up_to_white}
use Rattle.tcltext.specs.Escape.{escape}
use Rattle.tcltext.specs.White.{is_white, skip_white, ends_element}
use Rattle.tcltext.specs.Balanced.{IsBalanced, nothing}
use Rattle.tcltext.specs.Elements.{a_byte, escaped, next, IsSpelled, bare, opening, IsOpened, IsElement, IsElements, IsList, HasFlaw}
use Rattle.tcltext.specs.Canonical.{is_special, is_comment, is_empty, is_bare, pairs_up, is_braceable, escape_name, escaped_bytes, written, joined, canonical}
use Rattle.tcltext.proofs.Pairing.{Closes, closes_byte, closes_open, closes_close}
use Rattle.tcltext.proofs.Spellings.{bare_ends}
use Rattle.tcltext.proofs.Unique.{one_list, no_list_with_flaw}

-- The byte is not white space and none of the other special bytes
abbrev IsPlain : ℕ → Type 0
IsPlain c = (is_white c ≡ false) × ((c == 34) ≡ false) × ((c == 123) ≡ false) × ((c == 125) ≡ false)
    × ((c == 92) ≡ false)

plain : (c : ℕ) → is_special c ≡ false → IsPlain c
plain c h =
    let a = or_false (is_white c) _ h in
    let b = or_false (c == 59) _ a.1 in
    let d = or_false (c == 34) _ b.1 in
    let e = or_false (c == 36) _ d.1 in
    let f = or_false (c == 91) _ e.1 in
    let g = or_false (c == 93) _ f.1 in
    let i = or_false (c == 123) _ g.1 in
    let j = or_false (c == 125) _ i.1 in
    (a.0, d.0, i.0, j.0, j.1)

-- a plain byte is itself
next_plain : (c : ℕ) (x : List ℕ) → IsPlain c → next up_to_white (c ∷ x) ≡ a_byte c x
next_plain c x h = rw (h.0, h.4) refl

opening_plain : (c : ℕ) (x : List ℕ) → IsPlain c → opening (c ∷ x) ≡ bare (c ∷ x)
opening_plain c x h = rw (h.2, h.1) refl

-- a backslash and the name of the byte c stand for c
abbrev Escapes : ℕ → List ℕ → Type 0
Escapes c x = escape (escape_name c ∷ x) ≡ Ok (c, x)

no_white : (c : ℕ) → c ≢ 9 → c ≢ 10 → c ≢ 11 → c ≢ 12 → c ≢ 13 → (nat_le 9 c && nat_le c 13) ≡ false
no_white c a b d e f = grind (arith, nat_tests)

special_apart : (c : ℕ) → is_special c ≡ true → is_special c ≡ false → ⊥
special_apart c h k = cc

-- each special byte is escaped by its name
special_cases : (c : ℕ) → is_special c ≡ true → (x : List ℕ) → Escapes c x
special_cases c h x =
    elim (eqb_tells c 32) [
      | inl p ↦ subst (λ n. Escapes n x) (sym p.1) refl
      | inr p32 ↦ elim (eqb_tells c 9) [
        | inl p ↦ subst (λ n. Escapes n x) (sym p.1) refl
        | inr p9 ↦ elim (eqb_tells c 10) [
          | inl p ↦ subst (λ n. Escapes n x) (sym p.1) refl
          | inr p10 ↦ elim (eqb_tells c 11) [
            | inl p ↦ subst (λ n. Escapes n x) (sym p.1) refl
            | inr p11 ↦ elim (eqb_tells c 12) [
              | inl p ↦ subst (λ n. Escapes n x) (sym p.1) refl
              | inr p12 ↦ elim (eqb_tells c 13) [
                | inl p ↦ subst (λ n. Escapes n x) (sym p.1) refl
                | inr p13 ↦ elim (eqb_tells c 59) [
                  | inl p ↦ subst (λ n. Escapes n x) (sym p.1) refl
                  | inr p59 ↦ elim (eqb_tells c 34) [
                    | inl p ↦ subst (λ n. Escapes n x) (sym p.1) refl
                    | inr p34 ↦ elim (eqb_tells c 36) [
                      | inl p ↦ subst (λ n. Escapes n x) (sym p.1) refl
                      | inr p36 ↦ elim (eqb_tells c 91) [
                        | inl p ↦ subst (λ n. Escapes n x) (sym p.1) refl
                        | inr p91 ↦ elim (eqb_tells c 93) [
                          | inl p ↦ subst (λ n. Escapes n x) (sym p.1) refl
                          | inr p93 ↦ elim (eqb_tells c 123) [
                            | inl p ↦ subst (λ n. Escapes n x) (sym p.1) refl
                            | inr p123 ↦ elim (eqb_tells c 125) [
                              | inl p ↦ subst (λ n. Escapes n x) (sym p.1) refl
                              | inr p125 ↦ elim (eqb_tells c 92) [
                                | inl p ↦ subst (λ n. Escapes n x) (sym p.1) refl
                                | inr p92 ↦ let white = no_white c p9.1 p10.1 p11.1 p12.1 p13.1 in
                                    absurd (special_apart c h
                                    (rw (
                                      p32.0,
                                      p59.0,
                                      p34.0,
                                      p36.0,
                                      p91.0,
                                      p93.0,
                                      p123.0,
                                      p125.0,
                                      p92.0,
                                      white,
                                    ) refl))
                              ]
                            ]
                          ]
                        ]
                      ]
                    ]
                  ]
                ]
              ]
            ]
          ]
        ]
      ]
    ]

next_special : (c : ℕ) (x : List ℕ) → is_special c ≡ true →
    next up_to_white (92 ∷ escape_name c ∷ x) ≡ a_byte c x
next_special c x h = ap escaped (special_cases c h x)

spelled_plain : (e z : List ℕ) → list_any is_special e ≡ false → IsSpelled up_to_white e (e ++ z) z
spelled_plain [] z h = refl
spelled_plain (c ∷ e) z h =
    let p = or_false (is_special c) (list_any is_special e) h in
    (e ++ z, next_plain c (e ++ z) (plain c p.0), spelled_plain e z p.1)

spelled_escaped_at : (c : ℕ) (e z : List ℕ) (b : Bool) → is_special c ≡ b →
    IsSpelled up_to_white e (escaped_bytes e ++ z) z
    → IsSpelled up_to_white (c ∷ e)
    ((cond b (92 ∷ escape_name c ∷ escaped_bytes e) (c ∷ escaped_bytes e)) ++ z) z
spelled_escaped_at c e z true h so = (
  escaped_bytes e ++ z,
  next_special c (escaped_bytes e ++ z) h,
  so,
)
spelled_escaped_at c e z false h so =
    (escaped_bytes e ++ z, next_plain c (escaped_bytes e ++ z) (plain c h), so)

spelled_escaped : (e z : List ℕ) → IsSpelled up_to_white e (escaped_bytes e ++ z) z
spelled_escaped [] z = refl
spelled_escaped (c ∷ e) z = spelled_escaped_at c e z (is_special c) refl (spelled_escaped e z)

-- An element's text begins with no white, and reads as the element.
abbrev pub ReadsAs : List ℕ → List ℕ → List ℕ → Type 0
ReadsAs e t z = (skip_white (t ++ z) ≡ t ++ z) × IsElement (t ++ z) (Ok (e, z))

-- a bare text that does not begin with white space reads as its element
bare_reads : (e z : List ℕ) (c : ℕ) (x : List ℕ) → opening (c ∷ x) ≡ bare (c ∷ x) → is_white c
    ≡ false → IsSpelled up_to_white e (c ∷ x) z → ends_element z ≡ true → 0 < length e
    → (skip_white (c ∷ x) ≡ c ∷ x) × IsElement (c ∷ x) (Ok (e, z))
bare_reads e z c x begins black spelled ends some = (
  rw black refl,
  subst (λ o. IsOpened o (Ok (e, z))) (sym begins) (
    e,
    z,
    spelled,
    bare_ends e z ends some,
  ),
)

reads_plain : (e z : List ℕ) → is_empty e ≡ false → list_any is_special e ≡ false → ends_element z
    ≡ true → ReadsAs e e z
reads_plain [] z some h ends = absurd (cc)
reads_plain (c ∷ e) z some h ends =
    let p = plain c (or_false (is_special c) (list_any is_special e) h).0 in
    bare_reads (c ∷ e) z c (e ++ z) (opening_plain c (e ++ z) p) p.0 (spelled_plain (c ∷ e) z h)
    ends (omega arith)

reads_escaped_at : (c : ℕ) (e z : List ℕ) (b : Bool) → is_special c ≡ b → ends_element z ≡ true →
    ReadsAs (c ∷ e) (cond b (92 ∷ escape_name c ∷ escaped_bytes e) (c ∷ escaped_bytes e)) z
reads_escaped_at c e z true h ends =
    let x = escaped_bytes e ++ z in
    bare_reads (c ∷ e) z 92 (escape_name c ∷ x) refl refl (
      x,
      next_special c x h,
      spelled_escaped e z,
    ) ends (omega arith)
reads_escaped_at c e z false h ends =
    let x = escaped_bytes e ++ z in
    let p = plain c h in
    bare_reads (c ∷ e) z c x (opening_plain c x p) p.0 (x, next_plain c x p, spelled_escaped e z)
    ends (omega arith)

reads_escaped : (e z : List ℕ) → is_empty e ≡ false → ends_element z ≡ true →
    ReadsAs e (escaped_bytes e) z
reads_escaped [] z some ends = absurd (cc)
reads_escaped (c ∷ e) z some ends = reads_escaped_at c e z (is_special c) refl ends

reads_comment_at : (c : ℕ) (e z : List ℕ) → c ≡ 35 → ends_element z ≡ true →
    ReadsAs (c ∷ e) (92 ∷ escaped_bytes (c ∷ e)) z
reads_comment_at c e z h ends =
    let x = escaped_bytes e ++ z in
    subst (λ b. ReadsAs (b ∷ e) (92 ∷ escaped_bytes (b ∷ e)) z) (sym h)
    (bare_reads (35 ∷ e) z 92 (35 ∷ x) refl refl (x, refl, spelled_escaped e z) ends
    (omega arith))

reads_comment : (first : Bool) (e z : List ℕ) → is_comment first e ≡ true → ends_element z ≡ true →
    ReadsAs e (92 ∷ escaped_bytes e) z
reads_comment first [] z h ends = absurd (cc)
reads_comment first (c ∷ e) z h ends =
    elim (eqb_tells c 35) [
      | inl p ↦ reads_comment_at c e z p.1 ends
      | inr p ↦ let q = (and_true first (c == 35) h).1 in absurd (cc (p.0, q))
    ]

closing : (k : ℕ) (e : List ℕ) → (not (k == 0) && pairs_up (k - 1) e) ≡ true →
    ((j : ℕ) → pairs_up j e ≡ true → Closes j e) → Closes k (125 ∷ e)
closing zero e h so = absurd (cc)
closing (suc k) e h so =
    let back : suc k - 1 ≡ k = omega arith in
    let more = (and_true (not (suc k == 0)) (pairs_up (suc k - 1) e) h).1 in
    closes_close k e (so k (subst (λ j. pairs_up j e ≡ true) back more))

-- where there is no backslash, the braces that pair up close what is open
pairs_close : (e : List ℕ) (k : ℕ) → list_any (λ c. c == 92) e ≡ false → pairs_up k e ≡ true →
    Closes k e
pairs_close [] k h p = subst (λ j. Closes j []) (sym (eqb-true k 0 p)) nothing
pairs_close (c ∷ e) k h p =
    let apart = or_false (c == 92) (list_any (λ d. d == 92) e) h in
    elim (eqb_tells c 123) [
      | inl q ↦
          let rest : pairs_up (k + 1) e ≡ true = rw q.0 at p in
          subst (λ b. Closes k (b ∷ e)) (sym q.1)
          (closes_open k e (subst (λ j. Closes j e) (add-one k)
          (pairs_close e (k + 1) apart.1 rest)))
      | inr q ↦ elim (eqb_tells c 125) [
        | inl r ↦
            let rest : (not (k == 0) && pairs_up (k - 1) e) ≡ true = rw (q.0, r.0) at p in
            subst (λ b. Closes k (b ∷ e)) (sym r.1)
            (closing k e rest (λ j more. pairs_close e j apart.1 more))
        | inr r ↦
            let rest : pairs_up k e ≡ true = rw (q.0, r.0) at p in
            closes_byte k c e (rw (apart.0, q.0, r.0) refl) (pairs_close e k apart.1 rest)
      ]
    ]

braced_reads : (e z : List ℕ) → is_braceable e ≡ true → ends_element z ≡ true →
    ReadsAs e (123 ∷ (e ++ 125 ∷ [])) z
braced_reads e z h ends =
    let p = and_true (not (list_any (λ c. c == 92) e)) (pairs_up 0 e) h in
    let balanced : IsBalanced e = pairs_close e 0 (not_true _ p.0) p.1 in
    (refl, inl (e, z, (append_assoc e (125 ∷ []) z, balanced), rw ends refl))

not_comment : (first : Bool) (e : List ℕ) → is_bare first e ≡ true → (is_empty e ≡ false)
    × (list_any is_special e ≡ false)
not_comment first e h =
    let p = and_true (not (is_empty e)) _ h in
    let q = and_true (not (is_comment first e)) _ p.1 in
    (not_true _ p.0, not_true _ q.1)

not_empty : (e : List ℕ) → is_braceable e ≡ false → is_empty e ≡ false
not_empty [] h = absurd (cc)
not_empty (c ∷ e) h = refl

-- an element reads back, whichever way it is written
written_by : (first : Bool) (e z : List ℕ) (a b d : Bool) → is_bare first e ≡ a → is_braceable e ≡ b
    → is_comment first e ≡ d → ends_element z ≡ true
    → ReadsAs e (cond a e (cond b (123 ∷ (e ++ 125 ∷ []))
    (cond d (92 ∷ escaped_bytes e) (escaped_bytes e)))) z
written_by first e z true b d h k m ends = let p = not_comment first e h in
    reads_plain e z p.0 p.1 ends
written_by first e z false true d h k m ends = braced_reads e z k ends
written_by first e z false false true h k m ends = reads_comment first e z m ends
written_by first e z false false false h k m ends = reads_escaped e z (not_empty e k) ends

element_written : (first : Bool) (e z : List ℕ) → ends_element z ≡ true →
    ReadsAs e (written first e) z
element_written first e z ends = written_by first e z (is_bare first e) (is_braceable e)
    (is_comment first e) refl refl refl ends

joined_ends : (v : List (List ℕ)) → ends_element (joined false v) ≡ true
joined_ends [] = refl
joined_ends (e ∷ v) = refl

white_first : (first : Bool) (x : List ℕ) → skip_white ((cond first [] (32 ∷ [])) ++ x)
    ≡ skip_white x
white_first true x = refl
white_first false x = refl

joined_reads : (v : List (List ℕ)) (first : Bool) → IsElements v None (joined first v)
joined_reads [] first = refl
joined_reads (e ∷ v) first =
    let rest = joined false v in
    let is = element_written first e rest (joined_ends v) in (
      rest,
      subst (λ x. IsElement x (Ok (e, rest)))
          (sym (white_first first (written first e ++ rest) ∙ is.0)) is.1,
      joined_reads v false,
    )

pub reads_back : (v : List (List ℕ)) → IsList v (canonical v)
reads_back v = joined_reads v true

pub reads_back_alone : (v u : List (List ℕ)) → IsList u (canonical v) → u ≡ v
reads_back_alone v u h = one_list (canonical v) u v h (reads_back v)

pub written_has_no_flaw : (v : List (List ℕ)) (f : Flaw) → HasFlaw f (canonical v) → ⊥
written_has_no_flaw v f h = no_list_with_flaw (canonical v) v f (reads_back v) h
