-- A text is read in one way.
use Rattle.std.proofs.Common.{◌≡◌, ℕ, List, [], ◌∷◌, inl, inr, Option, Some, None, Ok, Err, refl, sym, ap, subst, ◌∙◌, arith}
use Rattle.tcltext.specs.Flaw.{Flaw, after_brace}
use Rattle.tcltext.specs.Style.{Style, up_to_white, up_to_quote}
use Rattle.tcltext.specs.White.{skip_white}
use Rattle.tcltext.specs.Elements.{Next, at_end, a_stop, a_byte, no_escape, next, IsSpelled, Outcome, closed, IsBraced, QuotedEnds, BareEnds, Opening, in_braces, in_quotes, bare, opening, IsOpened, IsElement, IsElements, IsList, HasFlaw}
use Rattle.tcltext.proofs.Pairing.{one_pair}

-- no byte of the element stands next
abbrev pub NoByte : Next → Type 0
NoByte at_end = Unit {0}
NoByte (a_stop z) = Unit {0}
NoByte (a_byte b z) = ⊥
NoByte no_escape = Unit {0}

never_byte : (n : Next) (b : ℕ) (y : List ℕ) → NoByte n → n ≡ a_byte b y → ⊥
never_byte n b y h e = subst NoByte e h

pub spelled_unique : (e d : List ℕ) (s : Style) (x z y : List ℕ) → IsSpelled s e x z →
    IsSpelled s d x y → NoByte (next s z) → NoByte (next s y) → (e ≡ d) × (z ≡ y)
spelled_unique [] [] s x z y h k m n = (refl, sym h ∙ k)
spelled_unique [] (b ∷ d) s x z y h k m n =
    absurd (never_byte (next s z) b k.0 m (ap (next s) (sym h) ∙ k.1))
spelled_unique (a ∷ e) [] s x z y h k m n =
    absurd (never_byte (next s y) a h.0 n (ap (next s) (sym k) ∙ h.1))
spelled_unique (a ∷ e) (b ∷ d) s x z y h k m n =
    let same : (a ≡ b) × (k.0 ≡ h.0) = (cc, cc) in
    let rest = spelled_unique e d s h.0 z y h.2 (subst (λ w. IsSpelled s d w y) same.1 k.2) m n in
    (cc (same.0, rest.0), rest.1)

quoted_halts : (e : List ℕ) (n : Next) (r : Outcome) → QuotedEnds e n r → NoByte n
quoted_halts e at_end r h = tt
quoted_halts e (a_stop z) r h = tt
quoted_halts e (a_byte b z) r h = h
quoted_halts e no_escape r h = tt

bare_halts : (e z : List ℕ) (n : Next) (r : Outcome) → BareEnds e z n r → NoByte n
bare_halts e z at_end r h = tt
bare_halts e z (a_stop y) r h = tt
bare_halts e z (a_byte b y) r h = h
bare_halts e z no_escape r h = tt

quoted_once : (e : List ℕ) (n : Next) (r q : Outcome) → QuotedEnds e n r → QuotedEnds e n q → r ≡ q
quoted_once e at_end r q h k = h ∙ sym k
quoted_once e (a_stop z) r q h k = h ∙ sym k
quoted_once e (a_byte b z) r q h k = absurd h
quoted_once e no_escape r q h k = h ∙ sym k

bare_once : (e z : List ℕ) (n : Next) (r q : Outcome) → BareEnds e z n r → BareEnds e z n q → r ≡ q
bare_once e z at_end r q h k = h.1 ∙ sym k.1
bare_once e z (a_stop y) r q h k = h.1 ∙ sym k.1
bare_once e z (a_byte b y) r q h k = absurd h
bare_once e z no_escape r q h k = h ∙ sym k

braced_once : (x : List ℕ) (r q : Outcome) → IsBraced x r → IsBraced x q → r ≡ q
braced_once x r q (inl h) (inl k) =
    let same = one_pair x h.0 h.1 k.0 k.1 h.2 k.2 in
    h.3 ∙ ap (λ e. closed after_brace e h.1) same.0 ∙ ap (closed after_brace k.0) same.1 ∙ sym k.3
braced_once x r q (inl h) (inr k) = absurd (k.0 h.0 h.1 h.2)
braced_once x r q (inr h) (inl k) = absurd (h.0 k.0 k.1 k.2)
braced_once x r q (inr h) (inr k) = h.1 ∙ sym k.1

pub opened_once : (o : Opening) (r q : Outcome) → IsOpened o r → IsOpened o q → r ≡ q
opened_once (in_braces x) r q h k = braced_once x r q h k
opened_once (in_quotes x) r q h k =
    let same = spelled_unique h.0 k.0 up_to_quote x h.1 k.1 h.2 k.2
    (quoted_halts h.0 (next up_to_quote h.1) r h.3)
    (quoted_halts k.0 (next up_to_quote k.1) q k.3) in
    quoted_once h.0 (next up_to_quote h.1) r q h.3
    (subst (λ z. QuotedEnds h.0 (next up_to_quote z) q) (sym same.1)
    (subst (λ e. QuotedEnds e (next up_to_quote k.1) q) (sym same.0) k.3))
opened_once (bare x) r q h k =
    let same = spelled_unique h.0 k.0 up_to_white x h.1 k.1 h.2 k.2
    (bare_halts h.0 h.1 (next up_to_white h.1) r h.3)
    (bare_halts k.0 k.1 (next up_to_white k.1) q k.3) in
    bare_once h.0 h.1 (next up_to_white h.1) r q h.3
    (subst (λ z. BareEnds h.0 z (next up_to_white z) q) (sym same.1)
    (subst (λ e. BareEnds e k.1 (next up_to_white k.1) q) (sym same.0) k.3))

nothing_bare : (e z : List ℕ) (r : Outcome) → IsSpelled up_to_white e [] z →
    BareEnds e z (next up_to_white z) r → ⊥
nothing_bare [] [] r h k = absurd (omega arith)
nothing_bare [] (c ∷ z) r h k = absurd (cc)
nothing_bare (b ∷ e) z r h k = absurd (cc)

-- no element stands in an empty text
pub no_element : (y : List ℕ) (r : Outcome) → y ≡ [] → IsElement y r → ⊥
no_element y r none h = let k : IsElement [] r = subst (λ x. IsElement x r) none h in
    nothing_bare k.0 k.1 r k.2 k.3

abbrev pub Same : Outcome → Outcome → Type 0
Same r q = r ≡ q

pub flaw_apart : (f : Flaw) (p : List ℕ × List ℕ) → Same (Err f) (Ok p) → ⊥
flaw_apart f p e = cc

same_flaw : (f g : Flaw) → Same (Err f) (Err g) → f ≡ g
same_flaw f g e = cc

pub same_element : (p q : List ℕ × List ℕ) → Same (Ok p) (Ok q) → (p.0 ≡ q.0) × (p.1 ≡ q.1)
same_element p q h = let e : p ≡ q = cc in (ap (λ r. r.0) e, ap (λ r. r.1) e)

pub elements_once : (v u : List (List ℕ)) (o p : Option Flaw) (x : List ℕ) → IsElements v o x →
    IsElements u p x → (v ≡ u) × (o ≡ p)
elements_once [] [] None None x h k = (refl, refl)
elements_once [] [] None (Some g) x h k = absurd (no_element (skip_white x) (Err g) h k)
elements_once [] [] (Some f) None x h k = absurd (no_element (skip_white x) (Err f) k h)
elements_once [] [] (Some f) (Some g) x h k = (
  refl,
  ap (λ e. Some e) (same_flaw f g (opened_once (opening (skip_white x)) (Err f) (Err g) h
      k)),
)
elements_once [] (d ∷ u) None p x h k = absurd (no_element (skip_white x) (Ok (d, k.0)) h k.1)
elements_once [] (d ∷ u) (Some f) p x h k =
    absurd (flaw_apart f (d, k.0) (opened_once (opening (skip_white x)) (Err f) (Ok (d, k.0)) h
    k.1))
elements_once (e ∷ v) [] o None x h k = absurd (no_element (skip_white x) (Ok (e, h.0)) k h.1)
elements_once (e ∷ v) [] o (Some g) x h k =
    absurd (flaw_apart g (e, h.0) (opened_once (opening (skip_white x)) (Err g) (Ok (e, h.0)) k
    h.1))
elements_once (e ∷ v) (d ∷ u) o p x h k =
    let same = same_element (e, h.0) (d, k.0)
    (opened_once (opening (skip_white x)) (Ok (e, h.0)) (Ok (d, k.0)) h.1 k.1) in
    let rest = elements_once v u o p k.0 (subst (λ z. IsElements v o z) same.1 h.2) k.2 in
    (cc (same.0, rest.0), rest.1)

pub one_list : (x : List ℕ) (v u : List (List ℕ)) → IsList v x → IsList u x → v ≡ u
one_list x v u h k = (elements_once v u None None x h k).0

pub one_flaw : (x : List ℕ) (f g : Flaw) → HasFlaw f x → HasFlaw g x → f ≡ g
one_flaw x f g h k = let same = (elements_once h.0 k.0 (Some f) (Some g) x h.1 k.1).1 in cc

pub no_list_with_flaw : (x : List ℕ) (v : List (List ℕ)) (f : Flaw) → IsList v x → HasFlaw f x → ⊥
no_list_with_flaw x v f h k = let same = (elements_once v k.0 None (Some f) x h k.1).1 in cc
