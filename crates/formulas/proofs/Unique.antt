-- Each text is one formula or has one fault.
use Rattle.std.proofs.Common.{◌≡◌, ℕ, ◌-◌, List, [], ◌∷◌, Option, Some, None, Result, Ok, Err, inl, inr, refl, sym, ap, subst, ◌∙◌, arith}
use Rattle.tcltext.proofs.Pairing.{one_pair}
use Rattle.tclparse.specs.declared.operator.Function.{Function}
use Rattle.tclparse.specs.declared.operator.Infix.{Infix}
use Rattle.tclparse.specs.Tree.{Parts, no_parts, element, script, bytes_then}
use Rattle.tclparse.specs.Context.{bracketed}
use Rattle.tclparse.specs.Piece as words
use Rattle.tclparse.specs.Piece.{within_quotes, within_index, next_part}
use Rattle.tclparse.specs.Grammar.{Outcome, index_closed, bracket_closed, IsParts, IsCommands}
use Rattle.tclparse.specs.Formula.{Formula, text}
use Rattle.tclparse.specs.FormulaFault.{FormulaFault}
use Rattle.tclparse.specs.FormulaText.{Operand, leaf, prefixed, enclosed, called, Whole, whole, Rest, over, joined, chosen, Arguments, last, further, nothing_whole, whole_tree}
use Rattle.tclparse.specs.FormulaPiece.{Leaf, no_leaf, a_numeral, a_word, in_quotes, in_braces, a_substitution, Opening, a_leaf, a_prefix, a_parenthesis, a_call, opening, Following, end, fault, an_infix, a_choice, following}
use Rattle.tclparse.specs.FormulaGrammar.{FormulaOutcome, from_words, Goes, closed, quote_closed, behind_comma, ended, IsQuoted, IsInBraces, IsSubstitution, IsLeaf, IsLeafAt, IsOver, IsOperand, IsWhole, IsRest, IsArguments, IsFormula}
use Rattle.tclparse.proofs.Braced.{one_value}
use Rattle.tclparse.proofs.Unique.{parts_unique, commands_unique}

quoted_unique : (d : ℕ) (ps qs : Parts) (x : List ℕ) (o p : Outcome) → IsQuoted d ps x o →
    IsQuoted d qs x p → (ps ≡ qs) × (o ≡ p)
quoted_unique d ps qs x o p h k =
    let one = parts_unique ps qs within_quotes d x h.0 k.0 h.1 k.1 in
    (one.0, h.2 ∙ ap quote_closed one.1 ∙ sym k.2)

braces_unique : (ps qs : Parts) (x : List ℕ) (o p : Outcome) → IsInBraces ps x o → IsInBraces qs x p
    → (ps ≡ qs) × (o ≡ p)
braces_unique ps qs x o p (inl h) (inl k) =
    let pair = one_pair x h.0 h.1 k.0 k.1 h.3 k.3 in
    let value = one_value h.2 h.0 k.2 k.0 h.4 k.4 pair.0 in
    (h.5 ∙ ap (λ v. bytes_then v no_parts) value ∙ sym k.5, h.6 ∙ ap Ok pair.1 ∙ sym k.6)
braces_unique ps qs x o p (inl h) (inr k) = absurd (k.0 h.0 h.1 h.3)
braces_unique ps qs x o p (inr h) (inl k) = absurd (h.0 k.0 k.1 k.3)
braces_unique ps qs x o p (inr h) (inr k) = (h.1 ∙ sym k.1, h.2 ∙ sym k.2)

substitution_unique : (n : words.Next) (d : ℕ) (ps qs : Parts) (o p : FormulaOutcome) →
    IsSubstitution d ps n o → IsSubstitution d qs n p → (ps ≡ qs) × (o ≡ p)
substitution_unique words.end d ps qs o p h k = (h.0 ∙ sym k.0, h.1 ∙ sym k.1)
substitution_unique (words.fault f) d ps qs o p h k = (h.0 ∙ sym k.0, h.1 ∙ sym k.1)
substitution_unique (words.a_byte b z) d ps qs o p h k = (h.0 ∙ sym k.0, h.1 ∙ sym k.1)
substitution_unique (words.a_name n z) d ps qs o p h k = (h.0 ∙ sym k.0, h.1 ∙ sym k.1)
substitution_unique (words.an_index n z) d ps qs o p h k =
    let one = parts_unique h.0 k.0 within_index (d - 1) z h.1 k.1 h.2 k.2 in (
      h.3 ∙ ap (λ is. element n is no_parts) one.0 ∙ sym k.3,
      h.4
          ∙ ap (λ r. from_words (index_closed r)) one.1 ∙ sym k.4,
    )
substitution_unique (words.an_element n i z) d ps qs o p h k = (h.0 ∙ sym k.0, h.1 ∙ sym k.1)
substitution_unique (words.a_bracket z) d ps qs o p h k =
    let one = commands_unique h.0 k.0 bracketed (d - 1) z h.1 k.1 h.2 k.2 in (
      h.3 ∙ ap (λ cs. script cs no_parts) one.0 ∙ sym k.3,
      h.4
          ∙ ap (λ r. from_words (bracket_closed r)) one.1 ∙ sym k.4,
    )

leaf_unique : (l : Leaf) (d : ℕ) (f g : Formula) (o p : FormulaOutcome) → IsLeaf d f l o →
    IsLeaf d g l p → (f ≡ g) × (o ≡ p)
leaf_unique (no_leaf e) d f g o p h k = (h.0 ∙ sym k.0, h.1 ∙ sym k.1)
leaf_unique (a_numeral s z) d f g o p h k = (h.0 ∙ sym k.0, h.1 ∙ sym k.1)
leaf_unique (a_word s z) d f g o p h k = (h.0 ∙ sym k.0, h.1 ∙ sym k.1)
leaf_unique (in_quotes z) d f g o p h k =
    let one = quoted_unique d h.0 k.0 z h.2 k.2 h.3 k.3 in
    (h.1 ∙ ap text one.0 ∙ sym k.1, h.4 ∙ ap from_words one.1 ∙ sym k.4)
leaf_unique (in_braces z) d f g o p h k =
    let one = braces_unique h.0 k.0 z h.2 k.2 h.3 k.3 in
    (h.1 ∙ ap text one.0 ∙ sym k.1, h.4 ∙ ap from_words one.1 ∙ sym k.4)
leaf_unique (a_substitution z) d f g o p h k =
    let one = substitution_unique (next_part d z) d h.0 k.0 o p h.2 k.2 in
    (h.1 ∙ ap text one.0 ∙ sym k.1, one.1)

leaf_at_unique : (l : Opening) (d : ℕ) (f g : Formula) (o p : FormulaOutcome) → IsLeafAt d f l o →
    IsLeafAt d g l p → (f ≡ g) × (o ≡ p)
leaf_at_unique (a_leaf l) d f g o p h k = leaf_unique l d f g o p h k
leaf_at_unique (a_prefix u z) d f g o p h k = absurd h
leaf_at_unique (a_parenthesis z) d f g o p h k = absurd h
leaf_at_unique (a_call n z) d f g o p h k = absurd h

-- the next bytes say which constructor an operand has
abbrev opening_tag : Opening → ℕ
opening_tag (a_leaf l) = 0
opening_tag (a_prefix u z) = 1
opening_tag (a_parenthesis z) = 2
opening_tag (a_call g z) = 3

abbrev operand_tag : Operand → ℕ
operand_tag (leaf f) = 0
operand_tag (prefixed u a) = 1
operand_tag (enclosed w) = 2
operand_tag (called g args) = 3

leaf_tag : (l : Opening) (d : ℕ) (f : Formula) (o : FormulaOutcome) → IsLeafAt d f l o →
    opening_tag l ≡ 0
leaf_tag (a_leaf l) d f o h = refl
leaf_tag (a_prefix u z) d f o h = absurd h
leaf_tag (a_parenthesis z) d f o h = absurd h
leaf_tag (a_call g z) d f o h = absurd h

operand_tag_is : (a : Operand) (d : ℕ) (x : List ℕ) (o : FormulaOutcome) → IsOperand d a x o →
    opening_tag (opening d x) ≡ operand_tag a
operand_tag_is (leaf f) d x o h = leaf_tag (opening d x) d f o h
operand_tag_is (prefixed u a) d x o h = ap opening_tag h.1
operand_tag_is (enclosed w) d x o h = ap opening_tag h.1
operand_tag_is (called g args) d x o h = ap opening_tag h.1

-- the bytes after an operand say which constructor stands for what follows it
abbrev following_tag : Following → ℕ
following_tag (end z) = 0
following_tag (fault e) = 0
following_tag (an_infix i z) = 1
following_tag (a_choice z) = 2

abbrev rest_tag : Rest → ℕ
rest_tag over = 0
rest_tag (joined i a t) = 1
rest_tag (chosen v w) = 2

over_tag : (n : Following) (o : FormulaOutcome) → IsOver n o → following_tag n ≡ 0
over_tag (end z) o h = refl
over_tag (fault e) o h = refl
over_tag (an_infix i z) o h = absurd h
over_tag (a_choice z) o h = absurd h

rest_tag_is : (t : Rest) (d : ℕ) (x : List ℕ) (o : FormulaOutcome) → IsRest d t x o →
    following_tag (following d x) ≡ rest_tag t
rest_tag_is over d x o h = over_tag (following d x) o h
rest_tag_is (joined i a t) d x o h = ap following_tag h.1
rest_tag_is (chosen v w) d x o h = ap following_tag h.1

over_unique : (n : Following) (o p : FormulaOutcome) → IsOver n o → IsOver n p → o ≡ p
over_unique (end z) o p h k = h ∙ sym k
over_unique (fault e) o p h k = h ∙ sym k
over_unique (an_infix i z) o p h k = absurd h
over_unique (a_choice z) o p h k = absurd h

goes_unique : {T : Type 0} (nil t u : T) (K : T → List ℕ → FormulaOutcome → Type 0)
    (r o p : FormulaOutcome) → Goes r (t ≡ nil) (λ w. K t w o) o → Goes r (u ≡ nil) (λ w. K u w p) p
    → ((w : List ℕ) → K t w o → K u w p → (t ≡ u) × (o ≡ p)) → (t ≡ u) × (o ≡ p)
goes_unique nil t u K (Ok w) o p h k same = same w h k
goes_unique nil t u K (Err f) o p h k same = (h.0 ∙ sym k.0, h.1 ∙ sym k.1)

mutual
  operand_unique : (a b : Operand) (d : ℕ) (x : List ℕ) (o p : FormulaOutcome) → IsOperand d a x o →
      IsOperand d b x p → (a ≡ b) × (o ≡ p)
  operand_unique (leaf f) (leaf g) d x o p h k =
      let one = leaf_at_unique (opening d x) d f g o p h k in (ap leaf one.0, one.1)
  operand_unique (prefixed u a) (prefixed v b) d x o p h k =
      let same : (u ≡ v) × (k.0 ≡ h.0) = (cc (h.1, k.1), cc (h.1, k.1)) in
      let one = operand_unique a b (d - 1) h.0 o p h.2
      (subst (λ z. IsOperand (d - 1) b z p) same.1 k.2) in
      (cc (same.0, one.0), one.1)
  operand_unique (enclosed v) (enclosed w) d x o p h k =
      let same : k.0 ≡ h.0 = cc (h.1, k.1) in
      let one = whole_unique v w (d - 1) h.0 h.2 k.2 h.3
      (subst (λ z. IsWhole (d - 1) w z k.2) same k.3) in
      (ap enclosed one.0, h.4 ∙ ap (closed 41) one.1 ∙ sym k.4)
  operand_unique (called f cs) (called g bs) d x o p h k =
      let same : (f ≡ g) × (k.0 ≡ h.0) = (cc (h.1, k.1), cc (h.1, k.1)) in
      let one = arguments_unique cs bs f (d - 1) h.0 o p h.2
      (subst (λ m. IsArguments (d - 1) m bs h.0 p) (sym same.0)
      (subst (λ z. IsArguments (d - 1) g bs z p) same.1 k.2)) in
      (cc (same.0, one.0), one.1)
  operand_unique a b d x o p h k =
      let one = operand_tag_is a d x o h in
      let other = operand_tag_is b d x p k in
      absurd (omega arith)

  whole_unique : (v w : Whole) (d : ℕ) (x : List ℕ) (o p : FormulaOutcome) → IsWhole d v x o →
      IsWhole d w x p → (v ≡ w) × (o ≡ p)
  whole_unique (whole a t) (whole b u) d x o p h k =
      let first = operand_unique a b d x h.0 k.0 h.1 k.1 in
      let rest = goes_unique over t u (λ r z q. IsRest d r z q) h.0 o p h.2
      (subst (λ r. Goes r (u ≡ over) (λ z. IsRest d u z p) p) (sym first.1) k.2)
      (λ z m n. rest_unique t u d z o p m n) in
      (cc (first.0, rest.0), rest.1)

  rest_unique : (t u : Rest) (d : ℕ) (x : List ℕ) (o p : FormulaOutcome) → IsRest d t x o →
      IsRest d u x p → (t ≡ u) × (o ≡ p)
  rest_unique over over d x o p h k = (refl, over_unique (following d x) o p h k)
  rest_unique (joined i a t) (joined j b u) d x o p h k =
      let same : (i ≡ j) × (k.0 ≡ h.0) = (cc (h.1, k.1), cc (h.1, k.1)) in
      let first = operand_unique a b d h.0 h.2 k.2 h.3 (subst (λ z. IsOperand d b z k.2) same.1 k.3)
      in
      let rest = goes_unique over t u (λ r z q. IsRest d r z q) h.2 o p h.4
      (subst (λ r. Goes r (u ≡ over) (λ z. IsRest d u z p) p) (sym first.1) k.4)
      (λ z m n. rest_unique t u d z o p m n) in
      (cc (same.0, first.0, rest.0), rest.1)
  rest_unique (chosen a c) (chosen b e) d x o p h k =
      let same : k.0 ≡ h.0 = cc (h.1, k.1) in
      let first = whole_unique a b (d - 1) h.0 h.2 k.2 h.3
      (subst (λ z. IsWhole (d - 1) b z k.2) same k.3) in
      let second = goes_unique nothing_whole c e (λ r z q. IsWhole (d - 1) r z q) (closed 58 h.2) o
      p h.4
      (subst (λ r. Goes (closed 58 r) (e ≡ nothing_whole) (λ z. IsWhole (d - 1) e z p) p)
      (sym first.1) k.4)
      (λ z m n. whole_unique c e (d - 1) z o p m n) in
      (cc (first.0, second.0), second.1)
  rest_unique t u d x o p h k =
      let one = rest_tag_is t d x o h in
      let other = rest_tag_is u d x p k in
      absurd (omega arith)

  arguments_unique : (cs bs : Arguments) (g : Function) (d : ℕ) (x : List ℕ) (o p : FormulaOutcome)
      → IsArguments d g cs x o → IsArguments d g bs x p → (cs ≡ bs) × (o ≡ p)
  arguments_unique (last v) (last w) g d x o p h k =
      let one = whole_unique v w d x h.0 k.0 h.1 k.1 in
      (ap last one.0, h.3 ∙ ap (closed 41) one.1 ∙ sym k.3)
  arguments_unique (last v) (further w bs) g d x o p h k =
      let one = whole_unique v w d x h.0 k.0 h.1 k.1 in
      let clash : None ≡ Some k.2 = sym h.2 ∙ ap (behind_comma g) one.1 ∙ k.3 in absurd (cc (clash))
  arguments_unique (further v cs) (last w) g d x o p h k =
      let one = whole_unique v w d x h.0 k.0 h.1 k.1 in
      let clash : Some h.2 ≡ None = sym h.3 ∙ ap (behind_comma g) one.1 ∙ k.2 in absurd (cc (clash))
  arguments_unique (further v cs) (further w bs) g d x o p h k =
      let one = whole_unique v w d x h.0 k.0 h.1 k.1 in
      let at : Some h.2 ≡ Some k.2 = sym h.3 ∙ ap (behind_comma g) one.1 ∙ k.3 in
      let same : k.2 ≡ h.2 = cc (at) in
      let rest = arguments_unique cs bs g d h.2 o p h.4
      (subst (λ z. IsArguments d g bs z p) same k.4) in
      (cc (one.0, rest.0), rest.1)

pub one_formula : (x : List ℕ) (a b : Result Formula FormulaFault) → IsFormula a x → IsFormula b x →
    a ≡ b
one_formula x (Ok f) (Ok g) h k =
    let one = whole_unique h.0 k.0 100 x (Ok []) (Ok []) h.1 k.1 in
    ap Ok (h.2 ∙ ap whole_tree one.0 ∙ sym k.2)
one_formula x (Ok f) (Err e) h k =
    let one = whole_unique h.0 k.0 100 x (Ok []) k.1 h.1 k.2 in
    let clash : Ok [] ≡ Err e = ap ended one.1 ∙ k.3 in absurd (cc (clash))
one_formula x (Err e) (Ok g) h k =
    let one = whole_unique h.0 k.0 100 x h.1 (Ok []) h.2 k.1 in
    let clash : Err e ≡ Ok [] = sym h.3 ∙ ap ended one.1 in absurd (cc (clash))
one_formula x (Err e) (Err f) h k =
    let one = whole_unique h.0 k.0 100 x h.1 k.1 h.2 k.2 in
    let at : ended h.1 ≡ ended k.1 = ap ended one.1 in
    let same : e ≡ f = cc (h.3, at, k.3) in ap Err same
