-- The formula of each text can be spelled.
use Rattle.std.proofs.Common.{◌≡◌, ℕ, ◌-◌, ◌==◌, List, [], ◌∷◌, length, true, Some, None, Ok, Err, inl, inr, refl, sym, ap, subst, arith}
use Rattle.tclparse.specs.Tree.{Parts}
use Rattle.tclparse.specs.Context.{bracketed}
use Rattle.tclparse.specs.Piece as words
use Rattle.tclparse.specs.Piece.{within_quotes, within_index, next_part, next}
use Rattle.tclparse.specs.Grammar.{Outcome, bracket_closed, index_closed, IsParts, IsCommands}
use Rattle.tclparse.specs.declared.operator.Function.{Function}
use Rattle.tclparse.specs.declared.operator.Function.TheVariants.{Abs, Min, Max}
use Rattle.tclparse.specs.Formula.{Formula, formula}
use Rattle.tclparse.specs.Grouping.{grouped}
use Rattle.tclparse.specs.FormulaText.{Operand, leaf, prefixed, enclosed, called, Whole, whole, Rest, over, joined, chosen, Arguments, last, further, nothing_whole, operand_tree, whole_tree, rest_links, rest_tree, argument_trees}
use Rattle.tclparse.specs.FormulaPiece.{no_leaf, a_numeral, a_word, in_quotes, in_braces, a_substitution, Opening, a_leaf, a_prefix, a_parenthesis, a_call, opening, a_choice}
use Rattle.tclparse.specs.FormulaGrammar.{FormulaOutcome, from_words, Goes, closed, quote_closed, behind_comma, IsQuoted, IsInBraces, IsSubstitution, IsLeafAt, IsOperand, IsWhole, IsRest, IsArguments, IsFormula}
use Rattle.tclparse.proofs.Spelling.{if_known}
use Rattle.tclparse.proofs.SpelledTrees.{bracket_open, index_open}
use Rattle.formulas.specs.Spellable.{takes, IsSpellable, AreAllSpellable, ArePartsSpellable}
use Rattle.formulas.proofs.Shorter.{OpeningLess, FollowingLess, opening_less, following_less}
use Rattle.formulas.proofs.RowTexts.{level_range}
use Rattle.formulas.proofs.SpellableParts.{bytes_spell, parts_spell, commands_spell, PartSpells, part_spells}
use Rattle.formulas.proofs.SpellableNumerals.{OpensNumber, opening_number}
use Rattle.formulas.proofs.SpellableRows.{formula_more, AreAbove, grouped_spells}

from_is : (r : Outcome) (z : List ℕ) → Ok z ≡ from_words r → r ≡ Ok z
from_is (Ok y) z h = let same : y ≡ z = cc (h) in ap Ok same
from_is (Err f) z h = absurd (cc (h))

quote_is : (r : Outcome) (z : List ℕ) → Ok z ≡ quote_closed r → (c : ℕ) × (r ≡ Ok (c ∷ z))
quote_is (Ok []) z h = absurd (cc (h))
quote_is (Ok (c ∷ y)) z h = let same : y ≡ z = cc (h) in (c, ap (λ l. Ok (c ∷ l)) same)
quote_is (Err f) z h = absurd (cc (h))

quoted_spells : (d : ℕ) (ps : Parts) (x z : List ℕ) → IsQuoted d ps x (Ok z) →
    ArePartsSpellable d ps
quoted_spells d ps x z h =
    let k = quote_is h.0 z h.2 in
    parts_spell ps within_quotes d x (k.0 ∷ z)
    (subst (λ r. IsParts within_quotes d ps x r) k.1 h.1)

braces_spell : (d : ℕ) (ps : Parts) (x z : List ℕ) → IsInBraces ps x (Ok z) → ArePartsSpellable d ps
braces_spell d ps x z (inl h) = subst (ArePartsSpellable d) (sym h.5) (bytes_spell h.2 d)
braces_spell d ps x z (inr h) = absurd (cc (h.2))

substitution_spells : (n : words.Next) (d : ℕ) (ps : Parts) (z : List ℕ) → PartSpells d n →
    IsSubstitution d ps n (Ok z) → ArePartsSpellable d ps
substitution_spells words.end d ps z k h = absurd (cc (h.1))
substitution_spells (words.fault f) d ps z k h = absurd (cc (h.1))
substitution_spells (words.a_byte b y) d ps z k h = absurd (cc (h.1))
substitution_spells (words.a_name n y) d ps z k h =
    subst (ArePartsSpellable d) (sym h.0) (k, tt)
substitution_spells (words.an_index n y) d ps z k h =
    let closed_is = from_is (index_closed h.1) z h.4 in
    let c = index_open h.1 z closed_is in
    subst (ArePartsSpellable d) (sym h.3) (
      inl (
        k.0,
        k.1,
        parts_spell h.0 within_index (d - 1) y (c.0 ∷ z)
            (subst (λ r. IsParts within_index (d - 1) h.0 y r) c.1 h.2),
      ),
      tt,
    )
substitution_spells (words.an_element n i y) d ps z k h =
    subst (ArePartsSpellable d) (sym h.0) (inr k, tt)
substitution_spells (words.a_bracket y) d ps z k h =
    let closed_is = from_is (bracket_closed h.1) z h.4 in
    let c = bracket_open h.1 z closed_is in
    subst (ArePartsSpellable d) (sym h.3) (
      k,
      commands_spell h.0 (d - 1) y (c.0 ∷ z)
          (subst (λ r. IsCommands bracketed (d - 1) h.0 y r) c.1 h.2),
      tt,
    )

leaf_spells : (o : Opening) (d : ℕ) (f : Formula) (z : List ℕ) → OpensNumber o →
    IsLeafAt d f o (Ok z) → IsSpellable 1 d f
leaf_spells (a_leaf (no_leaf e)) d f z k h = absurd (cc (h.1))
leaf_spells (a_leaf (a_numeral s y)) d f z k h = subst (IsSpellable 1 d) (sym h.0) k
leaf_spells (a_leaf (a_word s y)) d f z k h = subst (IsSpellable 1 d) (sym h.0) (bytes_spell s d)
leaf_spells (a_leaf (in_quotes y)) d f z k h =
    let is = from_is h.2 z h.4 in
    subst (IsSpellable 1 d) (sym h.1)
    (quoted_spells d h.0 y z (subst (λ r. IsQuoted d h.0 y r) is h.3))
leaf_spells (a_leaf (in_braces y)) d f z k h =
    let is = from_is h.2 z h.4 in
    subst (IsSpellable 1 d) (sym h.1)
    (braces_spell d h.0 y z (subst (λ r. IsInBraces h.0 y r) is h.3))
leaf_spells (a_leaf (a_substitution y)) d f z k h =
    subst (IsSpellable 1 d) (sym h.1)
    (substitution_spells (next_part d y) d h.0 z (part_spells d y) h.2)
leaf_spells (a_prefix u y) d f z k h = absurd h
leaf_spells (a_parenthesis y) d f z k h = absurd h
leaf_spells (a_call g y) d f z k h = absurd h

closed_is : (b : ℕ) (r : FormulaOutcome) (z : List ℕ) → Ok z ≡ closed b r → (y : List ℕ) × (r ≡ Ok y)
closed_is b (Ok y) z h = (y, refl)
closed_is b (Err f) z h = absurd (cc (h))

goes_on : (r : FormulaOutcome) (T : Type 0) (M : List ℕ → Type 0) (z : List ℕ) →
    Goes r T M (Ok z) → (y : List ℕ) × (r ≡ Ok y) × M y
goes_on (Ok y) T M z h = (y, refl, h)
goes_on (Err f) T M z h = absurd (cc (h.1))

comma_is : (g : Function) (r : FormulaOutcome) (z : List ℕ) → behind_comma g r ≡ Some z →
    (y : List ℕ) × (r ≡ Ok y)
comma_is g (Ok y) z h = (y, refl)
comma_is g (Err f) z h = absurd (cc (h))

no_more : (r : FormulaOutcome) → behind_comma Abs r ≡ None
no_more (Ok []) = refl
no_more (Ok (c ∷ z)) = if_known (λ v. v ≡ None) (c == 44) None None (λ _. refl) (λ _. refl)
no_more (Err f) = refl

-- a function after whose argument another is read takes that argument and those after it
takes_further : (g : Function) (f : Formula) (args : Arguments) (r : FormulaOutcome) (z : List ℕ) →
    behind_comma g r ≡ Some z → takes g (formula f (argument_trees args)) ≡ true
takes_further Abs f args r z h = let no = no_more r in absurd (cc (no, h))
takes_further Min f (last w) r z h = refl
takes_further Min f (further w args) r z h = refl
takes_further Max f (last w) r z h = refl
takes_further Max f (further w args) r z h = refl

rest_spells : (d : ℕ) (f : Formula) → IsSpellable 13 d f → IsSpellable 14 d f
rest_spells d f h = formula_more f 13 14 d d (inl (omega arith, omega arith)) h

mutual
  operand_spells : (a : Operand) (d : ℕ) (x z : List ℕ) → IsOperand d a x (Ok z) →
      IsSpellable 1 d (operand_tree a)
  operand_spells (leaf f) d x z h = leaf_spells (opening d x) d f z (opening_number d x) h
  operand_spells (prefixed u a) d x z h =
      let some : OpeningLess (a_prefix u h.0) d (length x) =
      subst (λ n. OpeningLess n d (length x)) h.1 (opening_less d x) in
      (some.0, operand_spells a (d - 1) h.0 z h.2)
  operand_spells (enclosed w) d x z h =
      let some : OpeningLess (a_parenthesis h.0) d (length x) =
      subst (λ n. OpeningLess n d (length x)) h.1 (opening_less d x) in
      let k = closed_is 41 h.2 z h.4 in
      formula_more (whole_tree w) 14 1 (d - 1) d (inr (omega (arith, some.0)))
      (whole_spells w (d - 1) h.0 k.0 (subst (λ r. IsWhole (d - 1) w h.0 r) k.1 h.3))
  operand_spells (called g args) d x z h =
      let some : OpeningLess (a_call g h.0) d (length x) =
      subst (λ n. OpeningLess n d (length x)) h.1 (opening_less d x) in
      let k = arguments_spell args g (d - 1) h.0 z h.2 in (some.0, k.0, k.1)

  whole_spells : (w : Whole) (d : ℕ) (x z : List ℕ) → IsWhole d w x (Ok z) →
      IsSpellable 14 d (whole_tree w)
  whole_spells (whole a t) d x z h =
      let k = goes_on h.0 (t ≡ over) (λ y. IsRest d t y (Ok z)) z h.2 in
      let first = operand_spells a d x k.0 (subst (λ r. IsOperand d a x r) k.1 h.1) in
      tree_spells t d k.0 z (grouped (operand_tree a) (rest_links t)) k.2
      (grouped_spells d (operand_tree a) (rest_links t) first (links_spell t d k.0 z k.2))

  links_spell : (t : Rest) (d : ℕ) (x z : List ℕ) → IsRest d t x (Ok z) →
      AreAbove 1 d (rest_links t)
  links_spell over d x z h = tt
  links_spell (joined i a t) d x z h =
      let k = goes_on h.2 (t ≡ over) (λ y. IsRest d t y (Ok z)) z h.4 in
      let range = level_range i in (
        omega (arith, range.0),
        operand_spells a d h.0 k.0 (subst (λ r. IsOperand d a h.0 r) k.1 h.3),
        links_spell t d k.0 z k.2,
      )
  links_spell (chosen v w) d x z h = tt

  tree_spells : (t : Rest) (d : ℕ) (x z : List ℕ) (f : Formula) → IsRest d t x (Ok z) →
      IsSpellable 13 d f → IsSpellable 14 d (rest_tree t f)
  tree_spells over d x z f h k = rest_spells d f k
  tree_spells (joined i a t) d x z f h k =
      let m = goes_on h.2 (t ≡ over) (λ y. IsRest d t y (Ok z)) z h.4 in
      tree_spells t d m.0 z f m.2 k
  tree_spells (chosen v w) d x z f h k =
      let m = goes_on (closed 58 h.2) (w ≡ nothing_whole) (λ y. IsWhole (d - 1) w y (Ok z)) z h.4 in
      let open_ = closed_is 58 h.2 m.0 (sym m.1) in
      let some : FollowingLess (a_choice h.0) d (length x) =
      subst (λ n. FollowingLess n d (length x)) h.1 (following_less d x) in (
        d,
        inl (omega arith, refl),
        some.0,
        k,
        whole_spells v (d - 1) h.0 open_.0 (subst (λ r. IsWhole (d - 1) v h.0 r) open_.1 h.3),
        whole_spells w (d - 1) m.0 z m.2,
      )

  arguments_spell : (args : Arguments) (g : Function) (d : ℕ) (x z : List ℕ) →
      IsArguments d g args x (Ok z)
      → (takes g (argument_trees args) ≡ true) × AreAllSpellable d (argument_trees args)
  arguments_spell (last w) g d x z h =
      let k = closed_is 41 h.0 z h.3 in
      (refl, (whole_spells w d x k.0 (subst (λ r. IsWhole d w x r) k.1 h.1), tt))
  arguments_spell (further w args) g d x z h =
      let k = comma_is g h.0 h.2 h.3 in (
        takes_further g (whole_tree w) args h.0 h.2 h.3,
        (
          whole_spells w d x k.0 (subst (λ r. IsWhole d w x r) k.1 h.1),
          (arguments_spell args g d h.2 z h.4).1,
        ),
      )

pub formula_spells : (f : Formula) (x : List ℕ) → IsFormula (Ok f) x → IsSpellable 14 100 f
formula_spells f x h = subst (IsSpellable 14 100) (sym h.2) (whole_spells h.0 100 x [] h.1)
