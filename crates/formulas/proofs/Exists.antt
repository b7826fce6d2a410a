-- Each text is a formula or has a fault: by induction over how much more may be open, and within
-- that over the length.
use Rattle.std.proofs.Common.{◌≡◌, ℕ, zero, suc, ◌+◌, ◌-◌, ◌<◌, ◌≤◌, ◌==◌, ◌||◌, List, [], ◌∷◌, length, drop, Bool, true, false, Option, Some, None, Result, Ok, Err, if◌then◌else◌, inl, inr, refl, sym, ap, subst, ◌∙◌, arith}
use Rattle.tcltext.specs.White.{is_white, skip_white}
use Rattle.tcltext.proofs.Pairing.{pair_or_none}
use Rattle.tclparse.specs.declared.operator.Unary.{Unary}
use Rattle.tclparse.specs.declared.operator.Infix.{Infix}
use Rattle.tclparse.specs.declared.operator.Function.{Function}
use Rattle.tclparse.specs.declared.operator.Function.TheVariants.{Abs, Min, Max}
use Rattle.tclparse.specs.Tree.{Parts, no_parts, variable, element, script, bytes_then}
use Rattle.tclparse.specs.Variable.{name_at, after_name}
use Rattle.tclparse.specs.Context.{bracketed}
use Rattle.tclparse.specs.Piece as words
use Rattle.tclparse.specs.Piece.{within_quotes, within_index, next_part}
use Rattle.tclparse.specs.Grammar.{Outcome, index_closed, bracket_closed, IsParts, IsCommands}
use Rattle.tclparse.specs.Spelled.{Joins, Behind, Leaves}
use Rattle.tclparse.specs.Fault.{open_brace}
use Rattle.tclparse.specs.Formula.{Formula, numeral, text}
use Rattle.tclparse.specs.FormulaFault.{FormulaFault, of_words, syntax}
use Rattle.tclparse.specs.FormulaText.{Operand, leaf, prefixed, enclosed, called, Whole, whole, Rest, over, joined, chosen, Arguments, last, further, nothing, nothing_whole, whole_tree}
use Rattle.tclparse.specs.FormulaPiece.{Leaf, no_leaf, a_numeral, a_word, in_quotes, in_braces, a_substitution, Opening, a_leaf, a_prefix, a_parenthesis, a_call, opening, Following, end, fault, an_infix, a_choice, following}
use Rattle.tclparse.specs.FormulaGrammar.{FormulaOutcome, from_words, Goes, closed, quote_closed, takes_more, behind_comma, ended, IsQuoted, IsInBraces, IsSubstitution, IsLeaf, IsLeafAt, IsOver, IsOperand, IsWhole, IsRest, IsArguments, IsFormula}
use Rattle.tclparse.proofs.Braced.{each_value}
use Rattle.tclparse.proofs.Lengths.{by_length}
use Rattle.tclparse.proofs.Pieces.{joins_length}
use Rattle.tclparse.proofs.Exists.{at_depth}
use Rattle.tclparse.proofs.Joined.{paired_joins, parts_leave, commands_leave}
use Rattle.tclparse.proofs.Spelled.{part_behind}
use Rattle.formulas.proofs.Shorter.{LeafLess, OpeningLess, FollowingLess, opening_less, following_less}

-- an outcome leaves fewer than n bytes
abbrev Shrinks : FormulaOutcome → ℕ → Type 0
Shrinks (Ok z) n = length z < n
Shrinks (Err e) n = Unit {0}

shrinks_more : (o : FormulaOutcome) (m n : ℕ) → m ≤ n → Shrinks o m → Shrinks o n
shrinks_more (Ok z) m n h k = omega (arith, h, k)
shrinks_more (Err e) m n h k = tt

closed_if : (b : Bool) (z : List ℕ) (e : FormulaFault) (n : ℕ) → length z < n →
    Shrinks (if b then Ok z else Err e) n
closed_if true z e n h = h
closed_if false z e n h = tt

closed_shrinks : (b : ℕ) (o : FormulaOutcome) (n : ℕ) → Shrinks o n → Shrinks (closed b o) n
closed_shrinks b (Ok []) n h = tt
closed_shrinks b (Ok (c ∷ z)) n h = closed_if (c == b) z syntax n (omega (arith, h))
closed_shrinks b (Err e) n h = tt

-- what words leave is shorter, and so is what stands after the byte that ends them
words_shrink : (o : Outcome) (x : List ℕ) (n : ℕ) → length x < n → Leaves x o →
    Shrinks (from_words o) n
words_shrink (Ok z) x n h k = omega (arith, h, joins_length x z k)
words_shrink (Err f) x n h k = tt

quote_shrinks : (o : Outcome) (x : List ℕ) (n : ℕ) → length x < n → Leaves x o →
    Shrinks (from_words (quote_closed o)) n
quote_shrinks (Ok []) x n h k = tt
quote_shrinks (Ok (c ∷ z)) x n h k = omega (arith, h, joins_length x (c ∷ z) k)
quote_shrinks (Err f) x n h k = tt

index_shrinks : (o : Outcome) (x : List ℕ) (n : ℕ) → length x < n → Leaves x o →
    Shrinks (from_words (index_closed o)) n
index_shrinks (Ok []) x n h k = tt
index_shrinks (Ok (c ∷ z)) x n h k = omega (arith, h, joins_length x (c ∷ z) k)
index_shrinks (Err f) x n h k = tt

bracket_shrinks : (o : Outcome) (x : List ℕ) (n : ℕ) → length x < n → Leaves x o →
    Shrinks (from_words (bracket_closed o)) n
bracket_shrinks (Ok []) x n h k = tt
bracket_shrinks (Ok (c ∷ z)) x n h k = omega (arith, h, joins_length x (c ∷ z) k)
bracket_shrinks (Err f) x n h k = tt

-- a substitution, of which m is the next piece, is read and leaves fewer than n bytes
abbrev SubstitutionRead : ℕ → words.Next → ℕ → Type 0
SubstitutionRead d m n = (ps : Parts) × (o : FormulaOutcome) × IsSubstitution d ps m o × Shrinks o n

part_reads : (m : words.Next) (d : ℕ) (x : List ℕ) (n : ℕ) → length x < n → Behind m x →
    SubstitutionRead d m n
part_reads words.end d x n h b = (no_parts, Err syntax, (refl, refl), tt)
part_reads (words.fault f) d x n h b = (no_parts, Err (of_words f), (refl, refl), tt)
part_reads (words.a_byte c z) d x n h b = (no_parts, Err syntax, (refl, refl), tt)
part_reads (words.a_name v z) d x n h b =
    (variable v no_parts, Ok z, (refl, refl), omega (arith, h, joins_length x z b))
part_reads (words.an_index v z) d x n h b =
    let k = (at_depth (d - 1)).0 within_index z in (
      element v k.0 no_parts,
      from_words (index_closed k.1),
      (k.0, k.1, k.2, refl, refl),
      index_shrinks k.1 z n (omega (arith, h, joins_length x z b))
          (parts_leave k.0 within_index (d - 1) z k.1 k.2),
    )
part_reads (words.an_element v i z) d x n h b = (
  element v (bytes_then i no_parts) no_parts,
  Ok z,
  (refl, refl),
  omega (arith, h, joins_length x z b),
)
part_reads (words.a_bracket z) d x n h b =
    let k = (at_depth (d - 1)).2 bracketed z in (
      script k.0 no_parts,
      from_words (bracket_closed k.1),
      (k.0, k.1, k.2, refl, refl),
      bracket_shrinks k.1 z n (omega (arith, h, joins_length x z b))
          (commands_leave k.0 bracketed (d - 1) z k.1 k.2),
    )

substitution_reads : (d : ℕ) (x : List ℕ) (n : ℕ) → length x ≤ n →
    SubstitutionRead d (next_part d x) n
substitution_reads d [] n h = (no_parts, Err syntax, (refl, refl), tt)
substitution_reads d (c ∷ x) n h = part_reads (next_part d (c ∷ x)) d x n (omega (arith, h))
    (part_behind d c x)

braces_read : (x : List ℕ) (n : ℕ) → length x < n → (ps : Parts) × (o : Outcome) × IsInBraces ps x o
    × Shrinks (from_words o) n
braces_read x n h = elim (pair_or_none x) [
  | inl p ↦
      let v = each_value p.0 in (
        bytes_then v.0 no_parts,
        Ok p.1,
        inl (p.0, p.1, v.0, p.2, v.1, refl, refl),
        omega (arith, h, joins_length x p.1 (paired_joins x p.0 p.1 p.2)),
      )
  | inr p ↦ (no_parts, Err open_brace, inr (p, refl, refl), tt)
]

abbrev LeafRead : ℕ → Leaf → ℕ → Type 0
LeafRead d l n = (f : Formula) × (o : FormulaOutcome) × IsLeaf d f l o × Shrinks o n

leaf_reads : (l : Leaf) (d n : ℕ) → LeafLess l n → LeafRead d l n
leaf_reads (no_leaf e) d n h = (nothing, Err e, (refl, refl), tt)
leaf_reads (a_numeral s z) d n h = (numeral s, Ok z, (refl, refl), h)
leaf_reads (a_word s z) d n h = (text (bytes_then s no_parts), Ok z, (refl, refl), h)
leaf_reads (in_quotes z) d n h =
    let k = (at_depth d).0 within_quotes z in (
      text k.0,
      from_words (quote_closed k.1),
      (k.0, refl, quote_closed k.1, (k.1, k.2, refl), refl),
      quote_shrinks k.1 z n h (parts_leave k.0 within_quotes d z k.1 k.2),
    )
leaf_reads (in_braces z) d n h =
    let k = braces_read z n h in (text k.0, from_words k.1, (k.0, refl, k.1, k.2, refl), k.3)
leaf_reads (a_substitution z) d n h =
    let k = substitution_reads d z n h in (text k.0, k.1, (k.0, refl, k.2), k.3)

abbrev OperandRead : ℕ → List ℕ → Type 0
OperandRead d x = (a : Operand) × (o : FormulaOutcome) × IsOperand d a x o × Shrinks o (length x)

abbrev WholeRead : ℕ → List ℕ → Type 0
WholeRead d x = (w : Whole) × (o : FormulaOutcome) × IsWhole d w x o × Shrinks o (length x)

abbrev RestRead : ℕ → List ℕ → Type 0
RestRead d x = (t : Rest) × (o : FormulaOutcome) × IsRest d t x o × Shrinks o (length x + 1)

abbrev ArgumentsRead : ℕ → Function → List ℕ → Type 0
ArgumentsRead d g x = (args : Arguments) × (o : FormulaOutcome) × IsArguments d g args x o
    × Shrinks o (length x)

-- every operand and every whole formula is read, where d more may be open
abbrev AllRead : ℕ → Type 0
AllRead d = ((x : List ℕ) → OperandRead d x) × ((x : List ℕ) → WholeRead d x)
    × ((g : Function) (x : List ℕ) → ArgumentsRead d g x)

opening_reads : (n : Opening) (d : ℕ) (x : List ℕ) → opening d x ≡ n → OpeningLess n d (length x) →
    (0 < d → AllRead (d - 1)) → OperandRead d x
opening_reads (a_leaf l) d x e h below =
    let k = leaf_reads l d (length x) h in
    (leaf k.0, k.1, subst (λ n. IsLeafAt d k.0 n k.1) (sym e) k.2, k.3)
opening_reads (a_prefix u z) d x e h below =
    let k = (below h.0).0 z in (
      prefixed u k.0,
      k.1,
      (z, e, k.2),
      shrinks_more k.1 (length z) (length x) (omega (arith, h.1))
          k.3,
    )
opening_reads (a_parenthesis z) d x e h below =
    let k = (below h.0).1 z in (
      enclosed k.0,
      closed 41 k.1,
      (z, e, k.1, k.2, refl),
      closed_shrinks 41 k.1 (length x) (shrinks_more k.1 (length z) (length x)
          (omega (arith, h.1)) k.3),
    )
opening_reads (a_call g z) d x e h below =
    let k = (below h.0).2 g z in (
      called g k.0,
      k.1,
      (z, e, k.2),
      shrinks_more k.1 (length z) (length x) (omega (arith, h.1))
          k.3,
    )

operands_read : (d : ℕ) → (0 < d → AllRead (d - 1)) → (x : List ℕ) → OperandRead d x
operands_read d below x = opening_reads (opening d x) d x refl (opening_less d x) below

link_reads : (r : FormulaOutcome) (d : ℕ) (x z : List ℕ) (i : Infix) (a : Operand) → following d x
    ≡ an_infix i z → IsOperand d a z r → Shrinks r (length z) → length z < length x
    → ((y : List ℕ) → length y < length x → RestRead d y) → RestRead d x
link_reads (Ok y) d x z i a e h s less rest =
    let k = rest y (omega (arith, s, less)) in (
      joined i a k.0,
      k.1,
      (z, e, Ok y, h, k.2),
      shrinks_more k.1 (length y + 1) (length x + 1) (omega (arith, s, less)) k.3,
    )
link_reads (Err f) d x z i a e h s less rest =
    (joined i a over, Err f, (z, e, Err f, h, (refl, refl)), tt)

choice_reads : (s r : FormulaOutcome) (d : ℕ) (x z : List ℕ) (v : Whole) → following d x
    ≡ a_choice z → IsWhole (d - 1) v z r → closed 58 r ≡ s → Shrinks s (length z) →
    length z < length x
    → ((y : List ℕ) → WholeRead (d - 1) y) → RestRead d x
choice_reads (Ok y) r d x z v e h c s less wholes =
    let k = wholes y in (
      chosen v k.0,
      k.1,
      (
        z,
        e,
        r,
        h,
        subst (λ q. Goes q (k.0 ≡ nothing_whole) (λ u. IsWhole (d - 1) k.0 u k.1) k.1)
            (sym c) k.2,
      ),
      shrinks_more k.1 (length y) (length x + 1) (omega (arith, s, less)) k.3,
    )
choice_reads (Err f) r d x z v e h c s less wholes = (
  chosen v nothing_whole,
  Err f,
  (
    z,
    e,
    r,
    h,
    subst (λ q. Goes q (nothing_whole ≡ nothing_whole)
        (λ u. IsWhole (d - 1) nothing_whole u (Err f)) (Err f)) (sym c) (refl, refl),
  ),
  tt,
)

following_reads : (n : Following) (d : ℕ) (x : List ℕ) → following d x ≡ n →
    FollowingLess n d (length x) → ((y : List ℕ) → OperandRead d y) → (0 < d → AllRead (d - 1))
    → ((y : List ℕ) → length y < length x → RestRead d y) → RestRead d x
following_reads (end z) d x e h operands below rest =
    (over, Ok z, subst (λ n. IsOver n (Ok z)) (sym e) refl, omega (arith, h))
following_reads (fault f) d x e h operands below rest =
    (over, Err f, subst (λ n. IsOver n (Err f)) (sym e) refl, tt)
following_reads (an_infix i z) d x e h operands below rest =
    let k = operands z in link_reads k.1 d x z i k.0 e k.2 k.3 h rest
following_reads (a_choice z) d x e h operands below rest =
    let k = (below h.0).1 z in
    choice_reads (closed 58 k.1) k.1 d x z k.0 e k.2 refl (closed_shrinks 58 k.1 (length z) k.3) h.1
    (λ y. (below h.0).1 y)

rests_read : (d : ℕ) → ((y : List ℕ) → OperandRead d y) → (0 < d → AllRead (d - 1)) → (x : List ℕ) →
    RestRead d x
rests_read d operands below =
    by_length (RestRead d) (λ x rest. following_reads (following d x) d x refl (following_less d x)
    operands below rest)

whole_reads : (r : FormulaOutcome) (d : ℕ) (x : List ℕ) (a : Operand) → IsOperand d a x r →
    Shrinks r (length x) → ((y : List ℕ) → RestRead d y) → WholeRead d x
whole_reads (Ok z) d x a h s rests =
    let k = rests z in (
      whole a k.0,
      k.1,
      (Ok z, h, k.2),
      shrinks_more k.1 (length z + 1) (length x) (omega (arith, s)) k.3,
    )
whole_reads (Err f) d x a h s rests = (whole a over, Err f, (Err f, h, (refl, refl)), tt)

wholes_read : (d : ℕ) → ((y : List ℕ) → OperandRead d y) → ((y : List ℕ) → RestRead d y) →
    (x : List ℕ) → WholeRead d x
wholes_read d operands rests x = let k = operands x in whole_reads k.1 d x k.0 k.2 k.3 rests

-- the text after a comma, if there is one, has fewer than n bytes
abbrev CommaLess : Option (List ℕ) → ℕ → Type 0
CommaLess None n = Unit {0}
CommaLess (Some z) n = length z < n

more_less : (g : Function) (z : List ℕ) (n : ℕ) → length z < n → CommaLess (takes_more g z) n
more_less Abs z n h = tt
more_less Min z n h = h
more_less Max z n h = h

comma_if : (b : Bool) (c : Option (List ℕ)) (n : ℕ) → CommaLess c n →
    CommaLess (if b then c else None) n
comma_if true c n h = h
comma_if false c n h = tt

comma_less : (g : Function) (r : FormulaOutcome) (n : ℕ) → Shrinks r n →
    CommaLess (behind_comma g r) n
comma_less g (Ok []) n h = tt
comma_less g (Ok (c ∷ z)) n h = comma_if (c == 44) (takes_more g z) n
    (more_less g z n (omega (arith, h)))
comma_less g (Err f) n h = tt

argument_reads : (c : Option (List ℕ)) (d : ℕ) (g : Function) (x : List ℕ) (w : Whole)
    (r : FormulaOutcome) → behind_comma g r ≡ c → CommaLess c (length x) → IsWhole d w x r →
    Shrinks r (length x)
    → ((y : List ℕ) → length y < length x → ArgumentsRead d g y) → ArgumentsRead d g x
argument_reads None d g x w r e less h s rest =
    (last w, closed 41 r, (r, h, e, refl), closed_shrinks 41 r (length x) s)
argument_reads (Some z) d g x w r e less h s rest =
    let k = rest z less in (
      further w k.0,
      k.1,
      (r, h, z, e, k.2),
      shrinks_more k.1 (length z) (length x)
          (omega (arith, less)) k.3,
    )

arguments_read : (d : ℕ) → ((y : List ℕ) → WholeRead d y) → (g : Function) (x : List ℕ) →
    ArgumentsRead d g x
arguments_read d wholes g =
    by_length (ArgumentsRead d g) (λ x rest.
    let k = wholes x in argument_reads (behind_comma g k.1) d g x k.0 k.1 refl
    (comma_less g k.1 (length x) k.3) k.2 k.3 rest)

all_from : (d : ℕ) → (0 < d → AllRead (d - 1)) → AllRead d
all_from d below =
    let operands = operands_read d below in
    let wholes = wholes_read d operands (rests_read d operands below) in
    (operands, wholes, arguments_read d wholes)

all_read : (d : ℕ) → AllRead d
all_read zero = all_from zero (λ h. absurd (omega arith))
all_read (suc d) = let less : d ≡ suc d - 1 = omega arith in
    all_from (suc d) (λ _. subst AllRead less (all_read d))

formula_from : (r : FormulaOutcome) (w : Whole) (x : List ℕ) → IsWhole 100 w x r →
    (a : Result Formula FormulaFault) × IsFormula a x
formula_from (Ok []) w x h = (Ok (whole_tree w), (w, h, refl))
formula_from (Ok (c ∷ z)) w x h = (Err syntax, (w, Ok (c ∷ z), h, refl))
formula_from (Err e) w x h = (Err e, (w, Err e, h, refl))

pub each_formula : (x : List ℕ) → (a : Result Formula FormulaFault) × IsFormula a x
each_formula x = let k = (all_read 100).1 x in formula_from k.1 k.0 x k.2
