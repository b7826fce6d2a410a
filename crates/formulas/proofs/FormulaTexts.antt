-- Each formula that can be spelled has a text: blanks stand between its tokens, and parentheses
-- where the levels require them.
use Rattle.std.proofs.Common.{◌≡◌, ℕ, suc, ◌+◌, ◌-◌, ◌<◌, ◌≤◌, List, [], ◌∷◌, ◌++◌, true, Some, Ok, inl, inr, refl, sym, ap, subst, ◌∙◌, arith}
use Rattle.tcltext.specs.Numeral.{IsUnsigned}
use Rattle.tclparse.specs.declared.operator.Unary.{Unary}
use Rattle.tclparse.specs.declared.operator.Unary.TheVariants.{Negate, Plus, Complement, Not}
use Rattle.tclparse.specs.declared.operator.Binary.TheVariants.{Multiply, Divide, Remainder, Add, Subtract, ShiftLeft, ShiftRight, Less, Greater, LessEqual, GreaterEqual, Equal, NotEqual, TextEqual, TextNotEqual, In, NotIn, And, Xor, Or}
use Rattle.tclparse.specs.declared.operator.Infix.{Infix}
use Rattle.tclparse.specs.declared.operator.Infix.TheVariants.{Both, AndAlso, OrElse}
use Rattle.tclparse.specs.declared.operator.Function.{Function}
use Rattle.tclparse.specs.declared.operator.Function.TheVariants.{Abs, Min, Max}
use Rattle.tclparse.specs.Operator.{level}
use Rattle.tclparse.specs.Tree.{Parts}
use Rattle.tclparse.specs.Formula.{Formula, numeral, text, call, prefix, row, choice, Links, no_links, link, Formulas, no_formulas, formula}
use Rattle.tclparse.specs.Grouping.{grouped}
use Rattle.tclparse.specs.FormulaText.{Operand, leaf, prefixed, enclosed, called, Whole, whole, Rest, over, joined, chosen, Arguments, last, further, operand_tree, whole_tree, rest_links, rest_tree, argument_trees}
use Rattle.tclparse.specs.FormulaPiece.{a_prefix, a_parenthesis, a_call, opening, end, an_infix, a_choice, following}
use Rattle.tclparse.specs.FormulaGrammar.{FormulaOutcome, takes_more, IsLeafAt, IsOver, IsOperand, IsWhole, IsRest, IsArguments, IsFormula}
use Rattle.formulas.specs.Spellable.{takes, Stands, IsSpellable, AreLinksSpellable, AreAllSpellable}
use Rattle.formulas.proofs.PartTexts.{not_zero, PartsText, parts_text}
use Rattle.formulas.proofs.NumeralTexts.{numeral_opening}
use Rattle.formulas.proofs.RowTexts.{level_range, IsJoined, joined_less, operand_joined, AreJoined, none_joined, link_joined, AreOfLevel, row_joined, all_grouped}

-- A prefix, a name with its parenthesis, an operator: how it is written before a text.
abbrev prefix_text : Unary → List ℕ → List ℕ
prefix_text Negate x = 45 ∷ x
prefix_text Plus x = 43 ∷ x
prefix_text Complement x = 126 ∷ x
prefix_text Not x = 33 ∷ x

prefix_opens : (u : Unary) (d : ℕ) (x : List ℕ) → 0 < d → opening d (prefix_text u x)
    ≡ a_prefix u x
prefix_opens Negate d x h = rw (not_zero d h) refl
prefix_opens Plus d x h = rw (not_zero d h) refl
prefix_opens Complement d x h = rw (not_zero d h) refl
prefix_opens Not d x h = rw (not_zero d h) refl

parenthesis_opens : (d : ℕ) (x : List ℕ) → 0 < d → opening d (40 ∷ x) ≡ a_parenthesis x
parenthesis_opens d x h = rw (not_zero d h) refl

abbrev call_text : Function → List ℕ → List ℕ
call_text Abs x = 97 ∷ 98 ∷ 115 ∷ 40 ∷ x
call_text Min x = 109 ∷ 105 ∷ 110 ∷ 40 ∷ x
call_text Max x = 109 ∷ 97 ∷ 120 ∷ 40 ∷ x

call_opens : (g : Function) (d : ℕ) (x : List ℕ) → 0 < d → opening d (call_text g x) ≡ a_call g x
call_opens Abs d x h = rw (not_zero d h) refl
call_opens Min d x h = rw (not_zero d h) refl
call_opens Max d x h = rw (not_zero d h) refl

abbrev infix_text : Infix → List ℕ → List ℕ
infix_text (Both Multiply) x = 42 ∷ x
infix_text (Both Divide) x = 47 ∷ x
infix_text (Both Remainder) x = 37 ∷ x
infix_text (Both Add) x = 43 ∷ x
infix_text (Both Subtract) x = 45 ∷ x
infix_text (Both ShiftLeft) x = 60 ∷ 60 ∷ x
infix_text (Both ShiftRight) x = 62 ∷ 62 ∷ x
infix_text (Both Less) x = 60 ∷ x
infix_text (Both Greater) x = 62 ∷ x
infix_text (Both LessEqual) x = 60 ∷ 61 ∷ x
infix_text (Both GreaterEqual) x = 62 ∷ 61 ∷ x
infix_text (Both Equal) x = 61 ∷ 61 ∷ x
infix_text (Both NotEqual) x = 33 ∷ 61 ∷ x
infix_text (Both TextEqual) x = 101 ∷ 113 ∷ x
infix_text (Both TextNotEqual) x = 110 ∷ 101 ∷ x
infix_text (Both In) x = 105 ∷ 110 ∷ x
infix_text (Both NotIn) x = 110 ∷ 105 ∷ x
infix_text (Both And) x = 38 ∷ x
infix_text (Both Xor) x = 94 ∷ x
infix_text (Both Or) x = 124 ∷ x
infix_text AndAlso x = 38 ∷ 38 ∷ x
infix_text OrElse x = 124 ∷ 124 ∷ x

infix_follows : (i : Infix) (d : ℕ) (x : List ℕ) → following d (32 ∷ infix_text i (32 ∷ x))
    ≡ an_infix i (32 ∷ x)
infix_follows (Both Multiply) d x = refl
infix_follows (Both Divide) d x = refl
infix_follows (Both Remainder) d x = refl
infix_follows (Both Add) d x = refl
infix_follows (Both Subtract) d x = refl
infix_follows (Both ShiftLeft) d x = refl
infix_follows (Both ShiftRight) d x = refl
infix_follows (Both Less) d x = refl
infix_follows (Both Greater) d x = refl
infix_follows (Both LessEqual) d x = refl
infix_follows (Both GreaterEqual) d x = refl
infix_follows (Both Equal) d x = refl
infix_follows (Both NotEqual) d x = refl
infix_follows (Both TextEqual) d x = refl
infix_follows (Both TextNotEqual) d x = refl
infix_follows (Both In) d x = refl
infix_follows (Both NotIn) d x = refl
infix_follows (Both And) d x = refl
infix_follows (Both Xor) d x = refl
infix_follows (Both Or) d x = refl
infix_follows AndAlso d x = refl
infix_follows OrElse d x = refl

choice_follows : (d : ℕ) (x : List ℕ) → 0 < d → following d (32 ∷ 63 ∷ 32 ∷ x)
    ≡ a_choice (32 ∷ x)
choice_follows d x h = rw (not_zero d h) refl

-- what ends a formula, with a blank before it
abbrev IsEnd : List ℕ → Type 0
IsEnd z = (d : ℕ) → following d (32 ∷ z) ≡ end z

ends_nothing : IsEnd []
ends_nothing d = refl

ends_parenthesis : (z : List ℕ) → IsEnd (41 ∷ z)
ends_parenthesis [] d = refl
ends_parenthesis (c ∷ z) d = refl

ends_comma : (z : List ℕ) → IsEnd (44 ∷ z)
ends_comma [] d = refl
ends_comma (c ∷ z) d = refl

ends_colon : (z : List ℕ) → IsEnd (58 ∷ z)
ends_colon [] d = refl
ends_colon (c ∷ z) d = refl

-- a blank before an operand is white
blank_operand : (a : Operand) (d : ℕ) (x : List ℕ) (o : FormulaOutcome) → IsOperand d a x o →
    IsOperand d a (32 ∷ x) o
blank_operand (leaf f) d x o h = h
blank_operand (prefixed u a) d x o h = h
blank_operand (enclosed w) d x o h = h
blank_operand (called g args) d x o h = h

blank_whole : (w : Whole) (d : ℕ) (x : List ℕ) (o : FormulaOutcome) → IsWhole d w x o →
    IsWhole d w (32 ∷ x) o
blank_whole (whole a r) d x o h = (h.0, blank_operand a d x h.0 h.1, h.2)

-- Here a text is a function of what stands after the blank at its end. The text of an operand:
abbrev OperandText : ℕ → Formula → Type 0
OperandText d f =
    (a : Operand) × (t : List ℕ → List ℕ) × (operand_tree a ≡ f)
    × ((y : List ℕ) → IsOperand d a (t y) (Ok (32 ∷ y)))

-- The text of an operand with operators after it up to level k + 1, which make the part f. Here a
-- is the operand, b puts what is written after it before any rest, ls puts the operators before
-- others, and t puts the text before what follows.
abbrev ChainText : ℕ → ℕ → Formula → Type 0
ChainText k d f =
    (a : Operand) × (b : Rest → Rest) × (ls : Links → Links) × (t : List ℕ → List ℕ)
    × ((r : Rest) → rest_links (b r) ≡ ls (rest_links r))
    × ((r : Rest) (g : Formula) → rest_tree (b r) g ≡ rest_tree r g)
    × IsJoined k (operand_tree a) ls f
    × ((r : Rest) (y : List ℕ) (o : FormulaOutcome) → IsRest d r (32 ∷ y) o
    → IsWhole d (whole a (b r)) (t y) o)

-- the same for operators of level k + 2 with their operands
abbrev LinksText : ℕ → ℕ → Links → Type 0
LinksText k d ms =
    (b : Rest → Rest) × (ls : Links → Links) × (t : List ℕ → List ℕ)
    × ((r : Rest) → rest_links (b r) ≡ ls (rest_links r))
    × ((r : Rest) (g : Formula) → rest_tree (b r) g ≡ rest_tree r g)
    × AreJoined k ls ms
    × ((r : Rest) (y : List ℕ) (o : FormulaOutcome) → IsRest d r (32 ∷ y) o
    → IsRest d (b r) (32 ∷ t y) o)

-- a whole formula, before what ends it
abbrev WholeText : ℕ → Formula → Type 0
WholeText d f =
    (w : Whole) × (t : List ℕ → List ℕ) × (whole_tree w ≡ f)
    × ((z : List ℕ) → IsEnd z → IsWhole d w (t z) (Ok z))

-- arguments, with the parenthesis after them
abbrev ArgumentsText : ℕ → Function → Formulas → Type 0
ArgumentsText d g fs =
    (args : Arguments) × (t : List ℕ → List ℕ) × (argument_trees args ≡ fs)
    × ((y : List ℕ) → IsArguments d g args (t y) (Ok y))

-- what stands where operators of the levels up to n may
abbrev FormulaText : ℕ → ℕ → Formula → Type 0
FormulaText n d f =
    (n ≡ 1 → OperandText d f) × ((k : ℕ) → n ≡ k + 1 → k ≤ 12 → ChainText k d f) × WholeText d f

operand_chain : (k d : ℕ) (f : Formula) → OperandText d f → ChainText k d f
operand_chain k d f h = (
  h.0,
  λ r. r,
  λ ls. ls,
  h.1,
  λ r. refl,
  λ r g. refl,
  subst (λ g. IsJoined k (operand_tree h.0) (λ ls. ls) g) h.2 (operand_joined k (operand_tree h.0)),
  λ r y o rest. (Ok (32 ∷ y), h.3 y, rest),
)

over_read : (d : ℕ) (z : List ℕ) → IsEnd z → IsRest d over (32 ∷ z) (Ok z)
over_read d z h = subst (λ n. IsOver n (Ok z)) (sym (h d)) refl

chain_whole : (d : ℕ) (f : Formula) → ChainText 12 d f → WholeText d f
chain_whole d f h = (
  whole h.0 (h.1 over),
  h.3,
  h.5 over (grouped (operand_tree h.0) (rest_links (h.1 over)))
      ∙ ap (grouped (operand_tree h.0)) (h.4 over) ∙ all_grouped (operand_tree h.0) f h.2 h.6,
  λ z ends. h.7 over z (Ok z) (over_read d z ends),
)

chain_more : (k n d : ℕ) (f : Formula) → k ≤ n → ChainText k d f → ChainText n d f
chain_more k n d f less h =
    let sum : (n - k) + k ≡ n = omega (arith, less) in (
      h.0,
      h.1,
      h.2,
      h.3,
      h.4,
      h.5,
      subst (λ j. IsJoined j (operand_tree h.0) h.2 f) sum
          (joined_less (n - k) k (operand_tree h.0) f h.2 h.6),
      h.7,
    )

operand_formula : (n d : ℕ) (f : Formula) → OperandText d f → FormulaText n d f
operand_formula n d f h =
    (λ is. h, λ k is less. operand_chain k d f h, chain_whole d f (operand_chain 12 d f h))

enclosed_read : (d e : ℕ) (f : Formula) → d ≡ e + 1 → WholeText e f → OperandText d f
enclosed_read d e f one h =
    let some : 0 < d = omega (arith, one) in
    let less : e ≡ d - 1 = omega (arith, one) in (
      enclosed h.0,
      λ y. 40 ∷ h.1 (41 ∷ 32 ∷ y),
      h.2,
      λ y. (
        h.1 (41 ∷ 32 ∷ y),
        parenthesis_opens d (h.1 (41 ∷ 32 ∷ y)) some,
        Ok (41 ∷ 32 ∷ y),
        subst (λ m. IsWhole m h.0 (h.1 (41 ∷ 32 ∷ y)) (Ok (41 ∷ 32 ∷ y))) less
            (h.3 (41 ∷ 32 ∷ y) (ends_parenthesis (32 ∷ y))),
        refl,
      ),
    )

-- a row of level k + 2, and a choice, stand bare or in parentheses
row_stands : (n m k d e : ℕ) (f : Formula) → m ≡ k + 2 → k ≤ 11 → Stands n m d e →
    ChainText (k + 1) e f → FormulaText n d f
row_stands n m k d e f is small (inl bare) h =
    let here : ChainText (k + 1) d f = subst (λ j. ChainText (k + 1) j f) bare.1 h in (
      λ one. absurd (omega (arith, is, bare.0, one)),
      λ j at less. chain_more (k + 1) j d f (omega (arith, is, bare.0, at)) here,
      chain_whole d f (chain_more (k + 1) 12 d f (omega (arith, small)) here),
    )
row_stands n m k d e f is small (inr one) h =
    operand_formula n d f (enclosed_read d e f one
    (chain_whole e f (chain_more (k + 1) 12 e f (omega (arith, small)) h)))

choice_stands : (n d e : ℕ) (f : Formula) → Stands n 14 d e → WholeText e f → FormulaText n d f
choice_stands n d e f (inl bare) h = (
  λ one. absurd (omega (arith, bare.0, one)),
  λ k at less. absurd (omega (arith, bare.0, at, less)),
  subst (λ j. WholeText j f) bare.1 h,
)
choice_stands n d e f (inr one) h = operand_formula n d f (enclosed_read d e f one h)

choice_read : (d : ℕ) (f g h : Formula) → 0 < d → ChainText 12 d f → WholeText (d - 1) g →
    WholeText (d - 1) h → WholeText d (choice f g h)
choice_read d f g h some c v w =
    let test : grouped (operand_tree c.0) (c.2 no_links) ≡ f =
    all_grouped (operand_tree c.0) f c.2 c.6 in
    let t : List ℕ → List ℕ = λ z. v.1 (58 ∷ 32 ∷ w.1 z) in (
      whole c.0 (c.1 (chosen v.0 w.0)),
      λ z. c.3 (63 ∷ 32 ∷ t z),
      c.5 (chosen v.0 w.0) (grouped (operand_tree c.0) (rest_links (c.1 (chosen v.0 w.0))))
          ∙ ap (λ l. choice (grouped (operand_tree c.0) l) (whole_tree v.0) (whole_tree w.0))
          (c.4 (chosen v.0 w.0))
          ∙ ap (λ l. choice l (whole_tree v.0) (whole_tree w.0)) test
          ∙ ap (λ l. choice f l (whole_tree w.0)) v.2 ∙ ap (choice f g) w.2,
      λ z ends. c.7 (chosen v.0 w.0) (63 ∷ 32 ∷ t z) (Ok z) (
        32 ∷ t z,
        choice_follows d (t z) some,
        Ok (58 ∷ 32 ∷ w.1 z),
        blank_whole v.0 (d - 1) (t z) (Ok (58 ∷ 32 ∷ w.1 z))
            (v.3 (58 ∷ 32 ∷ w.1 z) (ends_colon (32 ∷ w.1 z))),
        blank_whole w.0 (d - 1) (w.1 z) (Ok z) (w.3 z ends),
      ),
    )

no_links_read : (k d : ℕ) → LinksText k d no_links
no_links_read k d =
    (λ r. r, λ ls. ls, λ y. y, λ r. refl, λ r g. refl, none_joined k, λ r y o rest. rest)

link_read : (k d : ℕ) (i : Infix) (f : Formula) (ms : Links) → level i ≡ k + 2 → ChainText k d f →
    LinksText k d ms → LinksText k d (link i f ms)
link_read k d i f ms is c l = (
  λ r. joined i c.0 (c.1 (l.0 r)),
  λ ls. link i (operand_tree c.0) (c.2 (l.1 ls)),
  λ y. infix_text i (32 ∷ c.3 (l.2 y)),
  λ r. ap (link i (operand_tree c.0)) (c.4 (l.0 r) ∙ ap c.2 (l.3 r)),
  λ r g. c.5 (l.0 r) g ∙ l.4 r g,
  link_joined k i (operand_tree c.0) f ms c.2 l.1 is c.6 l.5,
  λ r y o rest.
      let read = c.7 (l.0 r) (l.2 y) o (l.6 r y o rest) in (
        32 ∷ c.3 (l.2 y),
        infix_follows i d (c.3 (l.2 y)),
        read.0,
        blank_operand c.0 d (c.3 (l.2 y)) read.0 read.1,
        read.2,
      ),
)

next_level : (k : ℕ) → suc k ≡ k + 1
next_level k = omega arith

row_read : (k d : ℕ) (f : Formula) (ms : Links) → (ms ≡ no_links → ⊥) → AreOfLevel (k + 2) ms →
    ChainText k d f → LinksText k d ms → ChainText (k + 1) d (row f ms)
row_read k d f ms some levels c l = (
  c.0,
  λ r. c.1 (l.0 r),
  λ ls. c.2 (l.1 ls),
  λ y. c.3 (l.2 y),
  λ r. c.4 (l.0 r) ∙ ap c.2 (l.3 r),
  λ r g. c.5 (l.0 r) g ∙ l.4 r g,
  subst (λ j. IsJoined j (operand_tree c.0) (λ ls. c.2 (l.1 ls)) (row f ms)) (next_level k)
      (row_joined k (operand_tree c.0) f ms c.2 l.1 some levels c.6 l.5),
  λ r y o rest. c.7 (l.0 r) (l.2 y) o (l.6 r y o rest),
)

numeral_read : (d m : ℕ) (s : List ℕ) → IsUnsigned m s → OperandText d (numeral s)
numeral_read d m s h = (
  leaf (numeral s),
  λ y. s ++ 32 ∷ y,
  refl,
  λ y. subst (λ n. IsLeafAt d (numeral s) n (Ok (32 ∷ y))) (sym (numeral_opening d m s y h))
      (refl, refl),
)

text_read : (d : ℕ) (ps : Parts) → PartsText d ps → OperandText d (text ps)
text_read d ps h = (
  leaf (text ps),
  λ y. 34 ∷ h.0 (34 ∷ 32 ∷ y),
  refl,
  λ y. (
    ps,
    refl,
    Ok (32 ∷ y),
    (Ok (34 ∷ 32 ∷ y), h.1 true (32 ∷ y), refl),
    refl,
  ),
)

prefix_read : (d : ℕ) (u : Unary) (f : Formula) → 0 < d → OperandText (d - 1) f →
    OperandText d (prefix u f)
prefix_read d u f some h = (
  prefixed u h.0,
  λ y. prefix_text u (h.1 y),
  ap (prefix u) h.2,
  λ y. (h.1 y, prefix_opens u d (h.1 y) some, h.3 y),
)

call_read : (d : ℕ) (g : Function) (fs : Formulas) → 0 < d → ArgumentsText (d - 1) g fs →
    OperandText d (call g fs)
call_read d g fs some h = (
  called g h.0,
  λ y. call_text g (h.1 (32 ∷ y)),
  ap (call g) h.2,
  λ y. (h.1 (32 ∷ y), call_opens g d (h.1 (32 ∷ y)) some, h.3 (32 ∷ y)),
)

last_read : (d : ℕ) (g : Function) (f : Formula) → WholeText d f →
    ArgumentsText d g (formula f no_formulas)
last_read d g f h = (
  last h.0,
  λ y. h.1 (41 ∷ y),
  ap (λ l. formula l no_formulas) h.2,
  λ y. (Ok (41 ∷ y), h.3 (41 ∷ y) (ends_parenthesis y), refl, refl),
)

further_read : (d : ℕ) (g : Function) (f : Formula) (fs : Formulas) →
    ((z : List ℕ) → takes_more g z ≡ Some z) → WholeText d f → ArgumentsText d g fs →
    ArgumentsText d g (formula f fs)
further_read d g f fs more h l = (
  further h.0 l.0,
  λ y. h.1 (44 ∷ l.1 y),
  ap (λ v. formula v (argument_trees l.0)) h.2 ∙ ap (formula f) l.2,
  λ y. (
    Ok (44 ∷ l.1 y),
    h.3 (44 ∷ l.1 y) (ends_comma (l.1 y)),
    l.1 y,
    more (l.1 y),
    l.3 y,
  ),
)

levels_are : (ls : Links) (m n d : ℕ) → m ≡ n → AreLinksSpellable m d ls → AreOfLevel n ls
levels_are no_links m n d e h = tt
levels_are (link i f ls) m n d e h = (h.0 ∙ e, levels_are ls m n d e h.2)

min_takes : (f : Formula) (fs : Formulas) → takes Min (formula f fs) ≡ true
min_takes f no_formulas = refl
min_takes f (formula g fs) = refl

max_takes : (f : Formula) (fs : Formulas) → takes Max (formula f fs) ≡ true
max_takes f no_formulas = refl
max_takes f (formula g fs) = refl

-- the row of an operand and operators, of which there is at least one
row_formula : (n d m e : ℕ) (i : Infix) (f g : Formula) (ls : Links) → Stands n m d e →
    level i ≡ m → AreLinksSpellable m e (link i g ls) → FormulaText (m - 1) e f →
    LinksText (m - 2) e (link i g ls) → FormulaText n d (row f (link i g ls))
row_formula n d m e i f g ls stands is levels first l =
    let range = level_range i in
    let at : m ≡ (m - 2) + 2 = omega (arith, range.0, is) in
    let small : m - 2 ≤ 11 = omega (arith, range.1, is) in
    let behind : m - 1 ≡ (m - 2) + 1 = omega (arith, range.0, is) in
    row_stands n m (m - 2) d e (row f (link i g ls)) at small stands
    (row_read (m - 2) e f (link i g ls) (λ none. absurd (cc (none)))
    (levels_are (link i g ls) m ((m - 2) + 2) e at levels)
    (first.1 (m - 2) behind (omega (arith, small))) l)

mutual
  formula_text : (f : Formula) (n d : ℕ) → IsSpellable n d f → FormulaText n d f
  formula_text (numeral s) n d h = operand_formula n d (numeral s) (numeral_read d h.0 s h.1)
  formula_text (text ps) n d h = operand_formula n d (text ps) (text_read d ps (parts_text ps d h))
  formula_text (call g fs) n d h =
      operand_formula n d (call g fs)
      (call_read d g fs h.0 (arguments_text fs g (d - 1) h.1 h.2))
  formula_text (prefix u f) n d h =
      operand_formula n d (prefix u f) (prefix_read d u f h.0 ((formula_text f 1 (d - 1) h.1).0 refl))
  formula_text (row f no_links) n d h = absurd (h.3 refl)
  formula_text (row f (link i g ls)) n d h =
      row_formula n d h.0 h.1 i f g ls h.2 h.5.0 h.5 (formula_text f (h.0 - 1) h.1 h.4)
      (links_text (link i g ls) h.0 h.1 h.5)
  formula_text (choice f g k) n d h =
      choice_stands n d h.0 (choice f g k) h.1
      (choice_read h.0 f g k h.2 ((formula_text f 13 h.0 h.3).1 12 refl (omega arith))
      (formula_text g 14 (h.0 - 1) h.4).2 (formula_text k 14 (h.0 - 1) h.5).2)

  links_text : (ls : Links) (m d : ℕ) → AreLinksSpellable m d ls → LinksText (m - 2) d ls
  links_text no_links m d h = no_links_read (m - 2) d
  links_text (link i f ls) m d h =
      let range = level_range i in
      let at : level i ≡ (m - 2) + 2 = omega (arith, range.0, h.0) in
      let behind : m - 1 ≡ (m - 2) + 1 = omega (arith, range.0, h.0) in
      link_read (m - 2) d i f ls at
      ((formula_text f (m - 1) d h.1).1 (m - 2) behind (omega (arith, range.1, h.0)))
      (links_text ls m d h.2)

  arguments_text : (fs : Formulas) (g : Function) (d : ℕ) → takes g fs ≡ true →
      AreAllSpellable d fs → ArgumentsText d g fs
  arguments_text no_formulas g d some h = absurd (cc (some))
  arguments_text (formula f no_formulas) g d some h =
      last_read d g f (formula_text f 14 d h.0).2
  arguments_text (formula f (formula k fs)) Abs d some h = absurd (cc (some))
  arguments_text (formula f (formula k fs)) Min d some h =
      further_read d Min f (formula k fs) (λ z. refl) (formula_text f 14 d h.0).2
      (arguments_text (formula k fs) Min d (min_takes k fs) h.1)
  arguments_text (formula f (formula k fs)) Max d some h =
      further_read d Max f (formula k fs) (λ z. refl) (formula_text f 14 d h.0).2
      (arguments_text (formula k fs) Max d (max_takes k fs) h.1)

pub each_text : (f : Formula) → IsSpellable 14 100 f → (x : List ℕ) × IsFormula (Ok f) x
each_text f h =
    let k = (formula_text f 14 100 h).2 in (k.1 [], (k.0, k.3 [] ends_nothing, sym k.2))
