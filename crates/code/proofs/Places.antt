-- What is left of a list from a place on.
use Rattle.std.proofs.Common.{rules, ◌≡◌, ◌∙◌, ℕ, suc, ◌+◌, ◌<◌, List, ◌∷◌, length, drop, get_or, sym, ap, add-one, drop-cons}
use Rattle.formulas.specs.View.{formula_of, formulas_then, link_view, links_then}
use Rattle.formulas.specs.declared.tree.Formula.{Formula, Numeral, the_lemmas}
use Rattle.formulas.specs.declared.tree.Link.{Link}
use Rattle.tclparse.specs.Formula.{no_formulas, no_links, formula, numeral}
use Rattle.tclparse.specs.Tree.{no_parts, no_words, no_commands, command}
use Rattle.tclparse.specs.View.{part_view, parts_then, word_view, words_then, command_view, commands_then}
use Rattle.tclparse.specs.declared.tree.Part.{Part}
use Rattle.tclparse.specs.declared.tree.Word.{Word}
use Rattle.tclparse.specs.declared.tree.Command.{Command}

-- the item at a place, and those after it
item_at : {T : Type 0} (xs : List T) (i : ℕ) (x : T) → i < length xs → x ≡ get_or xs i x →
    drop i xs ≡ x ∷ drop (i + 1) xs
item_at xs i x below is =
    drop-cons xs i x below ∙ ap (λ y. y ∷ drop (suc i) xs) (sym is)
    ∙ ap (λ j. x ∷ drop j xs) (sym (add-one i))

module _ {A : Type 0} where
  pub part_at : (ps : List (Part A)) (i : ℕ) (p : Part A) → i < length ps → p ≡ get_or ps i p →
      parts_then (drop i ps) no_parts ≡ part_view p (parts_then (drop (i + 1) ps) no_parts)
  part_at ps i p below is = ap (λ l. parts_then l no_parts) (item_at ps i p below is)

  pub word_at : (ws : List (Word A)) (i : ℕ) (w : Word A) → i < length ws → w ≡ get_or ws i w →
      words_then (drop i ws) no_words ≡ word_view w (words_then (drop (i + 1) ws) no_words)
  word_at ws i w below is = ap (λ l. words_then l no_words) (item_at ws i w below is)

  pub command_at : (cs : List (Command A)) (i : ℕ) (c : Command A) → i < length cs →
      c ≡ get_or cs i c → commands_then (drop i cs) no_commands
      ≡ command (command_view c) (commands_then (drop (i + 1) cs) no_commands)
  command_at cs i c below is = ap (λ l. commands_then l no_commands) (item_at cs i c below is)

  pub link_at : (ls : List (Link A)) (i : ℕ) (l : Link A) → i < length ls → l ≡ get_or ls i l →
      links_then (drop i ls) no_links ≡ link_view l (links_then (drop (i + 1) ls) no_links)
  link_at ls i l below is = ap (λ xs. links_then xs no_links) (item_at ls i l below is)

  pub formula_at : (fs : List (Formula A)) (i : ℕ) (f : Formula A) → i < length fs →
      f ≡ get_or fs i f → formulas_then (drop i fs) no_formulas
      ≡ formula (formula_of f) (formulas_then (drop (i + 1) fs) no_formulas)
  formula_at fs i f below is = ap (λ xs. formulas_then xs no_formulas) (item_at fs i f below is)

-- the tree of a numeral
pub view_Numeral : (A : Type 0) (digits : List ℕ) →
    formula_of {A = A} (Numeral digits) ≡ numeral digits
view_Numeral A digits = search (rules, the_lemmas)
