-- What contracts see of a script that may run: its tree, and how the logic stores one.
use Prim.Native.Nat.{zero, suc}
use Rattle.std.specs.Prelude.{◌≡◌, ℕ, true, false, List, [], ◌∷◌, Option, Some, None, option_map, refl}
use base.Stored.{Coded, Gv, gnil, gnum, gcons}
use mathlib.Core.Path.{sym, ◌∙◌, ap}
use Rattle.tclparse.specs.Fault.{Fault, open_brace, open_bracket, open_quote, after_brace, after_quote, too_deep, escape_not_here, bad_variable}
use Rattle.tclparse.specs.Seen.{fault_of}
use Rattle.tclparse.specs.Tree.{Parts, no_parts, byte, variable, element, script, Words, no_words, word, Commands, no_commands, command}
use Rattle.tclparse.specs.View.{commands_of}
use Rattle.tclparse.specs.declared.script.Script as read

-- a script's commands, and the fault that ends its text early (Tcl(n))
pub record ScriptTree : Type 0 where
  pub commands : Commands
  pub fault : Option Fault

-- the tree that was read of a script's text
abbrev pub seen : {A : Type 0} → read.Script A → ScriptTree
seen own = record { commands = commands_of own.commands; fault = option_map fault_of own.fault }

-- how the logic stores bytes, and what is stored
pub stored_bytes : List ℕ → Gv
stored_bytes [] = gnil
stored_bytes (b ∷ bs) = gcons (gnum b) (stored_bytes bs)

pub bytes_in : Gv → List ℕ
bytes_in (gcons (gnum b) g) = b ∷ bytes_in g
bytes_in _ = []

-- how it stores the parts of a tree
mutual
  pub stored_parts : Parts → Gv
  stored_parts no_parts = gnil
  stored_parts (byte b ps) = gcons gnil (gcons (gnum b) (stored_parts ps))
  stored_parts (variable name ps) =
      gcons (gnum 0) (gcons (stored_bytes name) (stored_parts ps))
  stored_parts (element name is ps) =
      gcons (gcons gnil gnil) (gcons (stored_bytes name) (gcons (stored_parts is)
      (stored_parts ps)))
  stored_parts (script cs ps) =
      gcons (gcons gnil (gnum 0)) (gcons (stored_commands cs) (stored_parts ps))

  pub stored_words : Words → Gv
  stored_words no_words = gnil
  stored_words (word false ps ws) = gcons gnil (gcons (stored_parts ps) (stored_words ws))
  stored_words (word true ps ws) = gcons (gnum 0) (gcons (stored_parts ps) (stored_words ws))

  pub stored_commands : Commands → Gv
  stored_commands no_commands = gnil
  stored_commands (command ws cs) = gcons (stored_words ws) (stored_commands cs)

mutual
  pub parts_in : Gv → Parts
  parts_in (gcons gnil (gcons (gnum b) g)) = byte b (parts_in g)
  parts_in (gcons (gnum _) (gcons name g)) = variable (bytes_in name) (parts_in g)
  parts_in (gcons (gcons _ gnil) (gcons name (gcons is g))) =
      element (bytes_in name) (parts_in is) (parts_in g)
  parts_in (gcons (gcons _ (gnum _)) (gcons cs g)) = script (commands_in cs) (parts_in g)
  parts_in _ = no_parts

  pub words_in : Gv → Words
  words_in (gcons gnil (gcons ps g)) = word false (parts_in ps) (words_in g)
  words_in (gcons (gnum _) (gcons ps g)) = word true (parts_in ps) (words_in g)
  words_in _ = no_words

  pub commands_in : Gv → Commands
  commands_in (gcons ws g) = command (words_in ws) (commands_in g)
  commands_in _ = no_commands

pub bytes_back : (bs : List ℕ) → bytes_in (stored_bytes bs) ≡ bs
unfolding stored_bytes bytes_in
bytes_back [] = refl
bytes_back (b ∷ bs) = ap (λ r. b ∷ r) (bytes_back bs)

mutual
  unfolding stored_parts stored_words stored_commands parts_in words_in commands_in

  pub parts_back : (ps : Parts) → parts_in (stored_parts ps) ≡ ps
  parts_back no_parts = refl
  parts_back (byte b ps) = ap (byte b) (parts_back ps)
  parts_back (variable name ps) = λ i. variable (bytes_back name i) (parts_back ps i)
  parts_back (element name is ps) =
      λ i. element (bytes_back name i) (parts_back is i) (parts_back ps i)
  parts_back (script cs ps) = λ i. script (commands_back cs i) (parts_back ps i)

  pub words_back : (ws : Words) → words_in (stored_words ws) ≡ ws
  words_back no_words = refl
  words_back (word false ps ws) = λ i. word false (parts_back ps i) (words_back ws i)
  words_back (word true ps ws) = λ i. word true (parts_back ps i) (words_back ws i)

  pub commands_back : (cs : Commands) → commands_in (stored_commands cs) ≡ cs
  commands_back no_commands = refl
  commands_back (command ws cs) = λ i. command (words_back ws i) (commands_back cs i)

pub stored_fault : Option Fault → Gv
stored_fault None = gnil
stored_fault (Some open_brace) = gnum 0
stored_fault (Some open_bracket) = gnum 1
stored_fault (Some open_quote) = gnum 2
stored_fault (Some after_brace) = gnum 3
stored_fault (Some after_quote) = gnum 4
stored_fault (Some too_deep) = gnum 5
stored_fault (Some escape_not_here) = gnum 6
stored_fault (Some bad_variable) = gnum 7

pub fault_in : Gv → Option Fault
fault_in (gnum zero) = Some open_brace
fault_in (gnum (suc zero)) = Some open_bracket
fault_in (gnum (suc (suc zero))) = Some open_quote
fault_in (gnum (suc (suc (suc zero)))) = Some after_brace
fault_in (gnum (suc (suc (suc (suc zero))))) = Some after_quote
fault_in (gnum (suc (suc (suc (suc (suc zero)))))) = Some too_deep
fault_in (gnum (suc (suc (suc (suc (suc (suc zero))))))) = Some escape_not_here
fault_in (gnum (suc (suc (suc (suc (suc (suc (suc zero)))))))) = Some bad_variable
fault_in _ = None

pub fault_back : (f : Option Fault) → fault_in (stored_fault f) ≡ f
unfolding stored_fault fault_in
fault_back None = refl
fault_back (Some open_brace) = refl
fault_back (Some open_bracket) = refl
fault_back (Some open_quote) = refl
fault_back (Some after_brace) = refl
fault_back (Some after_quote) = refl
fault_back (Some too_deep) = refl
fault_back (Some escape_not_here) = refl
fault_back (Some bad_variable) = refl

pub stored_tree : ScriptTree → Gv
stored_tree t = gcons (stored_commands t.commands) (stored_fault t.fault)

pub tree_in : Gv → ScriptTree
tree_in (gcons cs f) = record { commands = commands_in cs; fault = fault_in f }
tree_in _ = record { commands = no_commands; fault = None }

pub tree_back : (t : ScriptTree) → tree_in (stored_tree t) ≡ t
unfolding stored_tree tree_in
tree_back t = λ i. record { commands = commands_back t.commands i; fault = fault_back t.fault i }

-- how the logic stores the tree of a script
abbrev pub stored : Coded ScriptTree
stored = record {
  code = stored_tree;
  inj = λ x y same. sym (tree_back x) ∙ ap tree_in same ∙ tree_back y;
}

-- how the logic stores the words of an argument in braces
abbrev pub stored_argument : Coded Words
stored_argument = record {
  code = stored_words;
  inj = λ x y same. sym (words_back x) ∙ ap words_in same ∙ words_back y;
}
