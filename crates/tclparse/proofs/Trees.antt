-- A tree, level by level, and lists that grow at their end.
use Rattle.std.proofs.Common.{◌≡◌, ℕ, List, [], ◌∷◌, ◌++◌, Bool, refl, ap, rules, Vec, map}
use Rattle.std.specs.declared.rc.Rc.{Rc}
use Rattle.tclparse.specs.Tree.{Parts, no_parts, byte, variable, element, script, Words, no_words, word, Commands, no_commands, command, bytes_then, with_last}
use Rattle.tclparse.specs.View.{join_parts, join_words, join_commands, part_view, word_view, command_view, parts_then, words_then, commands_then}
use Rattle.tclparse.specs.declared.tree.Part.{Part, Literal, Variable, Bracket, Element, the_lemmas}
use Rattle.tclparse.specs.declared.tree.Word.{Word, out-Word}
use Rattle.tclparse.specs.declared.tree.Command.{Command, out-Command}
use Rattle.tclparse.specs.declared.tree.Part.TheViews.{roll-Word, roll-Command}

join_parts_view : {A : Type 0} → (ps : List (Part A)) (t : Parts) → join_parts (map part_view ps) t
    ≡ parts_then ps t
join_parts_view [] t = refl
join_parts_view (p ∷ ps) t = ap (part_view p) (join_parts_view ps t)

join_words_view : {A : Type 0} → (ws : List (Word A)) (t : Words) → join_words (map word_view ws) t
    ≡ words_then ws t
join_words_view [] t = refl
join_words_view (w ∷ ws) t = ap (word_view w) (join_words_view ws t)

join_commands_view : {A : Type 0} → (cs : List (Command A)) (t : Commands) →
    join_commands (map command_view cs) t ≡ commands_then cs t
join_commands_view [] t = refl
join_commands_view (c ∷ cs) t = ap (command (command_view c)) (join_commands_view cs t)

pub view_Literal : (A : Type 0) (v : List ℕ) (t : Parts) → part_view {A = A} (Literal v) t
    ≡ bytes_then v t
view_Literal A v t = search (rules, the_lemmas)

pub view_Variable : (A : Type 0) (v : List ℕ) (t : Parts) → part_view {A = A} (Variable v) t
    ≡ variable v t
view_Variable A v t = search (rules, the_lemmas)

pub view_Bracket : {A : Type 0} → (cs : Rc (Vec (Command A) A) A) (t : Parts) →
    part_view (Bracket cs) t ≡ script (commands_then cs.value.items no_commands) t
view_Bracket cs t = search (rules, the_lemmas, join_commands_view)

pub view_Element : {A : Type 0} → (v : List ℕ) (ps : Rc (Vec (Part A) A) A) (t : Parts) →
    part_view (Element v ps) t ≡ element v (parts_then ps.value.items no_parts) t
view_Element v ps t = search (rules, the_lemmas, join_parts_view)

pub view_Word : {A : Type 0} → (w : Word A) (t : Words) → word_view w t
    ≡ word (out-Word A w).expands (parts_then (out-Word A w).parts.value.items no_parts) t
view_Word {A} w t = search (rules, the_lemmas, join_parts_view)

pub view_Command : {A : Type 0} → (c : Command A) → command_view c
    ≡ words_then (out-Command A c).words.value.items no_words
view_Command {A} c = search (rules, the_lemmas, join_words_view)

-- the trees of values that are built from their fields
pub view_of_word : {A : Type 0} → (e : Bool) (ps : Rc (Vec (Part A) A) A) (t : Words)
    → word_view (roll-Word A (record { expands = e; parts = ps })) t
    ≡ word e (parts_then ps.value.items no_parts) t
view_of_word e ps t = search (rules, the_lemmas, join_parts_view)

pub view_of_command : {A : Type 0} → (n : ℕ) (ws : Rc (Vec (Word A) A) A) →
    command_view (roll-Command A (record { from_end = n; words = ws }))
    ≡ words_then ws.value.items no_words
view_of_command n ws = search (rules, the_lemmas, join_words_view)

pub parts_push : {A : Type 0} → (ps : List (Part A)) (p : Part A) (t : Parts) →
    parts_then (ps ++ p ∷ []) t ≡ parts_then ps (part_view p t)
parts_push [] p t = refl
parts_push (q ∷ ps) p t = ap (part_view q) (parts_push ps p t)

pub words_push : {A : Type 0} → (ws : List (Word A)) (w : Word A) (t : Words) →
    words_then (ws ++ w ∷ []) t ≡ words_then ws (word_view w t)
words_push [] w t = refl
words_push (v ∷ ws) w t = ap (word_view v) (words_push ws w t)

pub commands_push : {A : Type 0} → (cs : List (Command A)) (c : Command A) (t : Commands) →
    commands_then (cs ++ c ∷ []) t ≡ commands_then cs (command (command_view c) t)
commands_push [] c t = refl
commands_push (b ∷ cs) c t = ap (command (command_view b)) (commands_push cs c t)

pub bytes_push : (bs : List ℕ) (b : ℕ) (t : Parts) → bytes_then (bs ++ b ∷ []) t
    ≡ bytes_then bs (byte b t)
bytes_push [] b t = refl
bytes_push (a ∷ bs) b t = ap (byte a) (bytes_push bs b t)

pub commands_last : {A : Type 0} → (cs : List (Command A)) (ws : Words) →
    with_last (commands_then cs no_commands) ws ≡ commands_then cs (command ws no_commands)
commands_last [] ws = refl
commands_last (c ∷ cs) ws = ap (command (command_view c)) (commands_last cs ws)
