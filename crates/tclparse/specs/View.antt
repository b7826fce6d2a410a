-- The tree that a value of the code stands for.
use Rattle.std.specs.Prelude.{List, [], ◌∷◌, Vec}
use Rattle.std.specs.declared.rc.Rc.{Rc}
use Rattle.tclparse.specs.Tree.{Parts, no_parts, variable, element, script, Words, no_words, word, Commands, no_commands, command, bytes_then}
use Rattle.tclparse.specs.declared.tree.Part.{Part, fold-Part}
use Rattle.tclparse.specs.declared.tree.Part.TheOpen.{Part-F, Word-F, Command-F}
use Rattle.tclparse.specs.declared.tree.Part.TheFolds.{fold-Word, fold-Command}
use Rattle.tclparse.specs.declared.tree.Word.{Word}
use Rattle.tclparse.specs.declared.tree.Command.{Command}

-- the parts, words or commands that several values put, in order, before those that follow
abbrev pub join_parts : List (Parts → Parts) → Parts → Parts
join_parts [] t = t
join_parts (f ∷ fs) t = f (join_parts fs t)

abbrev pub join_words : List (Words → Words) → Words → Words
join_words [] t = t
join_words (f ∷ fs) t = f (join_words fs t)

abbrev pub join_commands : List Words → Commands → Commands
join_commands [] t = t
join_commands (w ∷ ws) t = command w (join_commands ws t)

-- the tree of one level, where each value inside is already seen as its tree; a part or a word is
-- seen as what it puts before those after it
abbrev pub part_step : {A : Type 0} → Part-F A (Parts → Parts) Words (Words → Words) → Parts → Parts
part_step (Part-F.Literal v) t = bytes_then v t
part_step (Part-F.Variable v) t = variable v t
part_step (Part-F.Element v ps) t = element v (join_parts ps.value.items no_parts) t
part_step (Part-F.Bracket cs) t = script (join_commands cs.value.items no_commands) t

abbrev pub word_step : {A : Type 0} → Word-F A (Parts → Parts) Words (Words → Words) → Words → Words
word_step w t = word w.expands (join_parts w.parts.value.items no_parts) t

abbrev pub command_step : {A : Type 0} → Command-F A (Parts → Parts) Words (Words → Words) → Words
command_step c = join_words c.words.value.items no_words

-- the tree of a part, a word and a command
abbrev pub part_view : {A : Type 0} → Part A → Parts → Parts
part_view {A} = fold-Part A (Parts → Parts) Words (Words → Words) part_step command_step word_step

abbrev pub word_view : {A : Type 0} → Word A → Words → Words
word_view {A} = fold-Word A (Parts → Parts) Words (Words → Words) part_step command_step word_step

abbrev pub command_view : {A : Type 0} → Command A → Words
command_view {A} =
    fold-Command A (Parts → Parts) Words (Words → Words) part_step command_step word_step

-- several parts, words or commands, before what follows them
abbrev pub parts_then : {A : Type 0} → List (Part A) → Parts → Parts
parts_then [] t = t
parts_then (p ∷ ps) t = part_view p (parts_then ps t)

abbrev pub words_then : {A : Type 0} → List (Word A) → Words → Words
words_then [] t = t
words_then (w ∷ ws) t = word_view w (words_then ws t)

abbrev pub commands_then : {A : Type 0} → List (Command A) → Commands → Commands
commands_then [] t = t
commands_then (c ∷ cs) t = command (command_view c) (commands_then cs t)

-- what a shared list of the tree stands for
abbrev pub parts_of : {A : Type 0} → Rc (Vec (Part A) A) A → Parts
parts_of ps = parts_then ps.value.items no_parts

abbrev pub words_of : {A : Type 0} → Rc (Vec (Word A) A) A → Words
words_of ws = words_then ws.value.items no_words

abbrev pub commands_of : {A : Type 0} → Rc (Vec (Command A) A) A → Commands
commands_of cs = commands_then cs.value.items no_commands
