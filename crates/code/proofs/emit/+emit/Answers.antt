use Rattle.std.proofs.Common.{false, true, ℕ, List, IfSome, [], ◌∷◌, codes, length, rules, arith, ◌≡◌, ◌∙◌, ◌+◌, drop, get_or, sym, ap, subst}
use Rattle.std.proofs.Math.ListN.{drop_of_length-le}
use Rattle.std.proofs.lemmas.List.{nil_from_length}
use Rattle.code.proofs.Commands.{all_left, command_block, own_after, own_command_block, values_block, words_block, command_left, commands_block, counting_block, plain_block, spread_block, word_left}
use Rattle.code.proofs.LastWords.{direct_block, three_words, two_words}
use Rattle.code.proofs.Choices.{string_block}
use Rattle.code.proofs.Foreach.{listed_block}
use Rattle.code.proofs.Owns.{own_block}
use Rattle.code.proofs.Tops.{word_after}
use Rattle.code.proofs.Parts.{bracket_block, element_block, empty_block, first_left, next_left, text_block, variable_block, word_block}
use Rattle.code.proofs.Places.{command_at, part_at, word_at}
use Rattle.code.specs.Blocks.{OwnBlock, PartsBlock, ValuesBlock, WordBlock, WordsBlock}
use Rattle.code.specs.Code.{AreNames, IsDirect, foreach_words, switch_words}
use Rattle.code.specs.Literals.{Are, IsLiteral}
use Rattle.code.specs.Own.{IsOwn, name_of}
use Rattle.code.specs.Switch.{AreArms, AreWhole, are_globs, words_before}
use Rattle.tclparse.proofs.Trees.{view_Bracket, view_Command, view_Element, view_Literal, view_Variable, view_Word}
use Rattle.tclparse.specs.Tree.{Parts, Words, no_commands, no_parts, no_words, command, word, literals, texts_then}
use Rattle.tclparse.specs.declared.tree.Command.{out-Command}
use Rattle.tclparse.specs.View.{commands_of, commands_then, part_view, parts_of, parts_then, word_view, words_then}
use Rattle.code.proofs.emit.+emit.Goals as goal
use Rattle.code.proofs.emit.+emit.Goals.{emit_word-then-not-counted+in_ok-push, emit_word-else-not-counted}

pub emit_value-returns-in_ok-push-in-Literal : goal.emit_value-returns-in_ok-push-in-Literal
emit_value-returns-in_ok-push-in-Literal g t c =
    let bytes = c.in-Literal.text in
    text_block c.args.code.now.items c.push.new.self.items bytes (part_view c.args.part.now)
    (search rules)
    (λ u. ap (λ p. part_view p u) c.in-Literal.is ∙ view_Literal g.row.A.Denot bytes u)

pub emit_value-returns-in_ok-push-in-Variable : goal.emit_value-returns-in_ok-push-in-Variable
emit_value-returns-in_ok-push-in-Variable g t c =
    let name = c.in-Variable.name in
    variable_block c.args.code.now.items c.push-in-Variable.new.self.items name
    (part_view c.args.part.now) (search rules)
    (λ u. ap (λ p. part_view p u) c.in-Variable.is ∙ view_Variable g.row.A.Denot name u)

pub emit_value-returns-in_ok-push-in-Element : goal.emit_value-returns-in_ok-push-in-Element
emit_value-returns-in_ok-push-in-Element g t c =
    let name = c.in-Element.name in
    let index = c.in-Element.index in
    element_block c.args.code.now.items c.emit_parts.new.code.items
    c.push-in-Element.new.self.items name (parts_of index) (part_view c.args.part.now)
    (search rules) (search rules)
    (λ u. ap (λ p. part_view p u) c.in-Element.is ∙ view_Element name index u)

pub emit_value-returns-in_ok-push-in-Bracket-2 : goal.emit_value-returns-in_ok-push-in-Bracket-2
emit_value-returns-in_ok-push-in-Bracket-2 g t c =
    let commands = c.in-Bracket.commands in
    bracket_block c.args.code.now.items c.push-in-Bracket.new.self.items
    c.emit_commands.new.code.items c.push-in-Bracket-2.new.self.items (commands_of commands)
    (part_view c.args.part.now) (search rules) (search rules) (search rules)
    (λ u. ap (λ p. part_view p u) c.in-Bracket.is ∙ view_Bracket commands u)

pub emit_word-returns-then-not-word-clause-block : goal.emit_word-returns-then-not-word-clause-block
emit_word-returns-then-not-word-clause-block g t c =
    let w = c.args.word.now in
    plain_block c.args.counted c.args.count c.args.code.now.items c.emit_parts.new.code.items
    (parts_of w.parts) (word_view w) (search rules)
    (λ u. view_Word w u ∙ ap (λ e. word e (parts_of w.parts) u) (search rules))

pub emit_commands-loop-command-preserved : goal.emit_commands-loop-command-preserved
emit_commands-loop-command-preserved g t c =
    let commands = c.args.commands.now in
    let n = c.loop-command.command-index in
    let it = c.command-item.result in
    command_left c.args.code.now.items c.loop-command.code.items c.emit_command.new.code.items
    (words_then (out-Command g.row.A.Denot it).words.value.items no_words)
    (commands_then (drop n commands) no_commands)
    (commands_then (drop (n + 1) commands) no_commands) (commands_then commands no_commands)
    c.loop-command.invariant (search rules)
    (command_at commands n it c.loop-command-test.true c.command-item.is
    ∙ ap (λ ws. command ws (commands_then (drop (n + 1) commands) no_commands))
    (view_Command it))

pub emit_commands-returns : goal.emit_commands-returns
emit_commands-returns g t c =
    let commands = c.args.commands.now in
    let n = c.loop-command.command-index in
    commands_block c.args.code.now.items c.loop-command.code.items
    (commands_then (drop n commands) no_commands) (commands_then commands no_commands)
    c.loop-command.invariant
    (ap (λ cs. commands_then cs no_commands)
    (drop_of_length-le commands {i = n} (omega (arith, c.loop-command-test.false))))

pub emit_values-loop-count-init : goal.emit_values-loop-count-init
emit_values-loop-count-init g t c = (
  all_left c.args.counted c.args.code.now.items (words_then c.args.words.now no_words),
  λ counted. counted,
)

pub emit_values-loop-count-preserved : goal.emit_values-loop-count-preserved
emit_values-loop-count-preserved g t c =
    let words = c.args.words.now in
    let n = c.loop-count.count in
    let it = c.index-words-count.result in (
      word_left c.args.counted c.loop-count.counts c.in_ok-counts.counts n
          c.args.code.now.items c.loop-count.code.items c.emit_word.new.code.items
          (word_view it) (words_then (drop n words) no_words)
          (words_then (drop (n + 1) words) no_words) (words_then words no_words)
          c.loop-count.invariant.0 c.in_ok-counts.ensures.block
          (word_at words n it c.loop-count-test.true c.index-words-count.is),
      λ counted. c.in_ok-counts.ensures.stays (c.loop-count.invariant.1 counted),
    )

pub emit_values-returns-clause-stays : goal.emit_values-returns-clause-stays
emit_values-returns-clause-stays g t c = c.loop-count.invariant.1

pub emit_values-returns-clause-block : goal.emit_values-returns-clause-block
emit_values-returns-clause-block g t c =
    let words = c.args.words.now in
    let n = c.loop-count.count in
    let all : n ≡ length words = omega (arith, c.loop-count-test.false) in
    subst (λ count. ValuesBlock c.args.counted c.loop-count.counts count c.args.code.now.items
    c.loop-count.code.items (words_then words no_words)) all (values_block c.args.counted
    c.loop-count.counts n c.args.code.now.items c.loop-count.code.items
    (words_then (drop n words) no_words) (words_then words no_words)
    c.loop-count.invariant.0
    (ap (λ ws. words_then ws no_words)
    (drop_of_length-le words {i = n} (omega (arith, c.loop-count-test.false)))))

pub emit_words-returns : goal.emit_words-returns
emit_words-returns g t c =
    words_block c.in_ok-counted.counted (length c.args.words.now) c.args.code.now.items
    c.emit_values.new.code.items c.push.new.self.items
    (words_then c.args.words.now no_words) c.in_ok-counted.ensures.block (search rules)

pub emit_parts-returns-in_default : goal.emit_parts-returns-in_default
emit_parts-returns-in_default g t c =
    subst (λ ps. PartsBlock c.args.code.now.items c.push.new.self.items (parts_then ps no_parts))
    (sym (nil_from_length c.args.parts.now c.in_default.ensures.cases))
    (empty_block c.args.code.now.items c.push.new.self.items (search rules))

pub emit_parts-loop-part-init : goal.emit_parts-loop-part-init
emit_parts-loop-part-init g t c =
    first_left c.args.code.now.items c.emit_value.new.code.items (part_view c.in-Some.first.now)
    (parts_then c.in-Some.rest.now no_parts) (parts_then c.args.parts.now no_parts)
    c.in_ok-emit_value.ensures
    (ap (λ ps. parts_then ps no_parts)
    c.in-Some.ensures.cases.0)

pub emit_parts-loop-part-preserved : goal.emit_parts-loop-part-preserved
emit_parts-loop-part-preserved g t c =
    let rest = c.in-Some.rest.now in
    let n = c.loop-part.part-index in
    let part = c.part-item.result in
    next_left c.args.code.now.items c.loop-part.code.items
    c.emit_value-in-loop-part.new.code.items c.push-in-loop-part.new.self.items (part_view part)
    (parts_then (drop n rest) no_parts) (parts_then (drop (n + 1) rest) no_parts)
    (parts_then c.args.parts.now no_parts) c.loop-part.invariant c.in_ok-emit_value-2.ensures
    (part_at rest n part c.loop-part-test.true c.part-item.is) (search rules)

pub emit_parts-returns : goal.emit_parts-returns
emit_parts-returns g t c =
    let rest = c.in-Some.rest.now in
    let n = c.loop-part.part-index in
    word_block c.args.code.now.items c.loop-part.code.items (parts_then (drop n rest) no_parts)
    (parts_then c.args.parts.now no_parts) c.loop-part.invariant
    (ap (λ ps. parts_then ps no_parts)
    (drop_of_length-le rest {i = n} (omega (arith, c.loop-part-test.false))))

pub emit_word-returns-clause-block : goal.emit_word-returns-clause-block
emit_word-returns-clause-block g t c =
    let w = c.args.word.now in
    let n = c.args.count in
    let old = c.args.code.now.items in
    let new = c.push-2.new.self.items in
    let seen : (u : Words) → word_view w u ≡ word true (parts_of w.parts) u =
    λ u. view_Word w u ∙ ap (λ e. word e (parts_of w.parts) u) (search rules) in
    let block = spread_block n c.if-not-counted.code.items c.emit_parts-2.new.code.items new
    (parts_of w.parts) (word_view w) (search rules) (search rules) seen in
    elim c.if-not-counted.branch [
      | emit_word-then-not-counted+in_ok-push v ↦
          subst (λ b. WordBlock b true n old new (word_view w)) (search rules)
          (counting_block n old c.if-not-counted.code.items new (word_view w) (search rules) block)
      | emit_word-else-not-counted v ↦
          subst (λ b. WordBlock b true n old new (word_view w)) (search rules)
          (subst (λ code. WordBlock true true n code new (word_view w)) (search rules) block)
    ]

pub emit_of_three-returns : goal.emit_of_three-returns
emit_of_three-returns g t c =
    let words = c.args.words.now in
    let command = c.command-item.result in
    let variable = c.name-item.result in
    let its =
    subst (λ read. IfSome read (λ it. (own : List ℕ) × (text : List ℕ) × IsLiteral command own ×
    IsLiteral variable text × IsDirect it (own ∷ text ∷ []))) c.in-Some.is c.in_ok-direct.ensures in
    let last = c.value-item.result in
    let are : words_then words no_words
    ≡ texts_then (its.0 ∷ its.1 ∷ []) (word false (parts_of last.parts) no_words) =
    three_words words command variable last its.0 its.1
    c.in-len3.len_at_least c.in-len3.len_below c.command-item.is c.name-item.is c.value-item.is
    its.2 its.3 (search rules) in
    subst (λ ws. OwnBlock true c.args.code.now.items c.push.new.self.items ws) (sym are)
    (direct_block c.args.code.now.items c.emit_parts.new.code.items c.push.new.self.items
    c.in-Some.direct (its.0 ∷ its.1 ∷ []) (parts_of last.parts) its.4 (search rules)
    (search rules))

pub emit_of_two-returns : goal.emit_of_two-returns
emit_of_two-returns g t c =
    let words = c.args.words.now in
    let name = c.in-Some.ensures.0 in
    let last = c.last-item.result in
    let are : words_then words no_words
    ≡ texts_then (name ∷ []) (word false (parts_of last.parts) no_words) =
    two_words words c.command-item.result last name c.in-len2.len_at_least c.in-len2.len_below
    c.command-item.is c.last-item.is c.in-Some.ensures.1 (search rules) in
    subst (λ ws. OwnBlock true c.args.code.now.items c.push.new.self.items ws) (sym are)
    (direct_block c.args.code.now.items c.emit_parts.new.code.items c.push.new.self.items
    c.in-Some.direct (name ∷ []) (parts_of last.parts) c.in-Some.ensures.2 (search rules)
    (search rules))

pub emit_of_literals-returns : goal.emit_of_literals-returns
emit_of_literals-returns g t c =
    let words = c.args.words.now in
    let own = c.in-Some.own in
    let read : (args : List (List ℕ)) × Are words (name_of own ∷ args) × IsOwn own args =
    subst (λ r. IfSome r (λ it. (args : List (List ℕ)) × Are words (name_of it ∷ args) ×
    IsOwn it args)) c.in-Some.is c.in_ok-own.ensures in
    own_block c.args.code.now.items c.push.new.self.items c.emit_words.new.code.items
    c.push-2.new.self.items c.fill.new.code.items c.emit_its.new.code.items
    c.fill-2.new.code.items c.in_ok-name.name (name_of own) read.0 (words_then words no_words)
    (search rules) read.1 (search rules) (search rules) (search rules) (search rules)
    (c.in_ok-emit_its.ensures read.0 read.2) (search rules)

pub emit_of_list-returns : goal.emit_of_list-returns
emit_of_list-returns g t c =
    let words = c.args.words.now in
    let own = c.in-Some.own in
    let read : (list : Parts) ×
    (words_then words no_words ≡ foreach_words own.variables list own.body) ×
    AreNames own.variables own.names.items =
    subst (λ r. IfSome r (λ it. (list : Parts) ×
    (words_then words no_words ≡ foreach_words it.variables list it.body) ×
    AreNames it.variables it.names.items)) c.in-Some.is c.in_ok-own.ensures in
    let list = c.in-Some-get.list.now in
    let at : list ≡ get_or words 2 list = search rules in
    let parts : parts_of list.parts ≡ read.0 =
    word_after (codes "foreach" ∷ own.variables ∷ []) words read.0 (literals (own.body ∷ []))
    read.1 list at in
    subst (λ ws. OwnBlock true c.args.code.now.items c.emit_each.new.code.items ws) (sym read.1)
    (listed_block c.args.code.now.items c.emit_parts.new.code.items c.emit_each.new.code.items
    own.variables own.body read.0
    (subst (λ ps. PartsBlock c.args.code.now.items c.emit_parts.new.code.items ps) parts
    (search rules))
    (c.in_ok-emit_each.ensures read.2))

pub emit_of_string-returns : goal.emit_of_string-returns
emit_of_string-returns g t c =
    let words = c.args.words.now in
    let own = c.in-Some.own in
    let read : (string : Parts) ×
    (words_then words no_words ≡ switch_words own.options string own.after.items) ×
    AreArms own.arms.items own.after.items ×
    AreWhole (are_globs own.options.flag) own.arms.items =
    subst (λ r. IfSome r (λ it. (string : Parts) ×
    (words_then words no_words ≡ switch_words it.options string it.after.items) ×
    AreArms it.arms.items it.after.items ×
    AreWhole (are_globs it.options.flag) it.arms.items)) c.in-Some.is c.in_ok-own.ensures in
    let string = c.in-Some-get.string.now in
    let at : string ≡ get_or words (length (words_before own.options)) string = search rules in
    let parts : parts_of string.parts ≡ read.0 =
    word_after (words_before own.options) words read.0 (literals own.after.items) read.1 string
    at in
    subst (λ ws. OwnBlock true c.args.code.now.items c.emit_switch.new.code.items ws) (sym read.1)
    (string_block c.args.code.now.items c.emit_parts.new.code.items c.emit_switch.new.code.items
    own.options read.0 own.after.items
    (subst (λ ps. PartsBlock c.args.code.now.items c.emit_parts.new.code.items ps) parts
    (search rules))
    (c.in_ok-emit_switch.ensures read.2 read.3))

pub emit_whole-returns-then-branch : goal.emit_whole-returns-then-branch
emit_whole-returns-then-branch g t c =
    let ws = words_then c.args.words.now no_words in
    let some : c.in_ok-emit_of_literals.field-0 ≡ true = search rules in
    subst (λ put. OwnBlock put c.args.code.now.items c.emit_of_literals.new.code.items ws) some
    c.in_ok-emit_of_literals.ensures

pub emit_whole-returns-then-branch-2 : goal.emit_whole-returns-then-branch-2
emit_whole-returns-then-branch-2 g t c =
    let ws = words_then c.args.words.now no_words in
    let none : c.in_ok-emit_of_literals.field-0 ≡ false = search rules in
    let some : c.in_ok-put_argued.field-0 ≡ true = search rules in
    own_after c.args.code.now.items c.emit_of_literals.new.code.items c.put_argued.new.code.items ws
    _ true c.in_ok-emit_of_literals.ensures none
    (subst (λ put. OwnBlock put c.emit_of_literals.new.code.items c.put_argued.new.code.items ws)
    some c.in_ok-put_argued.ensures)

pub emit_whole-returns-then-branch-3 : goal.emit_whole-returns-then-branch-3
emit_whole-returns-then-branch-3 g t c =
    let ws = words_then c.args.words.now no_words in
    let old = c.args.code.now.items in
    let one = c.emit_of_literals.new.code.items in
    let two = c.put_argued.new.code.items in
    let new = c.emit_of_list.new.code.items in
    let none : c.in_ok-emit_of_literals.field-0 ≡ false = search rules in
    let none_two : c.in_ok-put_argued.field-0 ≡ false = search rules in
    let some : c.in_ok-emit_of_list.field-0 ≡ true = search rules in
    own_after old one new ws _ true c.in_ok-emit_of_literals.ensures none
    (own_after one two new ws _ true c.in_ok-put_argued.ensures none_two
    (subst (λ put. OwnBlock put two new ws) some c.in_ok-emit_of_list.ensures))

pub emit_whole-returns : goal.emit_whole-returns
emit_whole-returns g t c =
    let ws = words_then c.args.words.now no_words in
    let old = c.args.code.now.items in
    let one = c.emit_of_literals.new.code.items in
    let two = c.put_argued.new.code.items in
    let three = c.emit_of_list.new.code.items in
    let new = c.emit_of_string.new.code.items in
    let none : c.in_ok-emit_of_literals.field-0 ≡ false = search rules in
    let none_two : c.in_ok-put_argued.field-0 ≡ false = search rules in
    let none_three : c.in_ok-emit_of_list.field-0 ≡ false = search rules in
    own_after old one new ws _ _ c.in_ok-emit_of_literals.ensures none
    (own_after one two new ws _ _ c.in_ok-put_argued.ensures none_two
    (own_after two three new ws _ _ c.in_ok-emit_of_list.ensures none_three
    c.in_ok-emit_of_string.ensures))

pub emit_own-returns-then-branch : goal.emit_own-returns-then-branch
emit_own-returns-then-branch g t c =
    let ws = words_then c.args.words.now no_words in
    let some : c.in_ok-emit_whole.field-0 ≡ true = search rules in
    subst (λ put. OwnBlock put c.args.code.now.items c.emit_whole.new.code.items ws) some
    c.in_ok-emit_whole.ensures

pub emit_own-returns-then-branch-2 : goal.emit_own-returns-then-branch-2
emit_own-returns-then-branch-2 g t c =
    let ws = words_then c.args.words.now no_words in
    let some : c.in_ok-emit_of_three.field-0 ≡ true = search rules in
    let none : c.in_ok-emit_whole.field-0 ≡ false = search rules in
    own_after c.args.code.now.items c.emit_whole.new.code.items c.emit_of_three.new.code.items ws _
    true
    c.in_ok-emit_whole.ensures none
    (subst (λ put. OwnBlock put c.emit_whole.new.code.items c.emit_of_three.new.code.items ws) some
    c.in_ok-emit_of_three.ensures)

pub emit_own-returns : goal.emit_own-returns
emit_own-returns g t c =
    let ws = words_then c.args.words.now no_words in
    let none : c.in_ok-emit_whole.field-0 ≡ false = search rules in
    let none_three : c.in_ok-emit_of_three.field-0 ≡ false = search rules in
    own_after c.args.code.now.items c.emit_whole.new.code.items c.emit_of_two.new.code.items ws _ _
    c.in_ok-emit_whole.ensures none
    (own_after c.emit_whole.new.code.items c.emit_of_three.new.code.items
    c.emit_of_two.new.code.items ws _ _
    c.in_ok-emit_of_three.ensures none_three c.in_ok-emit_of_two.ensures)

pub emit_command-returns-in_ok-emit_words : goal.emit_command-returns-in_ok-emit_words
emit_command-returns-in_ok-emit_words g t c =
    let ws = words_then c.args.words.now no_words in
    let first = c.push.new.self.items in
    let none : c.in_ok-emit_own.field-0 ≡ false = search rules in
    let unchanged : c.emit_own.new.code.items ≡ first =
    subst (λ put. OwnBlock put first c.emit_own.new.code.items ws) none c.in_ok-emit_own.ensures in
    command_block c.args.code.now.items first c.emit_words.new.code.items c.args.from_end ws
    (search rules)
    (subst (λ code. WordsBlock code c.emit_words.new.code.items ws) unchanged
    c.in_ok-emit_words.ensures)

pub emit_command-returns-else-not-branch : goal.emit_command-returns-else-not-branch
emit_command-returns-else-not-branch g t c =
    let ws = words_then c.args.words.now no_words in
    let first = c.push.new.self.items in
    let some : c.in_ok-emit_own.field-0 ≡ true = search rules in
    own_command_block c.args.code.now.items first c.emit_own.new.code.items c.args.from_end ws
    (search rules)
    (subst (λ put. OwnBlock put first c.emit_own.new.code.items ws) some c.in_ok-emit_own.ensures)
