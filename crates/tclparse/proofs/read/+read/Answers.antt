use Rattle.std.proofs.Common.{false, rules, arith, ◌≡◌, ◌<◌, length, Ok, Err, sym, refl, ap, subst, ◌∙◌}
use Rattle.tclparse.specs.Tree.{no_parts, variable, element, script, no_commands, bytes_then}
use Rattle.tclparse.specs.View.{parts_then, commands_then}
use Rattle.tclparse.specs.Piece.{next, fault}
use Rattle.tclparse.specs.Grammar.{IsParts}
use Rattle.tclparse.specs.Seen.{fault_of, context_of, place_of}
use Rattle.tclparse.proofs.Steps.{StandsAt, after_byte, after_part, name_part, index_part, element_part, script_part, after_word, after_command, command_fault, bracket_error, index_error, word_error}
use Rattle.tclparse.proofs.Exits.{passed_on}
use Rattle.tclparse.proofs.WordKinds.{quoted_word, one_word}
use Rattle.tclparse.proofs.Trees.{view_Variable, view_Bracket, view_Element}
use Rattle.tclparse.specs.Normal.{is_normal_word, is_normal_command}
use Rattle.tclparse.proofs.Normal.{form_Variable, normal_command, open_push, open_end, all_push, push_some}
use Rattle.tclparse.proofs.Gaps.{command_goes_on}
use Rattle.tclparse.specs.Context.{ends_command}
use Rattle.tclparse.specs.declared.tree.Part.TheViews.{roll-Command}
use Rattle.tclparse.proofs.read.+read.Goals as goal
use Rattle.tclparse.proofs.read.+read.Goals.{read_parts-in-Name+in_ok-from_slice-in-Name, read_parts-in-Index+in_ok-read_element-in-Index, read_parts-in-Element+in_ok-literal_element-in-Element, read_parts-in-Bracket+in_ok-part-in-Bracket}

pub read_parts-returns-in-Fault-clause-tree : goal.read_parts-returns-in-Fault-clause-tree
read_parts-returns-in-Fault-clause-tree g t c =
    let e : fault (fault_of c.in-Fault.fault)
    ≡ next (place_of c.args.place) c.args.depth c.loop-alloc.bytes.now =
    c.in-Fault.ensures.piece in
    let here : IsParts (place_of c.args.place) c.args.depth no_parts c.loop-alloc.bytes.now
    (Err (fault_of c.in-Fault.fault)) = rw (← e) refl in (
      parts_then c.loop-alloc.parts.items (bytes_then c.loop-alloc.literal.items no_parts),
      c.loop-alloc.invariant.tree no_parts (Err (fault_of c.in-Fault.fault)) here,
    )

pub read_parts-loop-alloc-preserved-in-Byte : goal.read_parts-loop-alloc-preserved-in-Byte
read_parts-loop-alloc-preserved-in-Byte g t c =
    let l = c.loop-alloc in
    let less : length c.in-Byte.rest.now < length l.bytes.now = c.in-Byte.ensures.shorter in
    record {
      tree = after_byte (place_of c.args.place) c.args.depth c.args.text.now l.bytes.now
          c.in-Byte.rest.now c.in-Byte.c l.parts.items l.literal.items c.push.new.self.items
          l.invariant.tree c.in-Byte.ensures.piece (search rules);
      shorter = omega (arith, less, l.invariant.shorter);
      moves = λ _ h. absurd (omega (arith, less, h, l.invariant.shorter));
      normal = l.invariant.normal;
    }

pub read_parts-loop-alloc-preserved : goal.read_parts-loop-alloc-preserved
read_parts-loop-alloc-preserved g t c =
    let l = c.loop-alloc in
    let stands : StandsAt (place_of c.args.place) c.args.depth l.bytes.now c.match-next.part =
    elim c.match-next.branch [
      | read_parts-in-Name+in_ok-from_slice-in-Name w ↦
          let n = w.in-Name.name.now in
          let name : w.in_ok-from_slice-in-Name.field-0 ≡ n = search rules in
          subst (StandsAt (place_of c.args.place) c.args.depth l.bytes.now) (sym w.part-is) (
            variable n,
            name_part (place_of c.args.place) c.args.depth l.bytes.now w.in-Name.rest.now
                n w.in-Name.ensures.piece,
            (λ u. view_Variable _ w.in_ok-from_slice-in-Name.field-0 u
                ∙ ap (λ v. variable v u) name),
            w.in-Name.ensures.shorter,
            form_Variable _ _,
          )
      | read_parts-in-Index+in_ok-read_element-in-Index w ↦
          let n = w.in-Index.name.now in
          let read = w.in_ok-read_element-in-Index.ensures.tree in
          let less = w.in_ok-read_element-in-Index.ensures.shorter in
          let before = w.in-Index.ensures.shorter in
          subst (StandsAt (place_of c.args.place) c.args.depth l.bytes.now) (sym w.part-is) (
            element n read.0,
            index_part (place_of c.args.place) c.args.depth l.bytes.now
                w.in-Index.inner.now _ n read.0 w.in-Index.ensures.piece read.2,
            read.1,
            omega (arith, less, before),
            w.in_ok-read_element-in-Index.ensures.normal,
          )
      | read_parts-in-Element+in_ok-literal_element-in-Element w ↦
          let n = w.in-Element.name.now in
          let i = w.in-Element.index.now in
          subst (StandsAt (place_of c.args.place) c.args.depth l.bytes.now) (sym w.part-is) (
            element n (bytes_then i no_parts),
            element_part (place_of c.args.place) c.args.depth l.bytes.now w.in-Element.rest.now n
                i w.in-Element.ensures.piece,
            w.in_ok-literal_element-in-Element.ensures.part,
            w.in-Element.ensures.shorter,
            w.in_ok-literal_element-in-Element.ensures.normal,
          )
      | read_parts-in-Bracket+in_ok-part-in-Bracket w ↦
          let read = w.in_ok-part-in-Bracket.ensures.tree in
          let less = w.in_ok-part-in-Bracket.ensures.shorter in
          let before = w.in-Bracket.ensures.shorter in
          subst (StandsAt (place_of c.args.place) c.args.depth l.bytes.now) (sym w.part-is) (
            script read.0,
            script_part (place_of c.args.place) c.args.depth l.bytes.now
                w.in-Bracket.inner.now _ read.0 w.in-Bracket.ensures.piece read.2,
            read.1,
            omega (arith, less, before),
            w.in_ok-part-in-Bracket.ensures.normal,
          )
    ] in
    record {
      tree = after_part (place_of c.args.place) c.args.depth c.args.text.now l.bytes.now
          c.match-next.part.1.now c.match-next.part.0 stands.0
          l.parts.items c.end_literal-in-loop-alloc.new.parts.items
          c.push-in-loop-alloc.new.self.items l.literal.items
          c.end_literal-in-loop-alloc.new.literal.items
          l.invariant.tree stands.1 stands.2 c.in_ok-end_literal.ensures.parts (search rules)
          c.in_ok-end_literal.ensures.empty;
      shorter = omega (arith, stands.3, l.invariant.shorter);
      moves = λ _ h. absurd (omega (arith, stands.3, h, l.invariant.shorter));
      normal = open_push l.parts.items c.end_literal-in-loop-alloc.new.parts.items
          c.push-in-loop-alloc.new.self.items c.match-next.part.0
          l.invariant.normal c.in_ok-end_literal.ensures.forms stands.4 (search rules);
    }

pub read_parts-returns-in_err-read_element-in-Index-clause-tree :
    goal.read_parts-returns-in_err-read_element-in-Index-clause-tree
read_parts-returns-in_err-read_element-in-Index-clause-tree g t c =
    let l = c.loop-alloc in
    let fails = c.in_err-read_element-in-Index in
    index_error (place_of c.args.place) c.args.depth c.args.text.now l.bytes.now
    c.in-Index.inner.now c.in-Index.name.now fails.field-0.0 l.parts.items l.literal.items _
    l.invariant.tree c.in-Index.ensures.piece fails.ensures.tree
    (passed_on _ _ c.from_residual-in_err-read_element-in-Index.ensures.1)

pub read_parts-returns-in_err-part-in-Bracket-clause-tree :
    goal.read_parts-returns-in_err-part-in-Bracket-clause-tree
read_parts-returns-in_err-part-in-Bracket-clause-tree g t c =
    let l = c.loop-alloc in
    let fails = c.in_err-part-in-Bracket in
    bracket_error (place_of c.args.place) c.args.depth c.args.text.now l.bytes.now
    c.in-Bracket.inner.now fails.field-0.0 l.parts.items l.literal.items _
    l.invariant.tree c.in-Bracket.ensures.piece fails.ensures.tree
    (passed_on _ _ c.from_residual-in_err-part-in-Bracket.ensures.1)

pub read_bracket-returns-clause-tree : goal.read_bracket-returns-clause-tree
read_bracket-returns-clause-tree g t c =
    let read = c.in_ok-commands in (
      commands_then read.commands.value.items no_commands,
      (λ t. view_Bracket read.commands t),
      search rules,
    )

pub read_element-returns-clause-tree : goal.read_element-returns-clause-tree
read_element-returns-clause-tree g t c =
    let name : c.in_ok-name.name ≡ c.args.name.now = search rules in
    let read = c.in_ok-index in
    let inside = parts_then read.index.value.items no_parts in (
      inside,
      (λ t. view_Element c.in_ok-name.name read.index t ∙ ap (λ n. element n inside t) name),
      search rules,
    )

pub read_body-returns-in_err-rest-in-Quotes-clause-tree :
    goal.read_body-returns-in_err-rest-in-Quotes-clause-tree
read_body-returns-in_err-rest-in-Quotes-clause-tree g t c =
    let f = c.in_err-rest-in-Quotes.field-0.0 in
    let read = c.in_ok-parts-in-Quotes in
    rw (passed_on _ _ c.from_residual-in_err-rest-in-Quotes.ensures.1) (
      parts_then read.parts.value.items no_parts,
      quoted_word (context_of c.args.context) c.args.depth c.args.text.now _ _ (Ok read.end.now)
          (Err (fault_of f)) c.in-Quotes.ensures.kind read.ensures.tree
          c.in_err-rest-in-Quotes.ensures.rest,
    )

pub read_word-returns-clause-tree : goal.read_word-returns-clause-tree
read_word-returns-clause-tree g t c =
    one_word (context_of c.args.context) c.args.depth c.args.text.now
    c.split_prefix-expands.result.1.now c.in_ok-parts.rest.now c.split_prefix-expands.result.0
    c.in_ok-parts.parts
    c.split_prefix-expands.ensures.expands c.split_prefix-expands.ensures.rest
    c.in_ok-parts.ensures.tree

pub read_words-returns-in_err-word-clause-tree : goal.read_words-returns-in_err-word-clause-tree
read_words-returns-in_err-word-clause-tree g t c =
    let l = c.loop-context in
    word_error (context_of c.args.context) c.args.depth c.args.text.now l.bytes.now
    c.in_err-word.field-0.0 l.words.items _
    l.invariant.tree (sym c.loop-context-test.ensures) c.in_err-word.ensures.tree
    (passed_on _ _ c.from_residual.ensures.1)

pub read_words-loop-context-preserved : goal.read_words-loop-context-preserved
read_words-loop-context-preserved g t c =
    let l = c.loop-context in
    record {
      tree = after_word (context_of c.args.context) c.args.depth c.args.text.now l.bytes.now
          c.in_ok-word.rest.now c.skip_white-bytes.result.now c.in_ok-word.word l.words.items
          c.push.new.self.items
          l.invariant.tree (sym c.loop-context-test.ensures) c.in_ok-word.ensures.tree
          (search rules) c.skip_white-bytes.ensures.rest;
      begins = c.skip_white-bytes.ensures.begins;
      shorter = omega (
        arith,
        c.skip_white-bytes.ensures.shorter,
        c.in_ok-word.ensures.shorter,
        l.invariant.shorter,
      );
      moves = λ h. absurd (omega (
        arith,
        h,
        c.skip_white-bytes.ensures.shorter,
        c.in_ok-word.ensures.shorter,
        l.invariant.shorter,
      ));
      normal = all_push is_normal_word l.words.items c.push.new.self.items c.in_ok-word.word
          l.invariant.normal c.in_ok-word.ensures.normal (search rules);
      some = λ e. absurd (push_some l.words.items c.push.new.self.items c.in_ok-word.word
          (search rules) e);
    }

pub read_commands-loop-context-preserved : goal.read_commands-loop-context-preserved
read_commands-loop-context-preserved g t c =
    let l = c.loop-context in
    let start = c.skip_gap-start in
    let goes_on : ends_command (context_of c.args.context) start.result.now ≡ false =
    command_goes_on (context_of c.args.context) start.result.now (start.ensures.begins
    ∙ sym c.if-ends_script.ensures) in
    record {
      tree = after_command (context_of c.args.context) c.args.depth c.args.text.now l.bytes.now
          c.skip_gap-start.result.now c.in-Ok.rest.now (length c.skip_gap-start.result.now)
          c.in-Ok.words l.commands.items c.push.new.self.items
          l.invariant.tree c.skip_gap-start.ensures.rest (sym c.if-ends_script.ensures)
          c.in-Ok.ensures.tree (search rules);
      shorter = omega (
        arith,
        c.in-Ok.ensures.shorter,
        l.invariant.shorter,
        c.skip_gap-start.ensures.shorter,
      );
      normal = all_push is_normal_command l.commands.items c.push.new.self.items
          (roll-Command _ (record { from_end = length start.result.now; words = c.in-Ok.words }))
          l.invariant.normal
          (normal_command (length start.result.now) c.in-Ok.words
          ∙ c.in-Ok.ensures.command goes_on) (search rules);
    }

pub read_commands-returns-in-Err-Fault-clause-tree :
    goal.read_commands-returns-in-Err-Fault-clause-tree
read_commands-returns-in-Err-Fault-clause-tree g t c =
    let l = c.loop-context in
    let kept = c.in_ok-commands-in-Err-Fault in
    rw (c.in-Err-Fault.field-0-is, kept.ensures)
    (command_fault (context_of c.args.context) c.args.depth c.args.text.now l.bytes.now
    c.skip_gap-start.result.now (fault_of c.in-Err-Fault.fault) l.commands.items
    l.invariant.tree c.skip_gap-start.ensures.rest (sym c.if-ends_script.ensures)
    (rw c.in-Err-Fault.field-0-is at c.in-Err-Fault.ensures.tree))

pub read_parts-returns-in-End-clause-normal : goal.read_parts-returns-in-End-clause-normal
read_parts-returns-in-End-clause-normal g t c =
    rw c.in_ok-parts-in-End.ensures (open_end c.loop-alloc.parts.items _
    c.loop-alloc.invariant.normal c.in_ok-end_literal-in-End.ensures.forms)
