use Rattle.std.proofs.Common.{[], ◌∷◌, get_or, length}
use Rattle.std.proofs.lemmas.Bool.{ltb-true}
use Rattle.tclparse.proofs.Braced.{behind, after_piece, over, pushed_twice, byte_step, last_step, pair_step, line_step}
use Rattle.tclparse.proofs.braces.fold_lines.Goals as goal
use Rattle.tclparse.proofs.braces.fold_lines.Goals.{in_default-rest-via-then-rest-lt1, in_default-rest-via-in-len1-up-rest+else-c-eq92}

pub loop-bytes-preserved-in_ok-push-in-len1-up-rest :
    goal.loop-bytes-preserved-in_ok-push-in-len1-up-rest
loop-bytes-preserved-in_ok-push-in-len1-up-rest g c =
    let l = c.loop-bytes in
    after_piece l.value.items l.bytes.now c.args.text.now (32 ∷ []) c.skip_blanks-bytes.result.now
    c.push.new.self.items l.invariant c.in_ok-push-in-len1-up-rest.ensures.items
    (λ v i. line_step l.bytes.now c.skip_blanks-bytes.result.now v c.in-len1-up.len_at_least
    c.in-len1-up-rest.len_at_least c.if-c-eq92.true c.if-d-eq10.true
    c.skip_blanks-bytes.ensures.rest i)

pub loop-bytes-preserved-in_ok-push-in-len1-up-rest-3 :
    goal.loop-bytes-preserved-in_ok-push-in-len1-up-rest-3
loop-bytes-preserved-in_ok-push-in-len1-up-rest-3 g c =
    let l = c.loop-bytes in
    let first = get_or l.bytes.now 0 0 in
    let second = get_or (behind l.bytes.now) 0 0 in
    after_piece l.value.items l.bytes.now c.args.text.now (first ∷ second ∷ [])
    (behind (behind l.bytes.now)) c.push-else-d-eq10-2.new.self.items l.invariant
    (pushed_twice l.value.items c.push-else-d-eq10.new.self.items
    c.push-else-d-eq10-2.new.self.items first second
    c.in_ok-push-in-len1-up-rest-2.ensures.items c.in_ok-push-in-len1-up-rest-3.ensures.items)
    (λ v i. pair_step l.bytes.now v c.in-len1-up.len_at_least c.in-len1-up-rest.len_at_least
    c.if-c-eq92.true c.if-d-eq10.false i)

pub loop-bytes-preserved : goal.loop-bytes-preserved
loop-bytes-preserved g c =
    let l = c.loop-bytes in
    after_piece l.value.items l.bytes.now c.args.text.now (get_or l.bytes.now 0 0 ∷ [])
    (behind l.bytes.now) c.push-in_default-rest.new.self.items l.invariant
    c.in_ok-push-in_default-rest.ensures.items
    (λ v i. elim c.in_default-rest.branch [
      | in_default-rest-via-then-rest-lt1 w ↦ last_step l.bytes.now v c.in-len1-up.len_at_least
          (ltb-true (length (behind l.bytes.now)) 1 w.if-rest-lt1-1.true) i
      | in_default-rest-via-in-len1-up-rest+else-c-eq92 w ↦ byte_step l.bytes.now v
          c.in-len1-up.len_at_least w.if-c-eq92.false i
    ])

pub returns : goal.returns
returns g c = over c.loop-bytes.value.items c.loop-bytes.bytes.now c.args.text.now
    c.in_default.len_below c.loop-bytes.invariant
