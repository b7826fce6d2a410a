use Rattle.std.proofs.Common.{◌∙◌, ◌+◌, ap, arith}
use Rattle.std.proofs.lemmas.List.{take_rest}
use Rattle.matchbuf.specs.Held.{Held}
use Rattle.choices.proofs.Nulls.{piece_further, last_piece, no_longer}
use Rattle.choices.proofs.entry.arrive_without_nulls.Goals as goal

pub overflow_add-rest : goal.overflow_add-rest
overflow_add-rest g c = omega (arith, c.in-Some.ensures.0.high, c.loop-null.invariant.short)

pub loop-null-preserved : goal.loop-null-preserved
loop-null-preserved g c = record {
  max = ap (λ (h : Held). h.max) c.arrive.ensures.value ∙ c.loop-null.invariant.max;
  bytes = piece_further c.args.buffer.now.max c.loop-null.buffer.max _ c.loop-null.buffer.bytes
      c.arrive.new.self.bytes c.loop-null.rest.now _ c.in-Some.null c.loop-null.invariant.max
      (ap (λ (h : Held). h.bytes) c.arrive.ensures.value)
      (take_rest c.loop-null.rest.now (c.in-Some.null + 1)) c.in-Some.ensures.0.high
      (λ i below. c.in-Some.ensures.0.before i (omega arith) below) c.in-Some.ensures.1
      c.loop-null.invariant.bytes;
  short = no_longer c.loop-null.rest.now _ (c.in-Some.null + 1) _
      (take_rest c.loop-null.rest.now (c.in-Some.null + 1)) c.loop-null.invariant.short;
}

pub returns : goal.returns
returns g c = last_piece c.args.buffer.now.max c.loop-null.buffer.max _ c.loop-null.buffer.bytes
    c.loop-null.rest.now c.arrive-2.new.self c.loop-null.invariant.max c.arrive-2.ensures.value
    (λ i below. c.in_default.ensures i (omega arith) below) c.loop-null.invariant.bytes
