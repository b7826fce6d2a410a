use Rattle.std.proofs.Common.{◌≡◌, [], ◌++◌, take, drop, length, refl, ap, ◌∙◌, inr, arith}
use Rattle.std.proofs.lemmas.List.{length-append}
use Rattle.worlds.proofs.ReadChains.{Follows-append, GivesUp-after}
use Rattle.worlds.proofs.Consumed.{Consumes-end, Consumes-none, Consumes-then, filled}
use Rattle.worlds.proofs.input.read_all.Goals as goal

pub chunks-init : goal.chunks-init
chunks-init g c = (
  c.in_ok-chunk.ensures,
  rw c.new-text.ensures.items (Consumes-none (g.R.Reader.left c.args.reader.now)),
  ([], omega arith, refl),
)

pub returns-then-taken-eq0-clause-all : goal.returns-then-taken-eq0-clause-all
returns-then-taken-eq0-clause-all g c =
    let none = c.if-taken-eq0.true in
    let (long, before, (answers, count, chain)) = c.chunks.invariant in
    let now = g.R.Reader.left c.read_some.new.reader in
    let read = c.in_ok-taken.ensures.bytes in
    Consumes-end (g.R.Reader.left c.args.reader.now) (g.R.Reader.left c.chunks.reader) now
    c.chunks.text.items before
    (rw none at read) (c.in_ok-taken.ensures.end none)

pub chunks-preserved : goal.chunks-preserved
chunks-preserved g c =
    let (long, before, (answers, count, chain)) = c.chunks.invariant in
    let read = c.in_ok-taken.ensures.bytes in
    let (more_answers, some, others) = c.in_ok-taken.ensures.reads in
    let both = length-append answers more_answers in
    let filled_up : length c.read_some.new.chunk ≡ c.chunks.chunk.len = omega arith in
    let chunk : c.deref.result.now ≡ c.read_some.new.chunk =
    c.deref.ensures.value ∙ filled c.read_some.new.chunk
    (drop (length c.read_some.new.chunk) c.chunks.chunk.items) c.chunks.chunk.len filled_up in
    let more = c.in_ok-extend_from_slice.ensures.items
    ∙ ap (λ bytes. c.chunks.text.items ++ take c.in_ok-taken.taken bytes) chunk in (
      c.widen.ensures,
      rw more (Consumes-then (g.R.Reader.left c.args.reader.now)
          (g.R.Reader.left c.chunks.reader) (g.R.Reader.left c.read_some.new.reader)
          c.chunks.text.items (take c.in_ok-taken.taken c.read_some.new.chunk) before read),
      (
        answers ++ more_answers,
        omega (arith, both, some, count),
        Follows-append g.R.Reader.reads c.args.reader.now c.chunks.reader c.read_some.new.reader
            answers more_answers chain others,
      ),
    )

pub returns-in_err-taken-clause-refused : goal.returns-in_err-taken-clause-refused
returns-in_err-taken-clause-refused g c =
    let (long, before, (answers, count, chain)) = c.chunks.invariant in
    let (is, gives_up) = c.in_err-taken.ensures.refused in
    λ refused. GivesUp-after g.R.Reader.reads c.args.reader.now c.chunks.reader
    c.read_some.new.reader answers chain gives_up

pub returns-clause-refused : goal.returns-clause-refused
returns-clause-refused g c =
    let (long, before, (answers, count, chain)) = c.chunks.invariant in
    λ refused. (answers, chain, inr (omega (arith, count)))
