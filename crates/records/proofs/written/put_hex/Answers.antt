use Rattle.std.proofs.Common.{◌++◌, sym, subst, ◌∙◌}
use Rattle.hex.specs.Hex.{encode_lower}
use Rattle.records.specs.Sink.{Takes}
use Rattle.records.proofs.Sinks.{Takes-then}
use Rattle.records.proofs.Spelled.{all_spelled, piece_written}
use Rattle.records.proofs.written.put_hex.Goals as goal

pub loop-rest-preserved : goal.loop-rest-preserved
loop-rest-preserved g c =
    let (done, takes, so_far) = c.loop-rest.invariant in
    let piece = c.split_piece.result.0.now in
    let after = c.split_piece.result.1.now in (
      done ++ encode_lower piece,
      Takes-then g.S.Sink.adds g.S.Sink.has_failed c.args.sink.now c.loop-rest.sink
          c.put_piece.new.sink done (encode_lower piece) takes c.put_piece.ensures,
      piece_written c.args.bytes.now done c.loop-rest.rest.now piece after so_far
          c.split_piece.ensures.whole,
    )

pub returns : goal.returns
returns g c =
    let (done, takes, so_far) = c.loop-rest.invariant in
    subst (λ text. Takes g.S.Sink.adds g.S.Sink.has_failed c.args.sink.now text c.loop-rest.sink)
    (all_spelled c.args.bytes.now done c.loop-rest.rest.now so_far
    (sym c.is_empty.ensures ∙ c.loop-rest-test.false)) takes
