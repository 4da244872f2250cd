use Rattle.fw_telling.proofs.Parts.{taken_then}
use Rattle.fw_telling.proofs.telling_sink.write_parts.Goals as goal

pub loop-preserved : goal.loop-preserved
loop-preserved g c =
    taken_then (g.W.Write.contents c.args.stream.now) (g.W.Write.contents c.loop.stream) (g.W.Write.contents c.write_part.new.stream) c.args.piece.now c.loop.left.now
    c.in_ok-left.left.now c.loop.invariant c.in_ok-left.ensures.taken
