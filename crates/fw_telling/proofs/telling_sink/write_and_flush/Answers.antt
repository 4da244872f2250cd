use Rattle.fw_telling.proofs.Parts.{flushed}
use Rattle.fw_telling.proofs.telling_sink.write_and_flush.Goals as goal

pub returns-clause-part : goal.returns-clause-part
returns-clause-part g c =
    flushed c.flush.result (g.W.Write.contents c.args.stream.now) (g.W.Write.contents c.write_parts.new.stream) (g.W.Write.contents c.flush.new.self) c.args.piece.now
    c.in_ok-write_parts.ensures.whole c.flush.ensures.bytes
