use Rattle.fw_telling.specs.Handed.{HasTaken}
use Rattle.fw_telling.proofs.telling_sink.write_parts.Given as goal

abbrev pub invariant-loop : goal.invariant-loop
invariant-loop g l = HasTaken (g.W.Write.contents l.initial.stream) (g.W.Write.contents l.stream) l.piece l.left
