use Rattle.std.proofs.Common.{map, take}
use Rattle.std.specs.Fmt.{HasWritten, IsPlainFormatter}
use Rattle.fw_bag.specs.Bag.{BagState}
use Rattle.fw_flow_text.specs.BatchesText.{lines_of_batches}
use Rattle.fw_flow_text.proofs.batches.BatchLinesDisplay.fmt.Given as goal

abbrev pub invariant-loop-batch : goal.invariant-loop-batch
invariant-loop-batch g l =
    IsPlainFormatter l.initial.f → HasWritten g.W.Write.write_str_gives l.initial.f
    (lines_of_batches l.self.name.now (map (λ (b : BagState). b.recs) (take l.batch-index l.self.batches.now))) l.f
