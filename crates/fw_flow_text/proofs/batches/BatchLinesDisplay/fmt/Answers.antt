use Rattle.std.proofs.Common.{ap, map, rules}
use Rattle.std.proofs.Output.{has_written_of_eq, has_written_append}
use Rattle.std.proofs.lemmas.List.{take_all}
use Rattle.std.specs.Fmt.{HasWritten}
use Rattle.fw_bag.specs.Bag.{BagState}
use Rattle.fw_flow_text.specs.BatchesText.{lines_of_batches}
use Rattle.fw_flow_text.proofs.BatchesTextLaws.{batches_more}
use Rattle.fw_flow_text.proofs.batches.BatchLinesDisplay.fmt.Goals as goal

pub loop-batch-preserved : goal.loop-batch-preserved
loop-batch-preserved g c = λ p.
    let lines = c.args.self.now in
    has_written_of_eq _ _ _ _ _ (batches_more lines.name.now lines.batches.now c.loop-batch.batch-index c.batch-item.result c.loop-batch-test.true c.batch-item.is)
    (has_written_append _ _ _ _ _ _ (c.loop-batch.invariant p) (search rules))

pub returns-clause-writes : goal.returns-clause-writes
returns-clause-writes g c = λ p q.
    let lines = c.args.self.now in
    has_written_of_eq _ _ _ _ _ (ap (λ bs. lines_of_batches lines.name.now (map (λ (b : BagState). b.recs) bs)) (take_all c.loop-batch.batch-index lines.batches.now c.loop-batch-test.false))
    (c.loop-batch.invariant p)
