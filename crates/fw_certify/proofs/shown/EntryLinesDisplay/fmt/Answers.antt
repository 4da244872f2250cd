use Rattle.std.proofs.Common.{ap, rules}
use Rattle.std.proofs.Output.{has_written_of_eq, has_written_append}
use Rattle.std.proofs.lemmas.List.{take_all}
use Rattle.fw_certify.specs.CertificateText.{down_lines}
use Rattle.fw_certify.proofs.ShownLaws.{down_lines-more}
use Rattle.fw_certify.proofs.shown.EntryLinesDisplay.fmt.Goals as goal

pub loop-lowering-preserved : goal.loop-lowering-preserved
loop-lowering-preserved g c = λ p.
    let lines = c.args.self.now in
    has_written_of_eq _ _ _ _ _
    (down_lines-more lines.flow.now lines.entries.now c.loop-lowering.lowering-index c.lowering-item.result c.lowering-item.result c.loop-lowering-test.true c.lowering-item.is)
    (has_written_append _ _ _ _ _ _ (c.loop-lowering.invariant p) (search rules))

pub returns-clause-writes : goal.returns-clause-writes
returns-clause-writes g c = λ p q.
    let lines = c.args.self.now in
    has_written_of_eq _ _ _ _ _ (ap (down_lines lines.flow.now) (take_all c.loop-lowering.lowering-index lines.entries.now c.loop-lowering-test.false))
    (c.loop-lowering.invariant p)
