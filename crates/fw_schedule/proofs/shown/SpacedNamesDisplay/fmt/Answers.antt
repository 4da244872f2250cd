use Rattle.std.proofs.Common.{ap, rules}
use Rattle.std.proofs.Output.{has_written_of_eq, has_written_append}
use Rattle.std.proofs.lemmas.List.{take_all}
use Rattle.fw_schedule.specs.ItemText.{spaced_name, names_text}
use Rattle.fw_schedule.proofs.ShownLaws.{text_with_one}
use Rattle.fw_schedule.proofs.shown.SpacedNamesDisplay.fmt.Goals as goal

pub loop-node-preserved : goal.loop-node-preserved
loop-node-preserved g c = λ p.
    let shown = c.args.self.now in
    has_written_of_eq _ _ _ _ _ (text_with_one (spaced_name shown.flow.now) shown.nodes.now c.loop-node.node-index c.node-item.result c.node-item.result c.loop-node-test.true c.node-item.is)
    (has_written_append _ _ _ _ _ _ (c.loop-node.invariant p) (search rules))

pub returns-clause-writes : goal.returns-clause-writes
returns-clause-writes g c = λ p q.
    let shown = c.args.self.now in
    has_written_of_eq _ _ _ _ _ (ap (names_text shown.flow.now) (take_all c.loop-node.node-index shown.nodes.now c.loop-node-test.false)) (c.loop-node.invariant p)
