use Rattle.std.proofs.Common.{ap, rules}
use Rattle.std.proofs.Output.{has_written_of_eq, has_written_append}
use Rattle.std.proofs.lemmas.List.{take_all}
use Rattle.fw_schedule.specs.ItemText.{item_line, schedule_text}
use Rattle.fw_schedule.proofs.ShownLaws.{text_with_one}
use Rattle.fw_schedule.proofs.shown.ItemLinesDisplay.fmt.Goals as goal

pub loop-item-preserved : goal.loop-item-preserved
loop-item-preserved g c = λ p.
    let shown = c.args.self.now in
    has_written_of_eq _ _ _ _ _ (text_with_one (item_line shown.flow.now) shown.items.now c.loop-item.item-index c.item-item.result c.item-item.result c.loop-item-test.true c.item-item.is)
    (has_written_append _ _ _ _ _ _ (c.loop-item.invariant p) (search rules))

pub returns-clause-writes : goal.returns-clause-writes
returns-clause-writes g c = λ p q.
    let shown = c.args.self.now in
    has_written_of_eq _ _ _ _ _ (ap (schedule_text shown.flow.now) (take_all c.loop-item.item-index shown.items.now c.loop-item-test.false)) (c.loop-item.invariant p)
