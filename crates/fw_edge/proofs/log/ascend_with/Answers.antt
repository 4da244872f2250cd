use Rattle.std.proofs.Common.{sym, ap, ◌∙◌}
use Rattle.std.specs.Ordering.{is_le}
use Rattle.fw_lemmas.proofs.Orderings.{le_not_gt, not_gt_le}
use Rattle.fw_flow.specs.Message.{message_cmp}
use Rattle.fw_edge.proofs.LogLaws.{in_order-appended, appended-in_order}
use Rattle.fw_edge.proofs.log.ascend_with.Goals as goal

pub returns-then-ascend-clause-in_order : goal.returns-then-ascend-clause-in_order
returns-then-ascend-clause-in_order c = λ t.
    let last = c.in-Some.last.now in
    let message = c.args.message.now in
    in_order-appended last message c.args.messages.now (c.requires c.if-ascend.true) (sym c.in-Some.ensures.value)
    (le_not_gt (message_cmp last message) (sym (c.is_le.ensures ∙ ap is_le c.cmp.ensures) ∙ t))

pub returns-then-ascend-clause-known : goal.returns-then-ascend-clause-known
returns-then-ascend-clause-known c = λ known s.
    let last = c.in-Some.last.now in
    let message = c.args.message.now in
    c.is_le.ensures ∙ ap is_le c.cmp.ensures
    ∙ not_gt_le (message_cmp last message) (appended-in_order last message c.args.messages.now s (sym c.in-Some.ensures.value))
