use Rattle.std.proofs.Common.{◌≡◌, false, Bool, [], ap, subst, ◌∙◌}
use Rattle.std.specs.Prelude.{◌↔◌, IsTrue}
use Rattle.fw_running.specs.Kept.{is_down, queue_at}
use Rattle.fw_events.proofs.AskedLaws.{delivers-where}
use Rattle.fw_events.proofs.delivery.can_deliver.Goals as goal

pub returns-then-not-nothing_pending : goal.returns-then-not-nothing_pending
returns-then-not-nothing_pending c =
    let running = c.args.running.now in
    let some = subst (λ (b : Bool). IsTrue b ↔ (queue_at running c.args.edge ≡ [])) c.if-not-nothing_pending.true c.nothing_pending.ensures in
    delivers-where running c.args.edge c.requires.one_each.parts.queues false c.is_failed.result some (c.is_failed.ensures ∙ ap (is_down running) c.dst.ensures)
