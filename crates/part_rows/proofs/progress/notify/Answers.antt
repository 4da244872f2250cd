use Rattle.std.proofs.Common.{sym, ap, subst, ◌∙◌, rules}
use Rattle.fw_progress.specs.Progress.{CanSend, stamps_of_recs}
use Rattle.part_rows.proofs.progress.notify.Goals as goal

pub notified-requires-clause-sent : goal.notified-requires-clause-sent
notified-requires-clause-sent c =
    let can : CanSend c.args.flow.now c.in_ok-node.node c.args.sent.now = search rules in
    subst (CanSend c.args.flow.now c.in_ok-node.node) (sym (ap stamps_of_recs c.deref.ensures.value ∙ c.in_ok-recs.ensures)) can
