use Rattle.std.proofs.Common.{sym, ap, subst, ◌∙◌, rules}
use Rattle.fw_flow.specs.Dataflow.{receiver}
use Rattle.fw_progress.specs.Progress.{CanSend, stamps_of_recs}
use Rattle.part_rows.proofs.progress.delivered.Goals as goal

pub delivered-requires-clause-sent : goal.delivered-requires-clause-sent
delivered-requires-clause-sent c =
    let can : CanSend c.args.flow.now (receiver c.args.flow.now c.args.edge) c.args.sent.now = search rules in
    subst (CanSend c.args.flow.now (receiver c.args.flow.now c.args.edge)) (sym (ap stamps_of_recs c.deref.ensures.value ∙ c.in_ok-recs.ensures)) can
