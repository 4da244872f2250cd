use Rattle.std.proofs.Common.{◌≡◌, IfOk, sym, subst, arith}
use Rattle.std.proofs.lemmas.Result.{IfOk-weaker}
use Rattle.fw_flow.specs.Dataflow.{receiver}
use Rattle.fw_resume.specs.Recalled.{HaveRecalled, recalls_of_event}
use Rattle.fw_model.proofs.RecoveryLaws.{edge-there}
use Rattle.fw_resume.proofs.RecallLaws.{event-recalled, notified-recalled}
use Rattle.fw_resume.proofs.traces.recall_event.Goals as goal

pub recall_delivered-requires-clause-there : goal.recall_delivered-requires-clause-there
recall_delivered-requires-clause-there c =
    let into : receiver c.args.flow.now c.in-Deliver.edge ≡ c.args.node = grind arith in
    edge-there c.args.flow.now c.in-Deliver.edge c.args.node into c.requires.there

pub returns-else-ne-clause-recalled : goal.returns-else-ne-clause-recalled
returns-else-ne-clause-recalled c =
    let into : receiver c.args.flow.now c.in-Deliver.edge ≡ c.args.node = grind arith in
    subst (λ event. IfOk c.recall_delivered.result (λ u. HaveRecalled (recalls_of_event c.args.flow.now c.args.node event) c.args.traces.now c.recall_delivered.new.self))
    (sym c.in-Deliver.is)
    (IfOk-weaker c.recall_delivered.result _ _
    (λ u m. event-recalled c.args.flow.now c.args.node c.in-Deliver.edge c.in-Deliver.at c.args.traces.now c.recall_delivered.new.self into m) c.recall_delivered.ensures.recalled)

pub returns-in-Notify-clause-recalled : goal.returns-in-Notify-clause-recalled
returns-in-Notify-clause-recalled c =
    subst (λ event. IfOk c.recall_notified.result (λ u. HaveRecalled (recalls_of_event c.args.flow.now c.args.node event) c.args.traces.now c.recall_notified.new.self))
    (sym c.in-Notify.is)
    (IfOk-weaker c.recall_notified.result _ _
    (λ u m. notified-recalled c.args.node c.in-Notify.at c.args.traces.now c.recall_notified.new.self m) c.recall_notified.ensures.recalled)
