use Rattle.std.proofs.Common.{[], ◌∷◌}
use Rattle.std.proofs.lemmas.Result.{IfOk-weaker}
use Rattle.fw_resume.proofs.RecallLaws.{sent-recalled, unsent-recalled}
use Rattle.fw_resume.proofs.traces.recall_on.Goals as goal

pub returns-then-not-carries_any-clause-recalled : goal.returns-then-not-carries_any-clause-recalled
returns-then-not-carries_any-clause-recalled c =
    unsent-recalled c.args.flow.now c.args.batch.now.recs (c.args.epoch ∷ []) c.args.edge c.args.traces.now c.carries_any.result c.carries_any.ensures c.if-not-carries_any.true

pub returns-clause-recalled : goal.returns-clause-recalled
returns-clause-recalled c =
    IfOk-weaker c.recall_sent.result _ _
    (λ u m. sent-recalled c.args.flow.now c.args.batch.now.recs (c.args.epoch ∷ []) c.args.edge c.args.traces.now c.recall_sent.new.self c.carries_any.result
    c.carries_any.ensures c.if-not-carries_any.false m)
    c.recall_sent.ensures.recalled
