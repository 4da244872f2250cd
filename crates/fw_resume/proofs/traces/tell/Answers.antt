use Rattle.std.proofs.lemmas.Result.{IfOk-weaker}
use Rattle.fw_resume.proofs.HeldTraceLaws.{batches-few, recalls-held}
use Rattle.fw_resume.proofs.traces.tell.Goals as goal

pub returns-clause-held : goal.returns-clause-held
returns-clause-held c = λ state a.
    IfOk-weaker c.recall_entries.result _ _
    (λ u m. recalls-held c.args.flow.now c.args.batches.now c.args.injected.now c.args.low.now c.args.entries.now c.args.traces.now c.recall_inputs.new.traces
    c.recall_entries.new.traces state a c.in_ok-recall_inputs.ensures.recalled m)
    c.recall_entries.ensures.recalled

pub recall_inputs-requires-clause-few : goal.recall_inputs-requires-clause-few
recall_inputs-requires-clause-few c = batches-few c.args.flow.now c.args.batches.now c.requires.epochs
