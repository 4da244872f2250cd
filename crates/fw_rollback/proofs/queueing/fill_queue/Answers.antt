use Rattle.std.proofs.Common.{ap, ◌∙◌}
use Rattle.fw_rollback.specs.Asked.{front_at}
use Rattle.fw_model.specs.Choice.{cut_of}
use Rattle.fw_rollback.proofs.BuildLaws.{queue-filled}
use Rattle.fw_rollback.proofs.queueing.fill_queue.Goals as goal

pub returns-in-Some-log_of-clause-filled : goal.returns-in-Some-log_of-clause-filled
returns-in-Some-log_of-clause-filled c = λ g cut.
    queue-filled c.args.flow.now c.args.choice.now c.args.kept.now c.args.built.now c.args.edge c.in-Some.front.now g c.in-Some-log_of.log.now c.put_outside.result _
    (c.in-Some.ensures ∙ ap (λ p. front_at (cut_of c.args.choice.now p)) c.dst.ensures) cut c.in-Some-log_of.ensures c.put_outside.ensures.filled
