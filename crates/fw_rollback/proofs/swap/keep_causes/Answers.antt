use Rattle.std.proofs.Common.{◌∙◌, ap}
use Rattle.fw_model.specs.Choice.{cut_of}
use Rattle.fw_rollback.specs.Asked.{front_at}
use Rattle.fw_rollback.specs.Edges.{on_edge}
use Rattle.fw_rollback.proofs.SwapLaws.{kept-all, kept-from}
use Rattle.fw_rollback.proofs.swap.keep_causes.Goals as goal

pub returns-in-Some-clause-kept : goal.returns-in-Some-clause-kept
returns-in-Some-clause-kept c =
    c.keep_from.ensures.kept
    ∙ kept-from c.args.flow.now c.args.choice.now c.args.edge c.in-Some.front.now (on_edge c.args.queues.now c.args.edge)
    (c.in-Some.ensures ∙ ap (λ p. front_at (cut_of c.args.choice.now p)) c.src.ensures)

pub returns-in-None-clause-kept : goal.returns-in-None-clause-kept
returns-in-None-clause-kept c =
    kept-all c.args.flow.now c.args.choice.now c.args.edge (on_edge c.args.queues.now c.args.edge) (c.in-None.ensures ∙ ap (λ p. front_at (cut_of c.args.choice.now p)) c.src.ensures)
