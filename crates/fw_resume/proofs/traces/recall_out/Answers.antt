use Rattle.std.proofs.Common.{[], ◌∷◌, subst, arith}
use Rattle.std.specs.List.{flat_map}
use Rattle.fw_progress.proofs.EventLaws.{out_edge}
use Rattle.fw_resume.specs.Recalled.{HaveRecalled, sending_on}
use Rattle.fw_resume.proofs.RecallLaws.{recalled-all, recalled-next}
use Rattle.fw_resume.proofs.traces.recall_out.Goals as goal

pub recall_on-requires-clause-there : goal.recall_on-requires-clause-there
recall_on-requires-clause-there c =
    out_edge c.args.flow.now c.args.node c.out_edges-edges.result.now c.loop-edge.edge-index c.edge-item.result c.out_edges-edges.ensures c.loop-edge-test.true c.edge-item.is

pub loop-edge-preserved : goal.loop-edge-preserved
loop-edge-preserved c =
    let o = c.in_ok-recall_on.ensures in (
      o.ready,
      recalled-next (sending_on c.args.flow.now c.args.batch.now.recs (c.args.epoch ∷ [])) c.out_edges-edges.result.now c.loop-edge.edge-index c.edge-item.result c.args.traces.now
          c.loop-edge.traces c.recall_on.new.traces c.loop-edge-test.true c.edge-item.is c.loop-edge.invariant.1 o.recalled,
    )

pub returns-clause-recalled : goal.returns-clause-recalled
returns-clause-recalled c =
    subst (λ es. HaveRecalled (flat_map (sending_on c.args.flow.now c.args.batch.now.recs (c.args.epoch ∷ [])) es) c.args.traces.now c.loop-edge.traces) c.out_edges-edges.ensures
    (recalled-all (sending_on c.args.flow.now c.args.batch.now.recs (c.args.epoch ∷ [])) c.out_edges-edges.result.now c.loop-edge.edge-index c.args.traces.now c.loop-edge.traces
    (grind arith) c.loop-edge.invariant.1)
