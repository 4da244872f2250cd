use Rattle.std.proofs.Common.{ℕ, Bool, sym, ap, ◌∙◌}
use Rattle.std.specs.List.{list_all}
use Rattle.fw_flow.specs.Dataflow.{sender}
use Rattle.fw_model.specs.Machine.{family_of}
use Rattle.fw_progress.specs.Counts.{come_by}
use Rattle.fw_progress.proofs.NoticeLaws.{come-more, come-not, come-read}
use Rattle.fw_progress.proofs.TargetLaws.{in_edge}
use Rattle.fw_progress.proofs.notices.has_come.Goals as goal

pub come-requires-clause-there : goal.come-requires-clause-there
come-requires-clause-there c = (in_edge c.args.flow.now c.args.node c.in_edges-edges.result.now c.loop-edge.edge-index c.edge-item.result c.in_edges-edges.ensures c.loop-edge-test.true c.edge-item.is).0

pub come-requires-clause-sender : goal.come-requires-clause-sender
come-requires-clause-sender c =
    c.flow_is_well_formed.ensures.senders_declared c.edge-item.result
    (in_edge c.args.flow.now c.args.node c.in_edges-edges.result.now c.loop-edge.edge-index c.edge-item.result c.in_edges-edges.ensures c.loop-edge-test.true c.edge-item.is).0

pub loop-edge-preserved : goal.loop-edge-preserved
loop-edge-preserved c =
    let flow = c.args.flow.now in
    let edges = c.in_edges-edges.result.now in
    let test : ℕ → Bool = λ d. come_by flow c.args.counts.now d (family_of flow c.args.fronts.now (sender flow d)) c.args.at.now in
    let read = come-read flow c.args.counts.now c.args.fronts.now c.args.node edges c.loop-edge.edge-index c.edge-item.result c.in_edges-edges.ensures c.loop-edge-test.true c.edge-item.is
    c.in_ok-come.come c.args.at.now c.requires.at c.in_ok-come.ensures in
    come-more test edges c.loop-edge.edge-index c.edge-item.result c.loop-edge-test.true c.edge-item.is c.loop-edge.invariant (read ∙ sym c.contains.ensures ∙ c.if-not-contains.false)

pub returns-then-not-contains : goal.returns-then-not-contains
returns-then-not-contains c =
    let flow = c.args.flow.now in
    let edges = c.in_edges-edges.result.now in
    let test : ℕ → Bool = λ d. come_by flow c.args.counts.now d (family_of flow c.args.fronts.now (sender flow d)) c.args.at.now in
    let read = come-read flow c.args.counts.now c.args.fronts.now c.args.node edges c.loop-edge.edge-index c.edge-item.result c.in_edges-edges.ensures c.loop-edge-test.true c.edge-item.is
    c.in_ok-come.come c.args.at.now c.requires.at c.in_ok-come.ensures in
    sym (sym (ap (list_all test) c.in_edges-edges.ensures) ∙ come-not test edges c.loop-edge.edge-index c.edge-item.result c.loop-edge-test.true c.edge-item.is (read ∙ sym c.contains.ensures ∙ c.if-not-contains.true))
