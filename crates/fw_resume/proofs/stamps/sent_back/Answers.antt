use Rattle.std.proofs.Common.{◌≡◌, ◌∙◌, ℕ, [], sym, subst}
use Rattle.std.specs.List.{AllByRecursion}
use Rattle.std.proofs.lemmas.List.{take_all}
use Rattle.fw_lemmas.proofs.Each.{each-at}
use Rattle.fw_flow.specs.Dataflow.{sender}
use Rattle.fw_flow.proofs.OutEdgeLaws.{out_edges-from}
use Rattle.fw_resume.specs.Stamps.{AreOnEdges, AreSentBack}
use Rattle.fw_resume.proofs.StampLaws.{on_edges-none, on_edges-more, out_edge-new}
use Rattle.fw_resume.proofs.stamps.sent_back.Goals as goal

pub loop-edge-init : goal.loop-edge-init
loop-edge-init c = subst (AreOnEdges (AreSentBack c.args.flow.now c.args.node c.args.recorded.now) []) (sym c.new-messages.ensures.items) (on_edges-none (AreSentBack c.args.flow.now c.args.node c.args.recorded.now))

pub add_sent-requires : goal.add_sent-requires
add_sent-requires c =
    let P : ℕ → Type 0 = λ d. sender c.args.flow.now d ≡ c.args.node in
    subst P (sym c.edge-item.is)
    (each-at P c.out_edges-edge-items.result.now c.loop-edge.edge-index c.edge-item.result c.loop-edge-test.true
    (subst (AllByRecursion P) (sym c.out_edges-edge-items.ensures) (out_edges-from P c.args.flow.now c.args.node (λ d l s. s))))

pub loop-edge-preserved : goal.loop-edge-preserved
loop-edge-preserved c =
    let flow = c.args.flow.now in
    let e = c.edge-item.result in
    on_edges-more (AreSentBack flow c.args.node c.args.recorded.now) c.out_edges-edge-items.result.now c.loop-edge.edge-index e c.loop-edge.messages.items
    c.add_sent.new.messages.items c.loop-edge-test.true c.edge-item.is
    (out_edge-new flow c.args.node c.out_edges-edge-items.result.now c.loop-edge.edge-index e c.out_edges-edge-items.ensures c.loop-edge-test.true c.edge-item.is)
    c.loop-edge.invariant c.in_ok-add_sent.ensures

pub returns : goal.returns
returns c =
    subst (λ es. AreOnEdges (AreSentBack c.args.flow.now c.args.node c.args.recorded.now) es c.loop-edge.messages.items)
    (take_all c.loop-edge.edge-index c.out_edges-edge-items.result.now c.loop-edge-test.false ∙ c.out_edges-edge-items.ensures) c.loop-edge.invariant
