use Rattle.std.proofs.Common.{◌∙◌, List, sym, subst}
use Rattle.fw_time.specs.Stamp.{Stamp}
use Rattle.fw_time.specs.declared.stamp.Bounds.{Bounds}
use Rattle.fw_frontier.specs.Front.{frontier_of}
use Rattle.fw_flow.specs.declared.choice.Counted.{Counted}
use Rattle.fw_flow.specs.Dataflow.{in_edges, out_edges}
use Rattle.fw_regain.specs.Greatest.{AreGreatestIn}
use Rattle.fw_resume.specs.Stamps.{AreDeliveredBack, AreOnEdges, AreSentBack}
use Rattle.fw_resume.proofs.StampLaws.{got_back}
use Rattle.fw_resume.proofs.stamps.stamps_of.Goals as goal

pub returns : goal.returns
returns c =
    let flow = c.args.flow.now in
    let p = c.args.node in
    let r = c.args.recorded.now in
    let d : Bounds = c.domain.result in
    got_back flow p r (record { delivered = c.of.result; notified = c.of-2.result; sent = c.of-3.result }) c.flow_is_well_formed.ensures c.requires
    (subst (λ (ms : List Counted). AreOnEdges (AreDeliveredBack flow r) (in_edges flow p) ms) (sym c.of.ensures) c.in_ok-delivered.ensures)
    (subst (λ (b : Bounds). AreGreatestIn b (frontier_of b r.notified) c.of-2.result) c.domain.ensures
    (subst (λ (ts : List Stamp). AreGreatestIn d (frontier_of d r.notified) ts) (sym c.of-2.ensures)
    (record { covering = c.in_ok-notified.ensures.cover; of_domain = c.in_ok-notified.ensures.domain; greatest = c.in_ok-notified.ensures.greatest })))
    (λ k. subst (λ (ms : List Counted). AreOnEdges (AreSentBack flow p r) (out_edges flow p) ms) (sym c.of-3.ensures) (c.in_ok-sent.ensures.told k))
    (λ k. c.of-3.ensures ∙ c.in_ok-sent.ensures.none k)
