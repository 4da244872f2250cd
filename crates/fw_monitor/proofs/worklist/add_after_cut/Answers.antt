use Rattle.std.proofs.Common.{[], ◌∷◌, ◌++◌, map, ap, ◌∙◌}
use Rattle.std.proofs.lemmas.List.{append_assoc}
use Rattle.fw_flow.specs.Dataflow.{in_edges, out_edges}
use Rattle.fw_flow.specs.declared.side.Side.TheVariants.{Notified}
use Rattle.fw_flow.specs.declared.side.Limit.TheVariants.{Own}
use Rattle.fw_flow.specs.declared.side.Inclusion.TheVariants.{OfCut, OfNote}
use Rattle.fw_monitor.specs.declared.worklist.OnEdge.TheVariants as edge
use Rattle.fw_monitor.specs.Worklist.{inclusion_on_edge}
use Rattle.fw_monitor.proofs.WorklistLaws.{longer, longer_on}
use Rattle.fw_monitor.proofs.worklist.add_after_cut.Goals as goal

pub returns : goal.returns
returns c =
    let z = c.args.all.now.items in
    let p = c.args.node in
    let ins = in_edges c.args.flow.now p in
    let outs = out_edges c.args.flow.now p in
    let a = map (inclusion_on_edge edge.Delivered) ins in
    let b = a ++ map (inclusion_on_edge edge.Discarded) ins in
    let d = b ++ map (inclusion_on_edge edge.Delivered) outs in
    let e = d ++ map (inclusion_on_edge edge.Discarded) outs in
    let first = c.in_ok-add_on_edges.ensures ∙ ap (λ xs. z ++ map (inclusion_on_edge edge.Delivered) xs) c.in_edges.ensures in
    let second = longer_on edge.Discarded z a _ _ _ ins c.in_edges-2.ensures first c.in_ok-add_on_edges-2.ensures in
    let third = longer_on edge.Delivered z b _ _ _ outs c.out_edges.ensures second c.in_ok-add_on_edges-3.ensures in
    let fourth = longer_on edge.Discarded z d _ _ _ outs c.out_edges-2.ensures third c.in_ok-add_on_edges-4.ensures in
    let own = longer z e (OfCut (Notified p) ∷ []) _ _ fourth c.in_ok-push.ensures.items in
    longer z (e ++ OfCut (Notified p) ∷ []) (OfNote (Own p) ∷ []) _ _ own c.in_ok-push-2.ensures.items
    ∙ ap (λ xs. z ++ xs) (append_assoc e (OfCut (Notified p) ∷ []) (OfNote (Own p) ∷ []))
