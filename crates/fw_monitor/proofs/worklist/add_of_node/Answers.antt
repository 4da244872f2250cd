use Rattle.std.proofs.Common.{[], ◌∷◌, ◌++◌, map, ap, ◌∙◌}
use Rattle.std.proofs.lemmas.List.{append_assoc}
use Rattle.std.proofs.lemmas.Result.{IfOk-weaker}
use Rattle.fw_flow.specs.Dataflow.{in_edges, out_edges}
use Rattle.fw_flow.specs.declared.side.Side.TheVariants.{Notified}
use Rattle.fw_flow.specs.declared.side.Limit.TheVariants.{Own}
use Rattle.fw_flow.specs.declared.side.Inclusion.TheVariants.{OfCut, OfNote}
use Rattle.fw_monitor.specs.declared.worklist.OnEdge.TheVariants as edge
use Rattle.fw_monitor.specs.Worklist.{inclusion_on_edge}
use Rattle.fw_monitor.proofs.WorklistLaws.{longer, longer_on}
use Rattle.fw_monitor.proofs.worklist.add_of_node.Goals as goal

pub returns : goal.returns
returns c =
    let z = c.args.all.now.items in
    let p = c.args.node in
    let ins = in_edges c.args.flow.now p in
    let outs = out_edges c.args.flow.now p in
    let a = map (inclusion_on_edge edge.Delivered) ins in
    let b = a ++ map (inclusion_on_edge edge.Discarded) outs in
    let n = OfCut (Notified p) ∷ [] in
    let o = OfNote (Own p) ∷ [] in
    let notes = map (inclusion_on_edge edge.Note) ins in
    let first = c.in_ok-add_on_edges.ensures ∙ ap (λ xs. z ++ map (inclusion_on_edge edge.Delivered) xs) c.in_edges.ensures in
    let second = longer_on edge.Discarded z a _ _ _ outs c.out_edges.ensures first c.in_ok-add_on_edges-2.ensures in
    let third = longer z b n _ _ second c.in_ok-push.ensures.items in
    let fourth = longer z (b ++ n) o _ _ third c.in_ok-push-2.ensures.items in
    IfOk-weaker c.add_on_edges-3.result _ _
    (λ u last. longer_on edge.Note z (b ++ n ++ o) _ _ _ ins c.in_edges-2.ensures fourth last
    ∙ ap (λ xs. z ++ xs) (append_assoc (b ++ n) o notes ∙ append_assoc b n (o ++ notes)))
    c.add_on_edges-3.ensures
