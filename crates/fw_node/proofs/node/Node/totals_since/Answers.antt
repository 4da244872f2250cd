use Rattle.std.proofs.Common.{◌≡◌, ◌&&◌, not, ℕ, Bool, List, sym, ap, ◌∙◌}
use Rattle.std.proofs.lemmas.Result.{IfOk-weaker}
use Rattle.fw_time.specs.Stamp.{Stamp as StampList, in_domain}
use Rattle.fw_bag.specs.Arrivals.{Arrival, recs_inside}
use Rattle.fw_frontier.specs.Front.{Front, inside}
use Rattle.fw_flow.specs.Kind.{Kind}
use Rattle.fw_flow.specs.Dataflow.{bounds_of, kind_of, in_edges, node_frontier}
use Rattle.fw_flow.specs.NodeFunction.{delivered_recs}
use Rattle.fw_node.specs.Arrived.{arrived}
use Rattle.fw_node.specs.NodeTable.{IsNodeTable}
use Rattle.fw_node.specs.Past.{past_of, totals_changed}
use Rattle.fw_node.proofs.ChangingLaws.{since_alike}
use Rattle.fw_node.proofs.EventLaws.{by_stamp}
use Rattle.fw_node.proofs.NodeLaws.{domain_alike, within_domain}
use Rattle.fw_node.proofs.SameTable.{recs_alike, same_table}
use Rattle.fw_node.proofs.node.Node.totals_since.Goals as goal

pub returns-clause-totals : goal.returns-clause-totals
returns-clause-totals c = λ flow p settled before sub node.
    let ins : List ℕ = in_edges flow p in
    let k : Kind = kind_of flow p in
    let f : Front = c.args.f.now in
    let came : List Arrival = arrived ins before in
    let d : StampList → Bool = λ s. in_domain (bounds_of flow p) s in
    let bounded : StampList → Bool = λ s. d s && settled s in
    let since : StampList → Bool = λ s. node_frontier flow p f s && not (settled s) in
    let first : IsNodeTable flow c.args.self.now.table k (past_of ins bounded before) =
    same_table flow (past_of ins settled before) bounded (domain_alike d settled ins before node.in_the_domain) c.args.self.now.table k node.table in
    let all : recs_inside (inside f) came ≡ delivered_recs (λ e s. node_frontier flow p f s) before =
    recs_alike (inside f) (node_frontier flow p f) came (domain_alike d (inside f) ins before node.in_the_domain) ∙ sym (by_stamp ins (node_frontier flow p f) before) in
    let changed : recs_inside (λ s. inside f s && not (bounded s)) came ≡ delivered_recs (λ e s. since s) before =
    recs_alike (λ s. inside f s && not (bounded s)) since came (since_alike d settled (inside f) ins before node.in_the_domain) ∙ sym (by_stamp ins since before) in
    IfOk-weaker c.totals_since.result _ _
    (λ totals e. e ∙ ap (λ rs. totals_changed k rs (recs_inside (inside f) came)) changed ∙ ap (totals_changed k (delivered_recs (λ e s. since s) before)) all)
    (c.totals_since.ensures flow k (past_of ins bounded before) first (within_domain d settled (inside f) sub))
