use Rattle.std.proofs.Common.{◌&&◌, ℕ, Bool, List, sym, ap, ◌∙◌}
use Rattle.std.proofs.lemmas.Result.{IfOk-weaker}
use Rattle.fw_time.specs.Stamp.{Stamp as StampList, in_domain}
use Rattle.fw_frontier.specs.Front.{Front, inside}
use Rattle.fw_flow.specs.Kind.{Kind}
use Rattle.fw_flow.specs.Dataflow.{bounds_of, kind_of, in_edges, node_frontier}
use Rattle.fw_node.specs.Arrived.{arrived}
use Rattle.fw_node.specs.NodeTable.{IsNodeTable}
use Rattle.fw_node.specs.Past.{past_of, totals_kept}
use Rattle.fw_node.proofs.EventLaws.{by_stamp}
use Rattle.fw_node.proofs.NodeLaws.{domain_alike, within_domain}
use Rattle.fw_node.proofs.SameTable.{recs_alike, same_table}
use Rattle.fw_node.proofs.node.Node.totals_at.Goals as goal

pub returns-clause-totals : goal.returns-clause-totals
returns-clause-totals c = λ flow p settled before sub node.
    let ins : List ℕ = in_edges flow p in
    let k : Kind = kind_of flow p in
    let f : Front = c.args.f.now in
    let d : StampList → Bool = λ s. in_domain (bounds_of flow p) s in
    let bounded : StampList → Bool = λ s. d s && settled s in
    let first : IsNodeTable flow c.args.self.now.table k (past_of ins bounded before) =
    same_table flow (past_of ins settled before) bounded (domain_alike d settled ins before node.in_the_domain) c.args.self.now.table k node.table in
    IfOk-weaker c.totals_at.result _ _
    (λ totals e. e ∙ ap (totals_kept k) (recs_alike (inside f) (node_frontier flow p f) (arrived ins before) (domain_alike d (inside f) ins before node.in_the_domain) ∙ sym (by_stamp ins (node_frontier flow p f) before)))
    (c.totals_at.ensures flow k (past_of ins bounded before) first (within_domain d settled (inside f) sub))
