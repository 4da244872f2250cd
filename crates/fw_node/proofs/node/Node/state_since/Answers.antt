use Rattle.std.proofs.Common.{◌≡◌, ◌&&◌, not, ℕ, Bool, List, true, length, sym, ap, ◌∙◌, subst}
use Rattle.std.specs.List.{AllByRecursion}
use Rattle.std.proofs.lemmas.Result.{IfOk-weaker}
use Rattle.fw_time.specs.Stamp.{Stamp as StampList, in_domain}
use Rattle.fw_time.specs.declared.stamp.Bounds.{Bounds}
use Rattle.fw_bag.specs.declared.rec.Rec.{Rec}
use Rattle.fw_bag.specs.Arrivals.{recs_inside}
use Rattle.fw_frontier.specs.Front.{Front, inside}
use Rattle.fw_frontier.specs.Frontier.{Within}
use Rattle.fw_flow.specs.declared.event.Event.{Event}
use Rattle.fw_flow.specs.declared.event.Message.{Message}
use Rattle.fw_flow.specs.Kind.{Kind}
use Rattle.fw_flow.specs.Dataflow.{bounds_of, kind_of, in_edges, node_frontier}
use Rattle.fw_flow.specs.NodeFunction.{delivered_recs}
use Rattle.fw_model.specs.Filtering.{events_inside}
use Rattle.fw_node.specs.Arrived.{arrived}
use Rattle.fw_node.specs.NodeTable.{IsNodeTable}
use Rattle.fw_node.specs.Past.{past_of, totals_changed}
use Rattle.fw_node.proofs.InsideLaws.{sent-told}
use Rattle.fw_node.proofs.NodeLaws.{domain_alike, within_domain}
use Rattle.fw_node.proofs.SameTable.{same_table}
use Rattle.fw_node.proofs.StateLaws.{fronts_within, recs_between, recs_until}
use Rattle.fw_node.proofs.node.Node.state_since.Goals as goal

pub returns-clause-state : goal.returns-clause-state
returns-clause-state c = λ flow p settled before sub more told node.
    let ins : List ℕ = in_edges flow p in
    let k : Kind = kind_of flow p in
    let g : Front = c.args.g.now in
    let f : Front = c.args.f.now in
    let inner : List Event = events_inside (node_frontier flow p f) before in
    let d : StampList → Bool = λ s. in_domain (bounds_of flow p) s in
    let bounded : StampList → Bool = λ s. d s && settled s in
    let first : IsNodeTable flow c.args.self.now.table k (past_of ins bounded before) =
    same_table flow (past_of ins settled before) bounded (domain_alike d settled ins before node.in_the_domain) c.args.self.now.table k node.table in
    let Of : Bounds → Type 0 = λ b. AllByRecursion (λ o. in_domain b o ≡ true) f in
    let within : Within (inside g) (inside f) = fronts_within (bounds_of flow p) g f (subst Of node.bounds c.requires.later) more in
    IfOk-weaker c.state_since.result _ _
    (λ state h. record {
      totals = h.totals
          ∙ ap (λ (rs : List Rec). totals_changed k rs (recs_inside (inside f) (arrived ins before))) (recs_between d (inside f) (inside g) ins before node.in_the_domain)
          ∙ ap (totals_changed k (delivered_recs (λ e s. not (node_frontier flow p g s)) inner)) (recs_until d (inside f) (inside g) ins before node.in_the_domain);
      sent = λ is. h.sent is ∙ sym (ap (λ (ms : List Message). length ms) (sent-told (node_frontier flow p f) before (told is)));
    })
    (c.state_since.ensures.state flow k (past_of ins bounded before) first (within_domain d settled (inside g) sub) within)
