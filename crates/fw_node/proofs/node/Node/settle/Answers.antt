use Rattle.std.proofs.Common.{◌∙◌, ◌&&◌, ℕ, Bool, List}
use Rattle.std.proofs.lemmas.Result.{on_ok_weaker}
use Rattle.fw_time.specs.Stamp.{Stamp as StampList, in_domain}
use Rattle.fw_frontier.specs.Front.{Front, inside}
use Rattle.fw_flow.specs.Kind.{Kind}
use Rattle.fw_flow.specs.Dataflow.{bounds_of, kind_of, in_edges, node_frontier}
use Rattle.fw_node.specs.NodeTable.{IsNodeTable}
use Rattle.fw_node.specs.Past.{past_of}
use Rattle.fw_node.proofs.NodeLaws.{domain_alike, told_where, within_domain}
use Rattle.fw_node.proofs.SameTable.{same_table}
use Rattle.fw_node.proofs.node.Node.settle.Goals as goal

pub returns-clause-ok : goal.returns-clause-ok
returns-clause-ok c = λ flow p settled before sub told node.
    let ins : List ℕ = in_edges flow p in
    let k : Kind = kind_of flow p in
    let f : Front = c.args.f.now in
    let d : StampList → Bool = λ s. in_domain (bounds_of flow p) s in
    let bounded : StampList → Bool = λ s. d s && settled s in
    let first : IsNodeTable flow c.args.self.now.table k (past_of ins bounded before) =
    same_table flow (past_of ins settled before) bounded (domain_alike d settled ins before node.in_the_domain) c.args.self.now.table k node.table in
    on_ok_weaker c.settle-settled.result
    (λ t. record {
      table = same_table flow (past_of ins (inside f) before) (node_frontier flow p f) (domain_alike d (inside f) ins before node.in_the_domain) c.settle-settled.new.self k t;
      sides = node.sides;
      bounds = node.bounds;
      places = node.places;
      on_edges = node.on_edges;
      in_the_domain = node.in_the_domain;
    })
    (c.settle-settled.ensures.ok flow k (past_of ins bounded before) first (within_domain d settled (inside f) sub) (told_where flow p ins f bounded before node.in_the_domain told))

pub returns-clause-node : goal.returns-clause-node
returns-clause-node c = λ flow p n. record { table = c.settle-settled.ensures.of_kind flow (kind_of flow p) ∙ n.table; sides = n.sides; bounds = n.bounds }
