-- How the rule on closed walks is decided: depth by depth, by the nodes to which a walk comes back.
use Rattle.std.specs.Prelude.{◌≡◌, ℕ, ◌<◌, Bool, true, not, ◌&&◌, ◌==◌, nat_le, List, length, slice_index_or}
use Rattle.fw_flow.specs.Kind.{Kind}
use Rattle.fw_flow.specs.declared.node.Node.{Node}
use Rattle.fw_flow.specs.declared.walks.Link.{Link}
use Rattle.fw_flow.specs.Dataflow.{Dataflow, kind_of, sender, receiver, domain_of_kind, loops_of}
use Rattle.fw_flow.specs.Walks.{Graph, Path, graph_of, link_at, listed_kind}
use Rattle.fw_flow.specs.WellFormed.{is_feedback_kind}

-- in how many loops a node of the kind lies
abbrev pub depth_of_kind : Dataflow → Kind → ℕ
depth_of_kind flow kind = length (loops_of flow (domain_of_kind flow kind))

-- in how many loops a node lies
abbrev pub depth_of : Dataflow → ℕ → ℕ
depth_of flow p = depth_of_kind flow (kind_of flow p)

-- whether the kind is a feedback of a loop of this depth
abbrev pub is_feedback_at : Dataflow → ℕ → Kind → Bool
is_feedback_at flow depth kind = is_feedback_kind kind && (depth_of_kind flow kind == depth)

-- the edges that stay at least so deep, and leave no feedback of a loop of this depth
abbrev pub depth_graph : Dataflow → ℕ → Graph
depth_graph flow depth = record {
  size = length flow.edges;
  source = sender flow;
  target = receiver flow;
  is_free = λ e.
      nat_le depth (depth_of flow (sender flow e))
      && (nat_le depth (depth_of flow (receiver flow e)) && not (is_feedback_at flow depth (kind_of flow (sender flow e))));
}

-- a path of such edges from a node of this depth back to it
pub record ReturningPath (flow : Dataflow) (depth : ℕ) : Type 0 where
  pub node : ℕ
  pub at : depth_of flow node ≡ depth
  pub path : Path (depth_graph flow depth) node node

-- ---- the same over lists of nodes, of their depths, and of links

-- the depth of a node; none past the last one
abbrev pub listed_depth : List ℕ → ℕ → ℕ
listed_depth depths p = slice_index_or depths p 0

-- whether a link stays at least so deep, and leaves no feedback of a loop of this depth
abbrev pub stays_deep : List Node → List ℕ → ℕ → Link → Bool
stays_deep nodes depths depth link =
    nat_le depth (listed_depth depths link.sender)
    && (nat_le depth (listed_depth depths link.receiver) && not (is_feedback_kind (listed_kind nodes link.sender) && (listed_depth depths link.sender == depth)))

-- of the first m links, the kept ones are those that pass the test
pub record AreKept (test : Link → Bool) (links : List Link) (m : ℕ) (kept : List Link) : Type 0 where
  pub only : (k : ℕ) → k < length kept → (e : ℕ) × (e < m) × (test (link_at links e) ≡ true) × (link_at kept k ≡ link_at links e)
  pub each : (e : ℕ) → e < m → test (link_at links e) ≡ true → (k : ℕ) × (k < length kept) × (link_at kept k ≡ link_at links e)

-- a path of the links from a node of this depth back to it
pub record ClosedPath (links : List Link) (depths : List ℕ) (depth : ℕ) : Type 0 where
  pub node : ℕ
  pub there : node < length depths
  pub at : listed_depth depths node ≡ depth
  pub path : Path (graph_of links) node node
