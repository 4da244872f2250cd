-- Walks over plain links, and which closed walks are wrong.
use Rattle.std.specs.Prelude.{◌≡◌, ℕ, ◌<◌, Bool, true, false, ◌⊎◌, if◌then◌else◌, ◌+◌, List, [], ◌∷◌, length, map, slice_index_or}
use Rattle.std.specs.List.{Contains}
use Rattle.std.specs.declared.alloc.Global.{Global}
use Rattle.std.specs.declared.vec.Vec.{Vec}
use Rattle.fw_flow.specs.Kind.{Kind}
use Rattle.fw_flow.specs.declared.node.Edge.{Edge}
use Rattle.fw_flow.specs.declared.node.Loop.{Loop}
use Rattle.fw_flow.specs.declared.node.Node.{Node}
use Rattle.fw_flow.specs.declared.walks.Link.{Link}
use Rattle.fw_flow.specs.Dataflow.{Dataflow, idle_node}
use Rattle.fw_flow.specs.Flow.{edges_at}
use Rattle.fw_flow.specs.WellFormed.{IsClosedWalk, Passes, StaysWithin, is_feedback_of, is_kind_in}

-- edges by their places, each from its source to its target, of which only the free ones are passed
pub record Graph : Type 0 where
  pub size : ℕ
  pub source : ℕ → ℕ
  pub target : ℕ → ℕ
  pub is_free : ℕ → Bool

-- free edges that follow each other from p to q
abbrev pub IsPath : Graph → ℕ → List ℕ → ℕ → Type 0
IsPath g p [] q = p ≡ q
IsPath g p (e ∷ es) q = (e < g.size) × (g.is_free e ≡ true) × (g.source e ≡ p) × IsPath g (g.target e) es q

-- a path of some edges from p to q
pub record Path (g : Graph) (p q : ℕ) : Type 0 where
  pub edges : List ℕ
  pub some : 0 < length edges
  pub path : IsPath g p edges q

-- the link of an edge
abbrev pub link_of : Edge → Link
link_of edge = record { sender = edge.sender; receiver = edge.receiver }

-- the link at a place; past the last one stand links from the first node to itself
abbrev pub link_at : List Link → ℕ → Link
link_at links e = slice_index_or links e (record { sender = 0; receiver = 0 })

-- whether a node is marked; none is past the last mark
abbrev pub is_marked : List Bool → ℕ → Bool
is_marked marks p = slice_index_or marks p false

-- the links as a graph, each of whose edges is passed
abbrev pub graph_of : List Link → Graph
graph_of links = record {
  size = length links;
  source = λ e. (link_at links e).sender;
  target = λ e. (link_at links e).receiver;
  is_free = λ e. true;
}

-- the links join nodes among so many
pub record AreWithin (places : ℕ) (links : List Link) : Type 0 where
  pub senders : (e : ℕ) → e < length links → (link_at links e).sender < places
  pub receivers : (e : ℕ) → e < length links → (link_at links e).receiver < places

-- how many nodes are not marked
abbrev pub unmarked_count : List Bool → ℕ
unmarked_count [] = 0
unmarked_count (mark ∷ marks) = (if mark then 0 else 1) + unmarked_count marks

-- each marked node is in the set
abbrev pub IsAmong : List Bool → (ℕ → Bool) → Type 0
IsAmong marks set = (p : ℕ) → is_marked marks p ≡ true → set p ≡ true

-- of the first m links, those that leave a node of the set lead to a node of it
abbrev pub IsClosedUnder : List Link → ℕ → (ℕ → Bool) → Type 0
IsClosedUnder links m set = (e : ℕ) → e < m → set (link_at links e).sender ≡ true → set (link_at links e).receiver ≡ true

-- the lists have, for each node, exactly the receivers of those of the first m links that leave it
pub record AreOnward (links : List Link) (m : ℕ) (onward : List (Vec ℕ Global)) : Type 0 where
  pub each : (e : ℕ) → e < m → Contains (edges_at onward (link_at links e).sender) (link_at links e).receiver
  pub only : (p r : ℕ) → Contains (edges_at onward p) r → (e : ℕ) × (e < m) × ((link_at links e).sender ≡ p) × ((link_at links e).receiver ≡ r)

-- the lists have only nodes for which there is a list
abbrev pub AreOnwardWithin : List (Vec ℕ Global) → Type 0
AreOnwardWithin onward = (p r : ℕ) → Contains (edges_at onward p) r → r < length onward

-- the places are marked now, nothing else is new, and what is newly marked is added to the nodes that wait
pub record AreMarked (places : List ℕ) (old now : List Bool) (waiting_before waiting_now : List ℕ) : Type 0 where
  pub len : length now ≡ length old
  pub count : unmarked_count now + length waiting_now ≡ unmarked_count old + length waiting_before
  pub kept : (p : ℕ) → is_marked old p ≡ true → is_marked now p ≡ true
  pub each : (p : ℕ) → Contains places p → is_marked now p ≡ true
  pub only : (p : ℕ) → is_marked now p ≡ true → (is_marked old p ≡ true) ⊎ (Contains places p × Contains waiting_now p)
  pub still_waiting : (p : ℕ) → Contains waiting_before p → Contains waiting_now p
  pub waiting : (p : ℕ) → Contains waiting_now p → Contains waiting_before p ⊎ (is_marked now p ≡ true)

-- the marked nodes are the least set that holds the node and that no link leaves
pub record IsReachOf (links : List Link) (node : ℕ) (marks : List Bool) : Type 0 where
  pub start : is_marked marks node ≡ true
  pub closed : IsClosedUnder links (length links) (is_marked marks)
  pub only : (set : ℕ → Bool) → IsClosedUnder links (length links) set → set node ≡ true → IsAmong marks set

-- a link leads from a marked node to the node
abbrev pub LeadsBack : List Link → List Bool → ℕ → Type 0
LeadsBack links marks node = (e : ℕ) × (e < length links) × (is_marked marks (link_at links e).sender ≡ true) × ((link_at links e).receiver ≡ node)

-- the kind of the node at a place of the list; past the last one stand idle outputs
abbrev pub listed_kind : List Node → ℕ → Kind
listed_kind nodes p = (slice_index_or nodes p idle_node).kind

-- the dataflow has these loops, these nodes, and edges with these links
pub record IsMadeOf (flow : Dataflow) (loops : List Loop) (nodes : List Node) (links : List Link) : Type 0 where
  pub of_loops : flow.loops ≡ loops
  pub of_nodes : flow.nodes ≡ nodes
  pub of_links : map link_of flow.edges ≡ links

-- no closed walk passes a node of a kind of this sort
abbrev pub NoClosedWalkPasses : Dataflow → (Kind → Bool) → Type 0
NoClosedWalkPasses flow sort = (p : ℕ) (es : List ℕ) → IsClosedWalk flow p es → Passes flow sort es → ⊥

-- a closed walk that passes a node of a kind of this sort
pub record PassingWalk (flow : Dataflow) (sort : Kind → Bool) : Type 0 where
  pub node : ℕ
  pub edges : List ℕ
  pub closed : IsClosedWalk flow node edges
  pub passes : Passes flow sort edges

-- each closed walk through a node of the loop's own domain that stays in the loop passes a feedback of it
abbrev pub EachWalkWithinIsFedBack : Dataflow → ℕ → Type 0
EachWalkWithinIsFedBack flow l = (p : ℕ) (es : List ℕ) → IsClosedWalk flow p es → StaysWithin flow l es
    → Passes flow (is_kind_in flow l) es → Passes flow (is_feedback_of l) es

-- a closed walk through a node of the loop's own domain that stays in the loop, and passes no feedback of it
pub record SlippingWalk (flow : Dataflow) (l : ℕ) : Type 0 where
  pub node : ℕ
  pub edges : List ℕ
  pub closed : IsClosedWalk flow node edges
  pub stays : StaysWithin flow l edges
  pub passes : Passes flow (is_kind_in flow l) edges
  pub avoids : Passes flow (is_feedback_of l) edges → ⊥
