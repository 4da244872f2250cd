-- An expansion of which it is said what each node is made of: so what the flow without the word is, can be told from it.
use Rattle.std.specs.Prelude.{◌≡◌, ℕ, ◌<◌, length}
use Rattle.fw_flow.specs.Dataflow.{System, node_at}
use Rattle.fw_split.specs.Expansion.{EdgeOrigin, NodeOrigin, Same, Replica, Gathered, SendsFor, IsExpansion}

-- the node of the flow without the word of which a node of this origin is made
abbrev pub node_of_origin : NodeOrigin → ℕ
node_of_origin (Same p) = p
node_of_origin (Replica p part) = p
node_of_origin (Gathered p) = p

-- The second system is an expansion of the first in which each node is made of a node that the first has, one alone sends what a node
-- sends, and it has the name of that node.
pub record IsExactExpansion (small large : System) (of_node : ℕ → NodeOrigin) (of_edge : ℕ → EdgeOrigin) : Type 0 where
  pub expansion : IsExpansion small large of_node of_edge
  pub within : (q : ℕ) → q < length large.flow.nodes → node_of_origin (of_node q) < length small.flow.nodes
  pub once : (p q r : ℕ) → q < length large.flow.nodes → r < length large.flow.nodes → SendsFor p (of_node q) → SendsFor p (of_node r) → q ≡ r
  pub named : (p q : ℕ) → q < length large.flow.nodes → SendsFor p (of_node q) → (node_at large.flow q).name ≡ (node_at small.flow p).name
