-- What names stand for in a dataflow.
use Rattle.std.specs.Prelude.{ℕ, Bool, false, ◌&&◌, List, [], ◌∷◌, map, if◌then◌else◌, Option, Some, None}
use Rattle.std.specs.List.{list_all}
use Rattle.std.specs.Option.{option_map, option_and_then}
use Rattle.fw_flow.specs.FullNames.{is_full_name}
use Rattle.fw_flow.specs.Kind.{Kind}
use Rattle.fw_flow.specs.declared.node.Node.{Node}
use Rattle.fw_flow.specs.declared.node.Edge.{Edge}
use Rattle.fw_flow.specs.Dataflow.{Dataflow, kind_of}
use Rattle.fw_flow.specs.Names.{place_of}

-- whether the words are one name or more
abbrev pub are_names : List (List ℕ) → Bool
are_names [] = false
are_names (name ∷ names) = is_full_name name && list_all is_full_name names

-- the place of the node with a name
abbrev pub node_with_name : Dataflow → List ℕ → Option ℕ
node_with_name flow name = place_of name (map (λ (n : Node). n.name) flow.nodes)

-- the place of the edge with a name
abbrev pub edge_named : Dataflow → List ℕ → Option ℕ
edge_named flow name = place_of name (map (λ (e : Edge). e.name) flow.edges)

-- the place, if the node there is of such a kind
abbrev pub if_kind : Dataflow → (Kind → Bool) → ℕ → Option ℕ
if_kind flow is_such node = if is_such (kind_of flow node) then Some node else None

-- the place of the node with a name, if it is of such a kind
abbrev pub node_of_kind : Dataflow → (Kind → Bool) → List ℕ → Option ℕ
node_of_kind flow is_such name = option_and_then (if_kind flow is_such) (node_with_name flow name)

-- the places of the nodes with these names, in their order, if each is that of a node
abbrev pub nodes_named : Dataflow → List (List ℕ) → Option (List ℕ)
nodes_named flow [] = Some []
nodes_named flow (name ∷ names) =
    option_and_then (λ node. option_map (λ nodes. node ∷ nodes) (nodes_named flow names)) (node_with_name flow name)
