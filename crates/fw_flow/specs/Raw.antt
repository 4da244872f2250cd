-- What the text of a flow declares, and the dataflow that this is.
use Rattle.std.specs.Prelude.{◌≡◌, ℕ, ◌<◌, ◌^◌, Bool, not, List, [], ◌∷◌, ◌++◌, length, None, option_map}
use Rattle.std.specs.List.{flat_map, position_or_len}
use Rattle.std.specs.Str.{bytes_eq}
use Rattle.fw_flow.specs.declared.node.Loop.{Loop}
use Rattle.fw_flow.specs.declared.node.Node.{Node}
use Rattle.fw_flow.specs.declared.node.Edge.{Edge}
use Rattle.fw_flow.specs.Declaring.{Declaration}
use Rattle.fw_flow.specs.declared.raw.Declaration.TheVariants.{Loop as ALoop, Node as ANode, Edge as AnEdge}
use Rattle.fw_flow.specs.Declaring.{Declared}
use Rattle.fw_flow.specs.declared.raw.NameSpaces.{NameSpaces}
use Rattle.fw_flow.specs.Dataflow.{Dataflow}
use Rattle.fw_flow.specs.Kind.{Kind, RawKind, kind_map}
use Rattle.fw_flow.specs.Names.{has_name}

-- the name of a loop that is declared
abbrev pub loop_name : Declared → List (List ℕ)
loop_name declared = name_in declared.declaration
  where
    name_in : Declaration → List (List ℕ)
    name_in (ALoop name max parent) = name ∷ []
    name_in (ANode name kind policy split part) = []
    name_in (AnEdge name sender receiver) = []

-- the name of a node that is declared
abbrev pub node_name : Declared → List (List ℕ)
node_name declared = name_in declared.declaration
  where
    name_in : Declaration → List (List ℕ)
    name_in (ALoop name max parent) = []
    name_in (ANode name kind policy split part) = name ∷ []
    name_in (AnEdge name sender receiver) = []

-- the name of an edge that is declared
abbrev pub edge_name : Declared → List (List ℕ)
edge_name declared = name_in declared.declaration
  where
    name_in : Declaration → List (List ℕ)
    name_in (ALoop name max parent) = []
    name_in (ANode name kind policy split part) = []
    name_in (AnEdge name sender receiver) = name ∷ []

-- the names of the loops, in order
abbrev pub loop_names : List Declared → List (List ℕ)
loop_names raw = flat_map loop_name raw

-- the names of the nodes, in order
abbrev pub node_names : List Declared → List (List ℕ)
node_names raw = flat_map node_name raw

-- the names of the edges, in order
abbrev pub edge_names : List Declared → List (List ℕ)
edge_names raw = flat_map edge_name raw

-- the names of declarations, in the three name spaces
abbrev pub names_of : List Declared → NameSpaces
names_of raw = record { loops = loop_names raw; nodes = node_names raw; edges = edge_names raw }

-- whether the name of a declaration is not taken in its name space
abbrev pub is_new_among : NameSpaces → Declaration → Bool
is_new_among names (ALoop name max parent) = not (has_name name names.loops)
is_new_among names (ANode name kind policy split part) = not (has_name name names.nodes)
is_new_among names (AnEdge name sender receiver) = not (has_name name names.edges)

-- the names with that of a declaration
abbrev pub with_name : NameSpaces → Declaration → NameSpaces
with_name names (ALoop name max parent) = record names { loops = names.loops ++ name ∷ [] }
with_name names (ANode name kind policy split part) = record names { nodes = names.nodes ++ name ∷ [] }
with_name names (AnEdge name sender receiver) = record names { edges = names.edges ++ name ∷ [] }

-- whether the name of a declaration is new after these
abbrev pub is_new : List Declared → Declaration → Bool
is_new raw declaration = is_new_among (names_of raw) declaration

-- these are the names of the declarations, of which there are fewer than 2^32
pub record AreNamed (names : NameSpaces) (raw : List Declared) : Type 0 where
  pub taken : names ≡ names_of raw
  pub few : length raw < 2 ^ 32

-- the place of a name among these, past the end where it is not among them
abbrev pub place_or_end : List (List ℕ) → List ℕ → ℕ
place_or_end names name = position_or_len (bytes_eq name) names

-- the kind, with its loop by its place among these names
abbrev pub resolved_kind : List (List ℕ) → RawKind → Kind
resolved_kind loops kind = kind_map (place_or_end loops) kind

-- the loop that is declared, if one is, with these names of loops
abbrev pub loop_in : List (List ℕ) → Declared → List Loop
loop_in loops declared = the_loop declared.declaration
  where
    the_loop : Declaration → List Loop
    the_loop (ALoop name max parent) = record { name = name; max = max; parent = option_map (place_or_end loops) parent } ∷ []
    the_loop (ANode name kind policy split part) = []
    the_loop (AnEdge name sender receiver) = []

-- the node that is declared, if one is, with these names of loops
abbrev pub node_in : List (List ℕ) → Declared → List Node
node_in loops declared = the_node declared.declaration
  where
    the_node : Declaration → List Node
    the_node (ALoop name max parent) = []
    the_node (ANode name kind policy split part) = record { name = name; kind = resolved_kind loops kind; policy = policy; part = part } ∷ []
    the_node (AnEdge name sender receiver) = []

-- the edge that is declared, if one is, with these names of nodes
abbrev pub edge_in : List (List ℕ) → Declared → List Edge
edge_in nodes declared = the_edge declared.declaration
  where
    the_edge : Declaration → List Edge
    the_edge (ALoop name max parent) = []
    the_edge (ANode name kind policy split part) = []
    the_edge (AnEdge name sender receiver) =
        record { name = name; sender = place_or_end nodes sender; receiver = place_or_end nodes receiver } ∷ []

-- the dataflow of these declarations, each of its parts in their order; a name that is not declared is a place past the end
abbrev pub flow_of_declarations : List Declared → Dataflow
flow_of_declarations raw = record {
  loops = flat_map (loop_in (loop_names raw)) raw;
  nodes = flat_map (node_in (loop_names raw)) raw;
  edges = flat_map (edge_in (node_names raw)) raw;
}
