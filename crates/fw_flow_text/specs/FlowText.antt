-- How a dataflow is written.
use Rattle.std.specs.Prelude.{ℕ, List, ◌++◌, length, None, option_map}
use Rattle.std.specs.List.{flat_map, range_with_len}
use Rattle.fw_lines.specs.Written.{line_text}
use Rattle.fw_flow.specs.Declaring.{Declaration}
use Rattle.fw_flow.specs.declared.raw.Declaration.TheVariants.{Loop, Node, Edge}
use Rattle.fw_flow.specs.Kind.{Kind, RawKind, kind_map}
use Rattle.fw_flow.specs.Dataflow.{Dataflow, node_at, kind_of, policy_of, sender, receiver, max_of, declared_parent, node_ids}
use Rattle.fw_flow.specs.DomainText.{name_of_edge, name_of_loop}
use Rattle.fw_flow_text.specs.Spelled.{declaration_words}

-- the kind with its loop by its name
abbrev pub named_kind : Dataflow → Kind → RawKind
named_kind flow kind = kind_map (name_of_loop flow) kind

-- what declares the loop at a place
abbrev pub declared_loop : Dataflow → ℕ → Declaration
declared_loop flow l = Loop (name_of_loop flow l) (max_of flow l) (option_map (name_of_loop flow) (declared_parent flow l))

-- what declares the node at a place, which is not split and no replica
abbrev pub declared_node : Dataflow → ℕ → Declaration
declared_node flow p = Node (node_at flow p).name (named_kind flow (kind_of flow p)) (policy_of flow p) None None

-- what declares the edge at a place
abbrev pub declared_edge : Dataflow → ℕ → Declaration
declared_edge flow e = Edge (name_of_edge flow e) (node_at flow (sender flow e)).name (node_at flow (receiver flow e)).name

-- the line of the loop, the node or the edge at a place: the words of what declares it
abbrev pub loop_line_of : Dataflow → ℕ → List ℕ
loop_line_of flow l = line_text (declaration_words (declared_loop flow l))

abbrev pub node_line_of : Dataflow → ℕ → List ℕ
node_line_of flow p = line_text (declaration_words (declared_node flow p))

abbrev pub edge_line_of : Dataflow → ℕ → List ℕ
edge_line_of flow e = line_text (declaration_words (declared_edge flow e))

-- the lines of the loops, of the nodes and of the edges
abbrev pub loop_lines_text : Dataflow → List ℕ
loop_lines_text flow = flat_map (loop_line_of flow) (range_with_len 0 (length flow.loops))

abbrev pub node_lines_text : Dataflow → List ℕ
node_lines_text flow = flat_map (node_line_of flow) (range_with_len 0 (length flow.nodes))

abbrev pub edge_lines_text : Dataflow → List ℕ
edge_lines_text flow = flat_map (edge_line_of flow) (range_with_len 0 (length flow.edges))

-- the text of a dataflow: the lines of its loops, of its nodes and of its edges, each in order
abbrev pub text_of_flow : Dataflow → List ℕ
text_of_flow flow = loop_lines_text flow ++ (node_lines_text flow ++ edge_lines_text flow)
