-- For the proofs of src/parts.rt and src/check.rt: the parts of a flow before its limits are tested.
use Rattle.std.specs.Prelude.{◌≡◌, ℕ, ◌==◌, ◌+◌, if◌then◌else◌, List, [], ◌∷◌, length}
use Rattle.std.specs.List.{flat_map}
use Rattle.fw_flow.specs.declared.check.Counts.{Counts}
use Rattle.fw_flow.specs.declared.parts.Parts.{Parts}
use Rattle.fw_flow.specs.Declaring.{Declared}
use Rattle.fw_flow.specs.declared.raw.NameSpaces.{NameSpaces}
use Rattle.fw_flow.specs.Check.{loop_lines, node_lines, edge_lines}
use Rattle.fw_flow.specs.Raw.{loop_names, node_names, edge_names, loop_in, node_in, edge_in}

-- these are the parts that the declarations give, with these names
pub record ArePartsOf (parts : Parts) (names : NameSpaces) (raw : List Declared) : Type 0 where
  pub all_loops : parts.loops.items ≡ flat_map (loop_in names.loops) raw
  pub all_nodes : parts.nodes.items ≡ flat_map (node_in names.loops) raw
  pub all_edges : parts.edges.items ≡ flat_map (edge_in names.nodes) raw
  pub lines_of_loops : parts.loop_lines.items ≡ loop_lines raw
  pub lines_of_nodes : parts.node_lines.items ≡ node_lines raw
  pub lines_of_edges : parts.edge_lines.items ≡ edge_lines raw

-- so many loops, nodes and edges are declared
pub record AreCountsDeclared (counts : Counts) (raw : List Declared) : Type 0 where
  pub of_loops : counts.loops ≡ length (loop_names raw)
  pub of_nodes : counts.nodes ≡ length (node_names raw)
  pub of_edges : counts.edges ≡ length (edge_names raw)

-- the places, counted from n, of the ends that are this node
abbrev pub places_from : ℕ → List ℕ → ℕ → List ℕ
places_from n [] p = []
places_from n (end ∷ ends) p = if end == p then n ∷ places_from (n + 1) ends p else places_from (n + 1) ends p
