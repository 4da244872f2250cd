-- The tables of the nodes of a dataflow, by the node's place.
use Rattle.std.specs.Prelude.{ℕ, List, Option, None, slice_index_or}
use Rattle.fw_node.specs.declared.node.Node.{Node}

-- the table of a node, if it has one
abbrev pub table_at : List (Option Node) → ℕ → Option Node
table_at tables p = slice_index_or tables p None
