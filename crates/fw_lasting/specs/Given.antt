-- Batches of nodes in a row, as batches by node.
use Rattle.std.specs.Prelude.{List}
use Rattle.std.specs.List.{enumerate_from}
use Rattle.fw_bag.specs.declared.rec.Rec.{Rec}
use Rattle.fw_root.specs.OfFlow.{Given}

-- the first of these are those of node 0, and so on
abbrev pub batches_by_node : List (List (List Rec)) → Given
batches_by_node batches = enumerate_from 0 batches
