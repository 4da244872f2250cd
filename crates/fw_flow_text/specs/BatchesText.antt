-- How the batches of a dataflow's inputs are written.
use Rattle.std.specs.Prelude.{ℕ, List, [], ◌++◌, map, if◌then◌else◌, codes}
use Rattle.std.specs.List.{flat_map}
use Rattle.fw_bag.specs.declared.rec.Rec.{Rec}
use Rattle.fw_bag.specs.RecText.{rec_text}
use Rattle.fw_lines.specs.Batches.{batches_at}
use Rattle.fw_lines.specs.Written.{spaced}
use Rattle.fw_flow.specs.Dataflow.{Dataflow, node_at, kind_of, is_input_kind, node_ids}

-- the line of a batch: `batch`, the input's name and the recs
abbrev pub line_of_batch : List ℕ → List Rec → List ℕ
line_of_batch name recs = codes "batch " ++ name ++ spaced (map rec_text recs) ++ codes "\n"

-- the lines of an input's batches, by epoch
abbrev pub lines_of_batches : List ℕ → List (List Rec) → List ℕ
lines_of_batches name batches = flat_map (line_of_batch name) batches

-- the lines of a node: those of its batches, if it is an input
abbrev pub lines_of_node : Dataflow → List (ℕ × List (List Rec)) → ℕ → List ℕ
lines_of_node flow batches p = if is_input_kind (kind_of flow p) then lines_of_batches (node_at flow p).name (batches_at batches p) else []

-- the text of batches: the lines of each node, in order
abbrev pub text_of_batches : Dataflow → List (ℕ × List (List Rec)) → List ℕ
text_of_batches flow batches = flat_map (lines_of_node flow batches) (node_ids flow)
