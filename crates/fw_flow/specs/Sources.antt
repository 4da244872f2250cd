-- The sources of a dataflow by their names, and the texts that give them batches.
use Rattle.std.specs.Prelude.{ℕ, if◌then◌else◌, List, [], ◌∷◌}
use Rattle.std.specs.List.{flat_map}
use Rattle.fw_lines.specs.Faults.{BreaksNone}
use Rattle.fw_lines.specs.Inputs as inputs
use Rattle.fw_flow.specs.Dataflow.{Dataflow, node_at, kind_of, is_input_kind, node_ids}

-- the node at a place by its name, if it is a source
abbrev pub source_named_at : Dataflow → ℕ → List (List ℕ × ℕ)
source_named_at flow place = if is_input_kind (kind_of flow place) then ((node_at flow place).name, place) ∷ [] else []

-- the sources of a dataflow by their names, in order of the nodes
abbrev pub sources_of : Dataflow → List (List ℕ × ℕ)
sources_of flow = flat_map (source_named_at flow) (node_ids flow)

-- the text gives batches to sources of the dataflow
abbrev pub AreInputsOf : Dataflow → List ℕ → Type 0
AreInputsOf flow text = BreaksNone (inputs.inputs_rules (sources_of flow)) text
