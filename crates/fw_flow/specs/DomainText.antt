-- How a domain is printed, and the names of loops and edges.
use Rattle.std.specs.Prelude.{ℕ, List, [], ◌++◌, length, codes, None, slice_index_or}
use Rattle.fw_flow.specs.declared.kind.Domain.{Domain}
use Rattle.fw_flow.specs.declared.kind.Domain.TheVariants.{Epoch, Number, Loop as InLoop}
use Rattle.fw_flow.specs.Dataflow.{Dataflow}

-- the name of a loop; past the last loop it is empty
abbrev pub name_of_loop : Dataflow → ℕ → List ℕ
name_of_loop flow l = (slice_index_or flow.loops l (record { name = []; max = 0; parent = None })).name

-- the name of an edge; past the last edge it is empty
abbrev pub name_of_edge : Dataflow → ℕ → List ℕ
name_of_edge flow e = (slice_index_or flow.edges e (record { name = []; sender = length flow.nodes; receiver = length flow.nodes })).name

-- `epoch`, `number`, or `loop:` and the name of the loop
abbrev pub domain_text : Dataflow → Domain → List ℕ
domain_text flow Epoch = codes "epoch"
domain_text flow Number = codes "number"
domain_text flow (InLoop l) = codes "loop:" ++ name_of_loop flow l
