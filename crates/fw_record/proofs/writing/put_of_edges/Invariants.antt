use Rattle.std.proofs.Common.{◌≡◌, ◌++◌, length, take}
use Rattle.std.specs.List.{flat_map, AllByRecursion}
use Rattle.fw_bytes.specs.Spelling.{u32_bytes, IsCountable}
use Rattle.fw_record.specs.Spelling.{of_edge_bytes}
use Rattle.fw_record.proofs.writing.put_of_edges.Given as goal

-- the bytes so far, and that the fronts so far have no more stamps than their counts can say
abbrev pub invariant-loop-of_edge : goal.invariant-loop-of_edge
invariant-loop-of_edge l =
    (l.out.items ≡ (l.fn.out.items ++ u32_bytes (length l.fronts)) ++ flat_map of_edge_bytes (take l.of_edge-index l.fronts))
    × AllByRecursion (λ e. IsCountable e.front) (take l.of_edge-index l.fronts)
