use Rattle.std.proofs.Common.{◌≡◌, ◌++◌, take}
use Rattle.std.specs.List.{flat_map}
use Rattle.fw_root.specs.Spelling.{node_fronts_bytes}
use Rattle.fw_root.proofs.writing.put_fronts.Given as goal

abbrev pub invariant-loop-of_node : goal.invariant-loop-of_node
invariant-loop-of_node l = l.out.items ≡ l.fn.out.items ++ flat_map node_fronts_bytes (take l.of_node-index l.fronts)
