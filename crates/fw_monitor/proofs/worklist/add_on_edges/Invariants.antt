use Rattle.std.proofs.Common.{◌≡◌, ◌++◌, map, take}
use Rattle.fw_monitor.specs.Worklist.{inclusion_on_edge}
use Rattle.fw_monitor.proofs.worklist.add_on_edges.Given as goal

abbrev pub invariant-loop-edge : goal.invariant-loop-edge
invariant-loop-edge l = l.all.items ≡ l.fn.all.items ++ map (inclusion_on_edge l.what) (take l.edge-index l.edges)
