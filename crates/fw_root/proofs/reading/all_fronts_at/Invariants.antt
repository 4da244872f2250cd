use Rattle.std.proofs.Common.{◌≡◌, drop, []}
use Rattle.fw_root.specs.Reading.{many_for, read_node_fronts}
use Rattle.fw_root.proofs.reading.all_fronts_at.Given as goal

abbrev pub invariant-loop-node : goal.invariant-loop-node
invariant-loop-node l = many_for (read_node_fronts l.flow l.batches l.injected) (drop l.node-index l.nodes) l.parts.items l.rest ≡ many_for (read_node_fronts l.flow l.batches l.injected) l.nodes [] l.bytes
