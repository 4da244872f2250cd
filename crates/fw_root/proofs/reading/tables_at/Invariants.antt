use Rattle.std.proofs.Common.{◌≡◌, drop, []}
use Rattle.fw_root.specs.Reading.{many_for, read_sends_of}
use Rattle.fw_root.proofs.reading.tables_at.Given as goal

abbrev pub invariant-loop-node : goal.invariant-loop-node
invariant-loop-node l = many_for (read_sends_of l.flow) (drop l.node-index l.nodes) l.parts.items l.rest ≡ many_for (read_sends_of l.flow) l.nodes [] l.bytes
