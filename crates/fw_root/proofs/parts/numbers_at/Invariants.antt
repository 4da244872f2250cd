use Rattle.std.proofs.Common.{◌≡◌, drop, []}
use Rattle.fw_root.specs.Reading.{many_for, number_for}
use Rattle.fw_root.proofs.parts.numbers_at.Given as goal

abbrev pub invariant-loop-node : goal.invariant-loop-node
invariant-loop-node l = many_for (number_for l.flow l.batches) (drop l.node-index l.nodes) l.parts.items l.rest ≡ many_for (number_for l.flow l.batches) l.nodes [] l.bytes
