use Rattle.std.proofs.Common.{◌≡◌, ◌-◌, []}
use Rattle.fw_bytes.specs.Reading.{many_of}
use Rattle.fw_record.specs.Reading.{of_edge_of}
use Rattle.fw_record.proofs.reading.of_edges_from.Given as goal

abbrev pub invariant-loop : goal.invariant-loop
invariant-loop l = many_of of_edge_of (l.count - l.counter) l.parts.items l.rest ≡ many_of of_edge_of l.count [] l.bytes
