use Rattle.std.proofs.Common.{◌≡◌, ◌-◌, []}
use Rattle.fw_bytes.specs.Reading.{many_of}
use Rattle.fw_root.specs.Reading.{next_outside_of}
use Rattle.fw_root.proofs.parts.outside_at.Given as goal

abbrev pub invariant-loop : goal.invariant-loop
invariant-loop l = many_of (next_outside_of l.bounds l.extent) (l.count - l.counter) l.parts.items l.rest ≡ many_of (next_outside_of l.bounds l.extent) l.count [] l.bytes
