use Rattle.std.proofs.Common.{◌≡◌, ◌-◌, []}
use Rattle.fw_bytes.specs.Reading.{many_of}
use Rattle.fw_root.specs.Reading.{next_pending_of}
use Rattle.fw_root.proofs.parts.pending_at.Given as goal

abbrev pub invariant-loop : goal.invariant-loop
invariant-loop l = many_of (next_pending_of l.flow) (l.count - l.counter) l.parts.items l.rest ≡ many_of (next_pending_of l.flow) l.count [] l.bytes
