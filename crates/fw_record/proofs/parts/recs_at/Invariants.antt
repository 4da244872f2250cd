use Rattle.std.proofs.Common.{◌≡◌, ◌-◌, []}
use Rattle.fw_bytes.specs.Reading.{many_of}
use Rattle.fw_record.specs.Reading.{next_total_of}
use Rattle.fw_record.proofs.parts.recs_at.Given as goal

abbrev pub invariant-loop : goal.invariant-loop
invariant-loop l = many_of next_total_of (l.count - l.counter) l.parts.items l.rest ≡ many_of next_total_of l.count [] l.bytes
