use Rattle.std.proofs.Common.{◌≡◌, ◌-◌, []}
use Rattle.fw_bytes.specs.Reading.{many_of}
use Rattle.fw_came.specs.Came.{next_rec_of}
use Rattle.fw_came.proofs.reading.recs_from.Given as goal

abbrev pub invariant-loop : goal.invariant-loop
invariant-loop l = many_of next_rec_of (l.count - l.counter) l.recs.items l.rest ≡ many_of next_rec_of l.count [] l.bytes
