use Rattle.std.proofs.Common.{◌≡◌, ◌++◌, map}
use Rattle.fw_keep.specs.Joined.{count_at_cause}
use Rattle.fw_keep.proofs.joined.counts_of.Given as goal

abbrev pub invariant-loop-cause : goal.invariant-loop-cause
invariant-loop-cause l = l.sends.items ++ map count_at_cause l.cause-iterator ≡ map count_at_cause l.counts.entries
