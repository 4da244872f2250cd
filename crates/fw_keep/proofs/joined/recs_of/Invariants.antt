use Rattle.std.proofs.Common.{◌≡◌, ◌++◌, map}
use Rattle.fw_keep.specs.Joined.{total_at_key}
use Rattle.fw_keep.proofs.joined.recs_of.Given as goal

abbrev pub invariant-loop-key : goal.invariant-loop-key
invariant-loop-key l = l.recs.items ++ map total_at_key l.key-iterator ≡ map total_at_key l.totals.entries
