use Rattle.std.proofs.Common.{◌≡◌, drop}
use Rattle.fw_keep.specs.Joined.{counts_over}
use Rattle.fw_keep.proofs.joined.put_counts.Given as goal

abbrev pub invariant-loop-sent : goal.invariant-loop-sent
invariant-loop-sent l = counts_over l.counts.entries (drop l.sent-index l.sends) ≡ counts_over l.initial.counts.entries l.sends
