use Rattle.std.proofs.Common.{◌≡◌, [], drop}
use Rattle.std.specs.List.{flat_map}
use Rattle.fw_keep.specs.Joined.{counts_over, sends_of_record}
use Rattle.fw_keep.proofs.joined.joined_sends.Given as goal

abbrev pub invariant-loop-record : goal.invariant-loop-record
invariant-loop-record l = counts_over l.counts.entries (flat_map sends_of_record (drop l.record-index l.under)) ≡ counts_over [] (flat_map sends_of_record l.under)
