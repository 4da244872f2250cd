use Rattle.std.proofs.Common.{◌≡◌, [], drop}
use Rattle.std.specs.List.{flat_map}
use Rattle.fw_keep.specs.Joined.{totals_over, totals_of_record}
use Rattle.fw_keep.proofs.joined.joined_entries.Given as goal

abbrev pub invariant-loop-record : goal.invariant-loop-record
invariant-loop-record l = totals_over l.totals.entries (flat_map totals_of_record (drop l.record-index l.under)) ≡ totals_over [] (flat_map totals_of_record l.under)
