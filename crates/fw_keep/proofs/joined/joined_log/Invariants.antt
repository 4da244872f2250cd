use Rattle.std.proofs.Common.{◌≡◌, ◌++◌, drop}
use Rattle.std.specs.List.{flat_map}
use Rattle.fw_keep.specs.Joined.{log_of_record}
use Rattle.fw_keep.proofs.joined.joined_log.Given as goal

abbrev pub invariant-loop-record : goal.invariant-loop-record
invariant-loop-record l = l.messages.items ++ flat_map log_of_record (drop l.record-index l.under) ≡ flat_map log_of_record l.under
