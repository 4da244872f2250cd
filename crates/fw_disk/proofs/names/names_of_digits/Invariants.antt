use Rattle.std.proofs.Common.{◌≡◌, ◌++◌, map, length}
use Rattle.std.specs.Prelude.{string_bytes}
use Rattle.fw_disk.specs.Names.{digit_names}
use Rattle.fw_disk.proofs.names.names_of_digits.Given as goal

abbrev pub invariant-loop-name : goal.invariant-loop-name
invariant-loop-name l = map string_bytes l.names.items ++ digit_names l.rest ≡ digit_names l.read

abbrev pub decreases-loop-name : goal.decreases-loop-name
decreases-loop-name l = length l.rest
