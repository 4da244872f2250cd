use Rattle.std.proofs.Common.{◌≡◌, take}
use Rattle.fw_policy.specs.Offering.{stamps_in_flight}
use Rattle.fw_fail.proofs.failure.in_flight.Given as goal

abbrev pub invariant-loop-entry : goal.invariant-loop-entry
invariant-loop-entry l = l.stamps.items ≡ stamps_in_flight l.node (take l.entry-index l.entries)
