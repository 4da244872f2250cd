use Rattle.std.proofs.Common.{◌≡◌, length}
use Rattle.fw_model.specs.Machine.{AreCanonical}
use Rattle.fw_progress.specs.Leap.{AreRaisedUpTo}
use Rattle.fw_progress.proofs.leap.raised.Given as goal

abbrev pub invariant-loop-place : goal.invariant-loop-place
invariant-loop-place l = record {
  one_each : length l.next.items ≡ l.place;
  canonical : AreCanonical l.flow l.next.items;
  raised : AreRaisedUpTo l.marks l.place l.fronts l.next.items;
}
