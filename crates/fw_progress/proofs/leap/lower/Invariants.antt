use Rattle.std.proofs.Common.{◌≡◌, ◌≤◌, length}
use Rattle.fw_model.specs.Machine.{AreCanonical}
use Rattle.fw_progress.specs.Leap.{AreLoweredSoFar}
use Rattle.fw_progress.proofs.leap.lower.Given as goal

abbrev pub invariant-loop-place : goal.invariant-loop-place
invariant-loop-place l = record {
  one_each : length l.next.items ≡ length l.flow.nodes;
  canonical : AreCanonical l.flow l.next.items;
  there : l.place ≤ length l.flow.nodes;
  lowered : AreLoweredSoFar l.flow l.counts l.marks l.place l.lowered l.fn.next.items l.next.items;
}
