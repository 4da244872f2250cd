use Rattle.std.proofs.Common.{◌≡◌, length}
use Rattle.fw_model.specs.Machine.{AreCanonical}
use Rattle.fw_progress.specs.Leap.{AreLeftBy}
use Rattle.fw_progress.proofs.leap.lowered.Given as goal

abbrev pub invariant-loop : goal.invariant-loop
invariant-loop l = record {
  one_each : length l.next.items ≡ length l.flow.nodes;
  canonical : AreCanonical l.flow l.next.items;
  left : AreLeftBy l.flow l.counts l.marks l.counter l.fronts l.next.items;
}
